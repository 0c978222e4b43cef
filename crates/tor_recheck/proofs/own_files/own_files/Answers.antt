-- at the end all files
use Rattle.tor_recheck.proofs.Names.{◌∙◌, ◌++◌, ◌∷◌, [], List, ap, ap₂, map, sym, take, take_all, take_more}
use Rattle.std.proofs.lemmas.List.{map-append}
use Rattle.tor_recheck.proofs.OwnSpans.{own_by_spans}
use Rattle.tor_view.specs.FileBytes.{PiecedFile, has_piece_between}
use Rattle.tor_recheck.proofs.own_files.own_files.Goals as goal

pub files-init : goal.files-init
files-init c = c.in_ok-own.ensures.items

pub files-preserved : goal.files-preserved
files-preserved c =
    let test = has_piece_between c.args.from c.args.to in
    let items = c.as_slice-file-items.result.now in
    let i = c.files.file-index in
    c.in_ok-push.ensures.items
    ∙ ap₂ (λ bits bit. bits ++ bit ∷ []) c.files.invariant (c.has_piece_between.ensures ∙ ap test c.file-item.is)
    ∙ sym (ap (map test) (take_more items i c.file-item.result c.files-test.true)
    ∙ map-append test (take i items) (_ ∷ []))

pub returns : goal.returns
returns c =
    let view = c.args.torrent.now in
    let requires = c.requires in
    c.files.invariant
    ∙ ap (λ (files : List PiecedFile). map (has_piece_between c.args.from c.args.to) files)
    (take_all c.files.file-index c.as_slice-file-items.result.now c.files-test.false
    ∙ c.as_slice-file-items.ensures.value ∙ c.in_ok-files.ensures.files)
    ∙ own_by_spans view requires.cut c.args.from c.args.to requires.ordered requires.within
