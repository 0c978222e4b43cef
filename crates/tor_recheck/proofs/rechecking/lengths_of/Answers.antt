-- the length of one more file, and of all of them
use Rattle.std.proofs.lemmas.List.{map_more}
use Rattle.tor_recheck.proofs.Names.{◌∙◌, [], ◌∷◌, ◌++◌, ap, ap₂, map, sym, take_all}
use Rattle.tor_recheck.proofs.rechecking.lengths_of.Goals as goal

pub files-preserved : goal.files-preserved
files-preserved c =
    c.in_ok-push.ensures.items
    ∙ ap₂ (λ lengths length. lengths ++ length ∷ []) c.files.invariant
    (ap (λ file. file.length) c.file.ensures ∙ ap (λ told. told.file.length) c.file-item.is)
    ∙ sym (map_more (λ told. told.file.length) c.args.files.now c.files.file-index c.file-item.result c.files-test.true)

pub returns : goal.returns
returns c =
    c.files.invariant
    ∙ ap (map (λ told. told.file.length)) (take_all c.files.file-index c.args.files.now c.files-test.false)
