-- the list is of what was read, in the order of the paths
use Rattle.std.proofs.Common.{◌∙◌, ap, length, refl, sym}
use Rattle.std.proofs.lemmas.List.{length-map}
use Rattle.tor_meta.specs.Head.{settings_of}
use Rattle.tor_meta.proofs.ContentSteps.{have_trees}
use Rattle.tor_meta.proofs.Made.{files_lawful}
use Rattle.tor_meta.proofs.StreamSums.{lengths_read, listed}
use Rattle.tor_spec.specs.Metainfo.{metainfo}
use Rattle.tor_tree.specs.FileList.{lengths_fault}
use Rattle.tor_meta.proofs.from_streams.torrent_of_read.Goals as goal

pub lettered_list-requires-clause-counted : goal.lettered_list-requires-clause-counted
lettered_list-requires-clause-counted c =
    let summed = c.requires.summed in
    ap length (c.deref.ensures.value
    ∙ lengths_read (settings_of c.args.head.now) summed.0 c.args.sums.now summed.2)
    ∙ length-map summed.0 length ∙ summed.1

pub torrent_of_sums-requires : goal.torrent_of_sums-requires
torrent_of_sums-requires c =
    let head = c.args.head.now in
    let sums = c.args.sums.now in
    let list = c.in-Ok.list in
    let summed = c.requires.summed in
    let is = listed head (settings_of head) c.args.files.now c.args.paths list c.deref.result.now sums summed.0 refl
    c.requires.judged c.requires.indexed c.requires.same c.deref.ensures.value c.in-Ok.ensures.list
    c.in-Ok.ensures.letters (files_lawful list (rw (← c.list.view_is) c.list.invariant)) summed.1 summed.2 in
    record { judged = is.judged; trees = have_trees head list.files summed.0 sums is.fit is.up }

pub returns-clause-made : goal.returns-clause-made
returns-clause-made c = λ contents many up.
    let head = c.args.head.now in
    let list = c.in-Ok.list in
    let is = listed head (settings_of head) c.args.files.now c.args.paths list c.deref.result.now c.args.sums.now
    contents refl c.requires.judged c.requires.indexed c.requires.same c.deref.ensures.value c.in-Ok.ensures.list
    c.in-Ok.ensures.letters (files_lawful list (rw (← c.list.view_is) c.list.invariant)) many up in
    c.in_ok-bytes.ensures.made contents is.fit is.up ∙ ap (metainfo (settings_of head)) is.files

pub returns-clause-accepted : goal.returns-clause-accepted
returns-clause-accepted c = ap lengths_fault (sym c.deref.ensures.value) ∙ c.in-Ok.ensures.accepted
