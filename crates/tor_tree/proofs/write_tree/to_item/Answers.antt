use Rattle.tor_tree.proofs.Cited.{refl, recursion_from_All}
use Rattle.tor_tree.proofs.FileTrees.{made_file_tree}
use Rattle.tor_tree.proofs.ListFaults.{small_files}
use Rattle.tor_tree.proofs.Readable.{all_named, readable}
use Rattle.tor_tree.proofs.TreeOfFiles.{below_none, one_root_each}
use Rattle.tor_tree.proofs.ItemMemory.{dictionary_of_item}
use Rattle.tor_tree.proofs.write_tree.to_item.Goals as goal

pub folder-requires-clause-small : goal.folder-requires-clause-small
folder-requires-clause-small c =
    rw c.files.ensures.value (small_files c.args.list.now.files c.files.ensures.lawful.faultless)

pub folder-requires-clause-one_each : goal.folder-requires-clause-one_each
folder-requires-clause-one_each c =
    rw c.files.ensures.value (one_root_each c.args.list.now.files c.args.roots.now c.requires)

pub returns-clause-made : goal.returns-clause-made
returns-clause-made c =
    let made = rw (c.files.ensures.value, c.attrs.ensures.value) at c.in_ok-folder.ensures.made in
    let list = c.args.list.now in
    rw (dictionary_of_item c.in_ok-folder.field-0, made, below_none list.files list.attrs c.args.roots.now) refl

pub returns-clause-tidy : goal.returns-clause-tidy
returns-clause-tidy c =
    let lawful = c.files.ensures.lawful in
    let list = c.args.list.now in
    rw (returns-clause-made c) (made_file_tree list.files list.attrs c.args.roots.now c.attrs.ensures.one_each
    c.requires lawful.in_order (all_named list.files (recursion_from_All _ list.files lawful.named)))

pub returns-clause-readable : goal.returns-clause-readable
returns-clause-readable c =
    let rooted = recursion_from_All _ c.args.roots.now c.in_ok-folder.ensures.rooted in
    let list = c.args.list.now in
    readable list.files list.attrs c.args.roots.now _ (returns-clause-tidy c) c.attrs.ensures.one_each
    c.files.ensures.lawful c.requires rooted
