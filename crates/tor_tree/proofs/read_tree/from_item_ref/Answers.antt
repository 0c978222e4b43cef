use Rattle.tor_tree.proofs.Cited.{◌≡◌, ◌∙◌, sym, map, [], inl, IfOk-weaker, ref_view, entries_of, entry_at}
use Rattle.tor_tree.proofs.TreeFaults.{fault_told, tree_faultless, paths_told, files_told}
use Rattle.tor_tree.proofs.read_tree.from_item_ref.Goals as goal

pub files_of-requires : goal.files_of-requires
files_of-requires c =
    let read : c.add_folder.new.entries.items ≡ map (entry_at []) (entries_of (ref_view c.args.item.now)) =
    rw (c.new-entries.ensures.items, c.new.ensures.items) at c.in_ok-add_folder.ensures.added in
    rw (← c.deref.ensures.value) (paths_told (ref_view c.args.item.now) c.in_ok-add_folder.ensures.shaped
    c.deref.result.now (c.deref.ensures.value ∙ read) c.mixes.result c.mixes.ensures c.in-None.ensures)

pub returns-in-Some-clause-refused : goal.returns-in-Some-clause-refused
returns-in-Some-clause-refused c =
    let read : c.add_folder.new.entries.items ≡ map (entry_at []) (entries_of (ref_view c.args.item.now)) =
    rw (c.new-entries.ensures.items, c.new.ensures.items) at c.in_ok-add_folder.ensures.added in
    inl (sym (c.in-Some.ensures ∙ fault_told (ref_view c.args.item.now) c.in_ok-add_folder.ensures.shaped
    c.deref.result.now (c.deref.ensures.value ∙ read) c.mixes.result c.mixes.ensures))

pub returns-in-None-clause-files : goal.returns-in-None-clause-files
returns-in-None-clause-files c =
    let read : c.add_folder.new.entries.items ≡ map (entry_at []) (entries_of (ref_view c.args.item.now)) =
    rw (c.new-entries.ensures.items, c.new.ensures.items) at c.in_ok-add_folder.ensures.added in
    let told = files_told (ref_view c.args.item.now) c.in_ok-add_folder.ensures.shaped c.deref.result.now
    (c.deref.ensures.value ∙ read) c.mixes.result c.mixes.ensures c.in-None.ensures in
    IfOk-weaker c.files_of.result _ _ (λ files made. made ∙ rw c.deref.ensures.value at told) c.files_of.ensures.made

pub returns-in-None-clause-accepted : goal.returns-in-None-clause-accepted
returns-in-None-clause-accepted c =
    let read : c.add_folder.new.entries.items ≡ map (entry_at []) (entries_of (ref_view c.args.item.now)) =
    rw (c.new-entries.ensures.items, c.new.ensures.items) at c.in_ok-add_folder.ensures.added in
    let faultless = tree_faultless (ref_view c.args.item.now) c.in_ok-add_folder.ensures.shaped c.deref.result.now
    (c.deref.ensures.value ∙ read) c.mixes.result c.mixes.ensures c.in-None.ensures in
    IfOk-weaker c.files_of.result _ _ (λ _ _. faultless) c.files_of.ensures.made
