use Rattle.tor_tree.proofs.Cited.{◌≡◌, ◌∙◌, ap, inl, inr, ⊎_elim, arith, Err, err_from_is_err_and}
use Rattle.tor_tree.proofs.Cited.{ref_view, Memory}
use Rattle.tor_tree.proofs.WalkSteps.{added_to_end, entries_go_on, first_shaped, not_shaped, shape_goes_on}
use Rattle.tor_tree.proofs.WalkSteps.{shaped_takes, shaped_to_end, taken_here}
use Rattle.std.proofs.lemmas.Grind.{common_steps}
use Rattle.tor_tree.proofs.WalkSteps.{walking}
use Rattle.tor_tree.proofs.entries.+walk.Goals as goal

pub add_folder-returns-in_err-add_pair-clause-refused : goal.add_folder-returns-in_err-add_pair-clause-refused
add_folder-returns-in_err-add_pair-clause-refused t c =
    let p = err_from_is_err_and c.from_residual.result c.from_residual.ensures.1 in
    let refused = c.in_err-add_pair.ensures.refused in
    let unshaped = not_shaped c.args.item.now c.in-Dict.pairs c.in-Dict.is c.deref-key-items.result.now
    c.deref-key-items.ensures.value c.loop-key.key-index c.loop-key.invariant.2 c.loop-key-item.result
    (omega arith) c.loop-key-item.is in
    rw (p.1, p.2) (⊎_elim (λ h. inl (h.0, unshaped h.1)) (λ m. inr m) refused)

pub add_folder-returns-clause-shaped : goal.add_folder-returns-clause-shaped
add_folder-returns-clause-shaped t c =
    shaped_to_end c.args.item.now c.in-Dict.pairs c.in-Dict.is c.deref-key-items.result.now
    c.deref-key-items.ensures.value c.loop-key.key-index c.loop-key.invariant.2 (omega arith)

pub add_folder-returns-clause-added : goal.add_folder-returns-clause-added
add_folder-returns-clause-added t c =
    added_to_end c.args.item.now c.in-Dict.pairs c.in-Dict.is c.deref-key-items.result.now
    c.deref-key-items.ensures.value c.loop-key.key-index c.loop-key.invariant.2 c.args.folder.now.items
    c.args.entries.now.items c.loop-key.entries.items (omega arith) c.loop-key.invariant.1

pub add_folder-returns-in_err-add_pair-clause-memory : goal.add_folder-returns-in_err-add_pair-clause-memory
add_folder-returns-in_err-add_pair-clause-memory t c = λ is.
    let p = err_from_is_err_and c.from_residual.result c.from_residual.ensures.1 in
    let item = c.loop-key-item.result in
    let told = p.1 in
    let same = p.2 in
    let refused : c.in_err-add_pair.field-0.0 ≡ Memory = cc in
    let taken = c.in_err-add_pair.ensures.memory (ap Err refused) in
    taken_here c.args.item.now c.in-Dict.pairs c.in-Dict.is c.deref-key-items.result.now
    c.deref-key-items.ensures.value c.loop-key.key-index c.loop-key.invariant.2 item (omega arith) c.loop-key-item.is
    taken c.loop-key.invariant.3

pub add_folder-loop-key-preserved : goal.add_folder-loop-key-preserved
add_folder-loop-key-preserved t c =
    let item = c.loop-key-item.result in
    let items = c.deref-key-items.result.now in
    let i = c.loop-key.key-index in
    let folder = c.args.folder.now.items in
    let stays = c.loop-key.invariant.0 in
    let shaped = c.in_ok-add_pair.ensures.shaped in
    let added = rw stays at c.in_ok-add_pair.ensures.added in (
      c.in_ok-add_pair.ensures.folder_stays ∙ stays,
      entries_go_on c.args.item.now c.in-Dict.pairs c.in-Dict.is items c.deref-key-items.ensures.value i
          c.loop-key.invariant.2 folder item c.loop-key.entries.items _ _ (omega arith) c.loop-key-item.is added
          c.loop-key.invariant.1,
      shape_goes_on c.args.item.now c.in-Dict.pairs c.in-Dict.is items c.deref-key-items.ensures.value i
          c.loop-key.invariant.2 item (omega arith) c.loop-key-item.is shaped,
      λ _. first_shaped c.args.item.now c.in-Dict.pairs c.in-Dict.is items c.deref-key-items.ensures.value i
          c.loop-key.invariant.2 item (omega arith) c.loop-key-item.is
          (shaped_takes item.0.now (ref_view item.1) shaped) c.loop-key.invariant.3,
    )

pub add_pair-returns-then-is_empty-clause-shaped : goal.add_pair-returns-then-is_empty-clause-shaped
add_pair-returns-then-is_empty-clause-shaped t c = grind (arith, walking)

pub add_pair-returns-then-is_empty-clause-refused : goal.add_pair-returns-then-is_empty-clause-refused
add_pair-returns-then-is_empty-clause-refused t c = grind (arith, walking)

pub add_pair-returns-clause-added : goal.add_pair-returns-clause-added
add_pair-returns-clause-added t c = grind (arith, walking)

pub add_pair-returns-clause-folder_stays : goal.add_pair-returns-clause-folder_stays
add_pair-returns-clause-folder_stays t c = grind (arith, common_steps)
