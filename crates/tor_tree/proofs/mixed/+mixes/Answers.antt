use Rattle.tor_tree.proofs.Cited.{arith, sym, ◌∙◌, ap, entries_mix, ref_pairs_view}
use Rattle.tor_tree.proofs.Mixing.{mixes_here, mixes_later, no_folder}
use Rattle.tor_tree.proofs.mixed.+mixes.Goals.{below_mixes-else-not-is_empty-via-else-not-is_empty}
use Rattle.tor_tree.proofs.mixed.+mixes.Goals.{below_mixes-else-not-is_empty-via-then-not-is_empty+else-folder_mixes}
use Rattle.tor_tree.proofs.mixed.+mixes.Goals as goal

pub below_mixes-returns-then-folder_mixes : goal.below_mixes-returns-then-folder_mixes
below_mixes-returns-then-folder_mixes t c =
    mixes_here c.deref-key-items.result.now c.loop-key.key-index c.loop-key-item.result (omega arith)
    c.loop-key-item.is c.loop-key.invariant (sym c.is_empty.ensures ∙ c.if-not-is_empty.true)
    (sym c.folder_mixes.ensures ∙ c.if-folder_mixes.true)
    ∙ ap (λ pairs. entries_mix (ref_pairs_view pairs)) c.deref-key-items.ensures.value

pub below_mixes-loop-key-preserved : goal.below_mixes-loop-key-preserved
below_mixes-loop-key-preserved t c = elim c.else-not-is_empty.branch [
  | below_mixes-else-not-is_empty-via-then-not-is_empty+else-folder_mixes w ↦
      mixes_later c.deref-key-items.result.now c.loop-key.key-index c.loop-key-item.result (omega arith)
      c.loop-key-item.is c.loop-key.invariant (sym c.is_empty.ensures ∙ w.if-not-is_empty.true)
      (sym w.folder_mixes.ensures ∙ w.if-folder_mixes.false)
  | below_mixes-else-not-is_empty-via-else-not-is_empty w ↦
      no_folder c.deref-key-items.result.now c.loop-key.key-index c.loop-key-item.result (omega arith)
      c.loop-key-item.is c.loop-key.invariant (sym c.is_empty.ensures ∙ w.if-not-is_empty.false)
]
