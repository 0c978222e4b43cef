use Rattle.std.proofs.Common.{◌≡◌, ◌∙◌, ◌+◌, suc, drop, arith, sym}
use Rattle.tor_v1.proofs.LetteredEntries.{all_done, past_file, past_pad}
use Rattle.tor_v1.proofs.letters.put_letters.Goals.{else-not-entry, then-not-entry}
use Rattle.tor_v1.proofs.letters.put_letters.Goals as goal

pub entries-preserved : goal.entries-preserved
entries-preserved c = elim c.if-not-entry.branch [
  | then-not-entry w ↦
      let i = c.entries.entry-index in
      let k = c.entries.count in
      let next : suc i ≡ i + 1 = omega arith in
      let more : suc k ≡ k + 1 = omega arith in
      let done = past_file c.args.attrs.now k c.entries.entries i c.entry-item.result (omega arith)
      w.if-not-entry.true in (
        omega (arith, w.count-is, c.entries.invariant.0),
        rw (w.entries-is, w.count-is, w.put_attr.ensures, w.attr_at.ensures)
            (rw (next, more) at done ∙ c.entries.invariant.1),
      )
  | else-not-entry w ↦
      let i = c.entries.entry-index in
      let next : suc i ≡ i + 1 = omega arith in
      let done = past_pad (drop c.entries.count c.args.attrs.now) c.entries.entries i c.entry-item.result (omega arith)
      w.if-not-entry.false in (
        omega (arith, w.count-is, c.entries.invariant.0),
        rw (w.entries-is, w.count-is) (rw next at done ∙ c.entries.invariant.1),
      )
]

pub returns : goal.returns
returns c =
    sym (all_done (drop c.entries.count c.args.attrs.now) c.entries.entries c.entries.entry-index (omega arith))
    ∙ c.entries.invariant.1
