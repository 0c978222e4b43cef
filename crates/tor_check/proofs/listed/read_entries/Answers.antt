-- an entry without its shape decides, and so do all that have it
use Rattle.tor_check.proofs.Names.{◌∙◌, inl, inr, ⊎_elim, is_no_entry, listed_entry, refl, take_all}
use Rattle.tor_check.proofs.ListSteps.{mapped_more, none_more, some_one}
use Rattle.tor_check.proofs.listed.read_entries.Goals as goal

pub returns-in-Err-clause-refused : goal.returns-in-Err-clause-refused
returns-in-Err-clause-refused c =
    ⊎_elim
    (λ other. inl (
      other.0,
      some_one is_no_entry c.args.entries.now c.entries.entry-index c.entry-item.result c.entries-test.true
          (rw (← c.entry-item.is) other.1),
    ))
    (λ memory. inr memory) c.in-Err.ensures.refused

pub entries-preserved : goal.entries-preserved
entries-preserved c = (
  c.in_ok-push-in-Ok.ensures.items ∙ mapped_more listed_entry c.args.entries.now c.entries.entry-index
      c.entry-item.result c.entries.listed.items c.in-Ok.file c.entries-test.true c.entries.invariant.0
      (c.in-Ok.ensures.read ∙ rw (← c.entry-item.is) refl),
  none_more is_no_entry c.args.entries.now c.entries.entry-index c.entry-item.result c.entries-test.true
      c.entries.invariant.1 (rw (← c.entry-item.is) c.in-Ok.ensures.shaped),
)

pub returns-clause-read : goal.returns-clause-read
returns-clause-read c =
    rw (take_all c.entries.entry-index c.args.entries.now c.entries-test.false) at c.entries.invariant.0

pub returns-clause-shaped : goal.returns-clause-shaped
returns-clause-shaped c =
    rw (take_all c.entries.entry-index c.args.entries.now c.entries-test.false) at c.entries.invariant.1
