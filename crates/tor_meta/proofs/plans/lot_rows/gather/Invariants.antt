-- the lots of the texts so far
use Rattle.tor_meta.specs.steps.Join.{IsGathered, texts_of}
use Rattle.tor_meta.proofs.plans.lot_rows.gather.Given as goal

abbrev pub invariant-texts : goal.invariant-texts
invariant-texts l = IsGathered l.plan l.digest l.count l.word (texts_of l.texts) l.slots.items
