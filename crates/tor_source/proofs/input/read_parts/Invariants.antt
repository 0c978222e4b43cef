-- What was taken so far is what was read, and within the limit.
use Rattle.std.proofs.Common.{◌≡◌, ◌+◌, ℕ, List, length}
use Rattle.std.specs.Io.KnownBytes.{Consumes}
use Rattle.tor_source.proofs.input.read_parts.Given as goal

abbrev pub invariant-parts : goal.invariant-parts
invariant-parts g l = record {
  buffer : length l.buffer ≡ 2097152;
  allowed : g.I.Intake.may_take l.intake l.left;
  taken : (bytes : List ℕ) × (length bytes + l.left ≡ l.limit)
      × Consumes (g.R.Read.remaining l.fn.reader) (g.R.Read.remaining l.reader) bytes
      × g.I.Intake.takes l.fn.intake bytes l.intake;
}

abbrev pub decreases-parts : goal.decreases-parts
decreases-parts g l = l.left
