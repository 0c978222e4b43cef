-- What came so far stands at the front of the buffer, and is within the room.
use Rattle.std.proofs.Common.{length, ◌-◌, ◌≡◌, ◌≤◌, take}
use Rattle.std.specs.Io.KnownBytes.{Consumes}
use Rattle.tor_source.proofs.filling.fill.Given as goal

abbrev pub invariant-reads : goal.invariant-reads
invariant-reads g l = record {
  buffer : length l.buffer ≡ length l.initial.buffer;
  within : (l.filled ≤ length l.initial.buffer) × (l.filled ≤ l.room);
  given : Consumes (g.R.Read.remaining l.fn.reader) (g.R.Read.remaining l.reader) (take l.filled l.buffer);
}

abbrev pub decreases-reads : goal.decreases-reads
decreases-reads g l = length l.initial.buffer - l.filled
