-- what came so far of the reader, which is to come to its end
use Rattle.std.proofs.Common.{◌≡◌, ◌-◌, ◌<◌, ◌≤◌, ℕ, List, [], length, vec_len}
use Rattle.std.specs.Io.KnownBytes.{Consumes}
use Rattle.tor_lane.specs.Lane.{FeedsLaneOf, IsOpen}
use Rattle.tor_streams.specs.steps.Cuts.{HasCut}
use Rattle.tor_streams.proofs.cutter.Cutter.read_whole.Given as goal

abbrev pub invariant-chunks : goal.invariant-chunks
invariant-chunks g l = record {
  bytes : List ℕ;
  counted : length bytes ≡ l.count;
  small : l.count ≤ l.limit;
  came : Consumes (g.R.Read.remaining l.fn.reader) (g.R.Read.remaining l.reader) bytes;
  room : l.self.filled < vec_len l.self.buffer;
  cut : (contents : List (List ℕ)) → HasCut l.chunking contents [] l.fn.self →
      HasCut l.chunking contents bytes l.self;
  lane : FeedsLaneOf l.fn.self.pairs.feeder l.self.pairs.feeder;
  opened : IsOpen l.self.pairs.feeder;
}

abbrev pub decreases-chunks : goal.decreases-chunks
decreases-chunks g l = l.limit - l.count
