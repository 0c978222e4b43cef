use Rattle.std.proofs.Common.{rules}
use Rattle.tor_lane.proofs.Takes.{takes}
use Rattle.tor_lane.proofs.taker.Taker.take.Goals as goal

pub recv_as-requires-clause-rule : goal.recv_as-requires-clause-rule
recv_as-requires-clause-rule g c = (takes _ _ (search rules), λ _ _ _ _. tt)
