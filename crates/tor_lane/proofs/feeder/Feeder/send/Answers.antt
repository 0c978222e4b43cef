use Rattle.std.proofs.Common.{rules}
use Rattle.tor_lane.proofs.Puts.{puts}
use Rattle.tor_lane.proofs.feeder.Feeder.send.Goals as goal

pub send_as-requires-clause-rule : goal.send_as-requires-clause-rule
send_as-requires-clause-rule g c
    = (puts _ _ _ _ (search rules) (search rules), λ _ _ _ _. tt)
