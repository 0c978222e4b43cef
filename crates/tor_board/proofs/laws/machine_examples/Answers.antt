use Rattle.tor_board.proofs.Examples.{worked, risen, excluded}
use Rattle.tor_board.proofs.laws.machine_examples.Goals as goal

pub returns : goal.returns
returns c = record { worked = worked; risen = risen; excluded = excluded }
