use Rattle.tor_board.proofs.Apart.{moved_runs_are_apart, rising_runs_are_apart}
use Rattle.tor_board.proofs.laws.runs_are_apart.Goals as goal

pub returns : goal.returns
returns c = record { rising = rising_runs_are_apart; moved = moved_runs_are_apart }
