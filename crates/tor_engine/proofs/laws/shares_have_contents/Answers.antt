use Rattle.tor_engine.proofs.SharedContents.{rows_of_runs}
use Rattle.tor_engine.proofs.laws.shares_have_contents.Goals as goal

pub returns : goal.returns
returns c = rows_of_runs
