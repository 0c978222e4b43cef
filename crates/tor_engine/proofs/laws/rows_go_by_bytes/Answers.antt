use Rattle.tor_engine.proofs.SameRows.{row_by_bytes}
use Rattle.tor_engine.proofs.laws.rows_go_by_bytes.Goals as goal

pub returns : goal.returns
returns c = row_by_bytes
