-- The proofs of the laws of src/laws.rt, and what holds of a result that is only the error of a call before it.
pub use Rattle.tor_sums.proofs.FileHashes.{unit_pieces_of_files as sums_are_of_files}
pub use Rattle.tor_engine.proofs.FileRows.{rows_of_plan as rows_are_of_files}
pub use Rattle.tor_engine.proofs.PositionFaults.{fault_of_entries as first_fault_of_units}
pub use Rattle.tor_engine.proofs.SameRows.{row_by_bytes as rows_go_by_bytes}
pub use Rattle.tor_engine.proofs.SharedContents.{rows_of_runs as shares_have_contents}
pub use Rattle.tor_engine.proofs.Stopped.{stopped, stopped_by, stopped_match}
