-- The law of runs, for proofs that cite it.
pub use Rattle.tor_board.proofs.Apart.{moved_runs_are_apart, rising_runs_are_apart}
