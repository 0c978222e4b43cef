-- How files are cut into units, and what these have in the trees of their files.
-- Only clauses of the crates that hash cite these.
use Rattle.std.specs.Prelude.{◌≡◌, ◌*◌, ◌^◌, ◌<◌, ◌≤◌, ℕ, List, length, map, Option, None}
use Rattle.std.specs.Int.{div_ceil}
use Rattle.std.specs.List.{AllByRecursion, range_with_len}
use Rattle.std.specs.Option.{ForSome}
use Rattle.tor_merkle.specs.Block.{run_at}
use Rattle.tor_merkle.specs.Layer.{IsPieceLength}
use Rattle.tor_merkle.specs.declared.TheConstants.{BLOCK_LENGTH}
pub use Rattle.tor_sums.specs.UnitNodes.{Node, bytes_of_part, level_in, level_of, node_of_part, node_over}
pub use Rattle.tor_sums.specs.UnitNodes.{nodes_of_unit}

-- those of the units of a file, which is cut every size bytes
abbrev pub nodes_of_file : ℕ → ℕ → Option ℕ → List ℕ → List Node
nodes_of_file piece_length size level content =
    map (λ run. node_over piece_length (level_in level (length content) (length run)) run)
    (map (run_at size content) (range_with_len 0 (div_ceil (length content) size)))

-- files of these lengths are cut every size bytes, which are some pieces; the units of those that have several stand at
-- the level
pub record IsCut (piece_length size : ℕ) (level : Option ℕ) (lengths : List ℕ) : Type 0 where
  pub allowed : IsPieceLength piece_length
  pub span : ℕ
  pub some : 0 < span
  pub pieces : size ≡ span * piece_length
  pub stands : ForSome level (λ k. (k ≤ 36) × (size ≡ BLOCK_LENGTH * 2 ^ k))
  pub alone : level ≡ None → AllByRecursion (λ m. m ≤ size) lengths
