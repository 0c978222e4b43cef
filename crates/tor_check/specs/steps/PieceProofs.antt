-- For `prove_in_file` alone: what it asks of a file.
use Rattle.std.specs.Prelude.{◌≡◌, ◌<◌, ◌≤◌, ℕ, length, IsSome}
use Rattle.std.specs.Int.{div_ceil}
use Rattle.tor_merkle.specs.Layer.{piece_level}
use Rattle.tor_merkle.specs.Stack.{padded_root}
use Rattle.tor_merkle.specs.declared.TheConstants.{MAX_LENGTH}
use Rattle.tor_spec.specs.valid.Layers.{root_of_file}
use Rattle.tor_spec.specs.valid.View.{FileView}

-- a file of a v2 side that is not empty: it has a root, which is that of its layer, if it is longer than a piece
pub record HasTree (piece_length : ℕ) (told : FileView) : Type 0 where
  pub small : told.file.length ≤ MAX_LENGTH
  pub root : IsSome told.file.root
  pub pieces : piece_length < told.file.length → length told.layer ≡ div_ceil told.file.length piece_length
  pub joined : piece_length < told.file.length
      → padded_root (piece_level piece_length) told.layer ≡ root_of_file told.file
