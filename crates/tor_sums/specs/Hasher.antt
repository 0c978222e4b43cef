-- What a content hashes to whose bytes are fed one after the other: bytes of files, and zeros that belong to none,
-- which pieces have and trees have not.
use Rattle.std.specs.Prelude.{◌≡◌, ◌<◌, ◌⊎◌, ℕ, true, false, List, [], ◌++◌, Option, None, Some, IsSomeAnd}
use Rattle.std.specs.Prelude.{if◌then◌else◌}
use Rattle.tor_merkle.specs.Feeding.{Feeding}
use Rattle.tor_tree.specs.Kinds.{has_v1, has_v2}
use Rattle.tor_tree.specs.declared.kinds.Kind.{Kind}
use Rattle.tor_v1.specs.Feeding.{HasFed}
use Rattle.tor_v1.specs.Piece.{piece_sums, zeros}
use Rattle.tor_v1.specs.declared.sums.PieceSums.{PieceSums}
use Rattle.tor_sums.specs.declared.hasher.ContentHasher.{ContentHasher}
use Rattle.tor_sums.specs.declared.hasher.Hashed.{Hashed}

-- the tree over the bytes of files
abbrev pub tree_of : ContentHasher → Option Feeding
tree_of hasher = hasher.tree

-- the pieces of the whole content
abbrev pub pieces_of : ContentHasher → Option PieceSums
pieces_of hasher = hasher.pieces

-- the tree after some more bytes
abbrev pub fed_tree : List ℕ → Option Feeding → Option Feeding
fed_tree bytes None = None
fed_tree bytes (Some feed) = Some (record { piece_length = feed.piece_length; bytes = feed.bytes ++ bytes })

-- if the kind has trees, this is one over these bytes (BEP 52, "pieces root")
abbrev pub IsTreeOf : Kind → ℕ → List ℕ → Option Feeding → Type 0
IsTreeOf kind piece_length bytes tree =
    tree ≡ (if has_v2 kind then Some (record { piece_length = piece_length; bytes = bytes }) else None)

-- the hasher was fed these bytes of files, and with the zeros these bytes in all (profile)
pub record HasFedContent (kind : Kind) (piece_length : ℕ) (bytes joined : List ℕ) (hasher : ContentHasher)
    : Type 0 where
  pub tree : IsTreeOf kind piece_length bytes hasher.tree
  pub pieces : has_v1 kind ≡ true → IsSomeAnd hasher.pieces (λ pieces. HasFed pieces piece_length joined)
  pub none : has_v1 kind ≡ false → hasher.pieces ≡ None

-- what a hasher was fed if memory was refused: nothing, or the pieces alone. If there are both, the pieces may have
-- been fed the bytes and the tree not (profile)
abbrev pub IsLeft : Kind → ℕ → List ℕ → List ℕ → List ℕ → ContentHasher → Type 0
IsLeft kind piece_length bytes joined more hasher =
    HasFedContent kind piece_length bytes joined hasher
    ⊎ ((has_v1 kind ≡ true) × (has_v2 kind ≡ true)
    × HasFedContent kind piece_length bytes (joined ++ more) hasher)

-- the same for so many zeros. It was fed fewer (profile)
abbrev pub IsLeftOfZeros : Kind → ℕ → List ℕ → List ℕ → ℕ → ContentHasher → Type 0
IsLeftOfZeros kind piece_length bytes joined count hasher =
    (fewer : ℕ) × (fewer < count) × HasFedContent kind piece_length bytes (joined ++ zeros fewer) hasher

-- what a content hashes to: tree and SHA-1s. It has these bytes of files, and with the zeros these bytes in all; the
-- tree is over the bytes of files, and the SHA-1s are of the pieces of all (BEP 52, "pieces root"; BEP 3, "info
-- dictionary")
pub record AreHashesOf (kind : Kind) (piece_length : ℕ) (bytes joined : List ℕ) (hashed : Hashed) : Type 0 where
  pub tree : IsTreeOf kind piece_length bytes hashed.tree
  pub pieces : hashed.pieces.items ≡ (if has_v1 kind then piece_sums piece_length joined else [])
