-- A content that is fed in parts.
use Rattle.std.specs.Prelude.{◌≡◌, ℕ, List, ◌++◌, length}
use Rattle.tor_meta.specs.declared.fed.FedSums.{FedSums}
use Rattle.tor_sums.specs.Hasher.{HasFedContent, IsLeft}
use Rattle.tor_tree.specs.declared.kinds.Kind.{Kind}
use Rattle.tor_v1.specs.Entries.{padding_length}
use Rattle.tor_v1.specs.declared.layout.Layout.{Layout}
use Rattle.tor_v1.specs.declared.layout.Layout.TheVariants.{AlignedTail}

-- how many bytes were fed
abbrev pub count_of : FedSums → ℕ
count_of sums = sums.count

-- the sums were fed these bytes (profile)
pub record HasFed (sums : FedSums) (kind : Kind) (piece_length : ℕ) (bytes : List ℕ) : Type 0 where
  pub counted : sums.count ≡ length bytes
  pub content : HasFedContent kind piece_length bytes bytes sums.hasher

-- the part was fed after whatever the old sums were fed (profile)
abbrev pub Feeds : FedSums → FedSums → List ℕ → Type 0
Feeds old new part =
    (kind : Kind) (piece_length : ℕ) (bytes : List ℕ) → HasFed old kind piece_length bytes
    → HasFed new kind piece_length (bytes ++ part)

-- what was fed if memory was refused: nothing, or the pieces alone. If there are both, the pieces may have been fed the
-- part and the tree not (profile)
abbrev pub Leaves : FedSums → FedSums → List ℕ → Type 0
Leaves old new part =
    (kind : Kind) (piece_length : ℕ) (bytes : List ℕ) → HasFed old kind piece_length bytes
    → IsLeft kind piece_length bytes bytes part new.hasher

-- the tail after one content of m bytes
abbrev pub tail_length : Layout → ℕ → ℕ → ℕ
tail_length AlignedTail piece_length m = padding_length piece_length m
tail_length _ piece_length m = 0
