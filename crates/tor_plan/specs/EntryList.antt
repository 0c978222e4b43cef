-- What the entries of a torrent keep to, so that they can be cut.
use Rattle.std.specs.Prelude.{◌≡◌, ◌⊎◌, ℕ, ◌≤◌, Bool, true, false, not, ◌&&◌, nat_lt, All, List, [], ◌∷◌}
use Rattle.std.specs.List.{list_any}
use Rattle.tor_tree.specs.declared.kinds.Kind.{Kind}
use Rattle.tor_tree.specs.declared.kinds.Kind.TheVariants.{V1, V2, Hybrid}
use Rattle.tor_merkle.specs.declared.TheConstants.{MAX_LENGTH}
use Rattle.tor_tree.specs.declared.lists.TheConstants.{MAX_TOTAL}
use Rattle.tor_v1.specs.Entries.{padding_length}
use Rattle.tor_v1.specs.declared.entry.Entry.{Entry}
use Rattle.tor_plan.specs.Entries.{entries_length, lengths_of_entries, padding_before_next}

-- a file that is not empty
abbrev pub is_filled : Entry → Bool
is_filled entry = not entry.pad && nat_lt 0 entry.length

abbrev pub has_padding : List Entry → Bool
has_padding entries = list_any (λ entry. entry.pad) entries

-- between a file of m bytes, which these entries follow, and the next that is not empty there is just what it lacks
-- to a whole piece; where no such file follows there may be none
abbrev pub IsPaddedTo : ℕ → ℕ → List Entry → Type 0
IsPaddedTo piece_length m later =
    (padding_before_next later ≡ padding_length piece_length m)
    ⊎ ((list_any is_filled later ≡ false) × (padding_before_next later ≡ 0))

-- so it is after each file that is not empty
unfoldable pub ArePadded : ℕ → List Entry → Type 0
ArePadded piece_length [] = Unit {0}
ArePadded piece_length (entry ∷ later) =
    (is_filled entry ≡ true → IsPaddedTo piece_length entry.length later) × ArePadded piece_length later

-- where padding may stand: in version 2 nowhere, in a hybrid what each file lacks to a whole piece. It follows each
-- file that is not empty, so that the next begins at a piece; after the last there may be none (BEP 47, "padding
-- files"; profile)
unfoldable pub IsLaidOut : Kind → ℕ → List Entry → Type 0
IsLaidOut V1 piece_length entries = Unit {0}
IsLaidOut V2 piece_length entries = has_padding entries ≡ false
IsLaidOut Hybrid piece_length entries = (padding_before_next entries ≡ 0) × ArePadded piece_length entries

-- entries that a plan takes: at most 2^62 bytes, 2^50 a file, and laid out (profile)
pub record IsEntryList (kind : Kind) (piece_length : ℕ) (entries : List Entry) : Type 0 where
  pub total : entries_length entries ≤ MAX_TOTAL
  pub files : All (λ m. m ≤ MAX_LENGTH) (lengths_of_entries entries)
  pub laid_out : IsLaidOut kind piece_length entries
