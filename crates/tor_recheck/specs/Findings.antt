-- What findings tell of any source, whether its files keep to the lengths that it told or not.
use Rattle.std.specs.Prelude.{◌≡◌, ℕ, Bool, true, false, List, map, slice_index_or, Option}
use Rattle.tor_engine.specs.There.{is_within}
use Rattle.tor_plan.specs.Entries.{empty_unit}
use Rattle.tor_view.specs.Files.{files_found}
use Rattle.tor_view.specs.Pieces.{pieces_of}
use Rattle.tor_view.specs.declared.files.FileFound.{FileFound}
use Rattle.tor_recheck.specs.declared.rechecking_files.Findings.{Findings}
use Rattle.tor_spec.specs.valid.View.{View}
use Rattle.tor_tree.specs.Kinds.{has_v2}

-- each of these pieces lies within these lengths of the files
abbrev pub AreWithin : View → List (Option ℕ) → List Bool → Type 0
AreWithin view told bits =
    (piece : ℕ) → slice_index_or bits piece false ≡ true
    → is_within told (slice_index_or (pieces_of view) piece empty_unit) ≡ true

-- the lengths that are told of the files
abbrev pub lengths_of : Findings → List (Option ℕ)
lengths_of found = map (λ (file : FileFound). file.there) found.files.items

-- each piece of the one list is one of the other
abbrev pub AreAmong : List Bool → List Bool → Type 0
AreAmong bits others = (piece : ℕ) → slice_index_or bits piece false ≡ true → slice_index_or others piece false ≡ true

-- what is told of files are their lengths, and what pieces tell that lie within these. Those pieces hold: without
-- version 2 they are those that are told to be right, and with it these and perhaps others; each of them lies within
-- these very lengths (profile)
pub record AreFoundWithin (view : View) (found : Findings) : Type 0 where
  pub held : List Bool
  pub files : found.files.items ≡ files_found view (lengths_of found) held
  pub right_held : AreAmong found.bits held
  pub by_bits : has_v2 view.kind ≡ false → held ≡ found.bits
  pub held_within : AreWithin view (lengths_of found) held
  pub right_within : AreWithin view (lengths_of found) found.bits
