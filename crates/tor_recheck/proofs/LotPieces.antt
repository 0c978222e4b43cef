-- The pieces of a torrent lie within its files; and what holds of each of a list holds of those in a run of it.
use Rattle.tor_recheck.proofs.Names.{ℕ, ◌*◌, List, [], ◌∷◌, take, drop}
use Rattle.tor_recheck.proofs.Names.{arith, zero, suc}
use Rattle.tor_recheck.proofs.Names.{AllByRecursion, All}
use Rattle.tor_recheck.proofs.Names.{View, IsCut, entries_to_cut, pieces_of}
use Rattle.tor_recheck.proofs.Names.{lengths_of_entries}
use Rattle.tor_view.proofs.PieceSides.{some_piece}
use Rattle.tor_plan.proofs.ProvedLaws.{entry_units_are_within_files}
use Rattle.tor_plan.specs.WithinEntries.{IsUnitWithin}

pub dropped : {X : Type 0} (P : X → Type 0) (n : ℕ) (xs : List X) → AllByRecursion P xs → AllByRecursion P (drop n xs)
dropped P zero xs all = all
dropped P (suc n) [] all = tt
dropped P (suc n) (x ∷ xs) all = dropped P n xs all.1

pub taken : {X : Type 0} (P : X → Type 0) (n : ℕ) (xs : List X) → AllByRecursion P xs → AllByRecursion P (take n xs)
taken P zero xs all = tt
taken P (suc n) [] all = tt
taken P (suc n) (x ∷ xs) all = (all.0, taken P n xs all.1)

-- ---- pieces

module _ (view : View) (cut : IsCut view) where
  abbrev p : ℕ
  p = view.piece_length

  pub pieces_within : All (IsUnitWithin (lengths_of_entries (entries_to_cut view)) (1 * p)) (pieces_of view)
  pieces_within =
      entry_units_are_within_files view.kind p 1 (entries_to_cut view) (omega arith)
      (some_piece view.kind p cut.pieces) cut.entries.laid_out
