-- Rows in a list, and rows by their numbers.
use Rattle.std.proofs.Common.{◌≡◌, ◌<◌, ℕ, zero, suc, ◌+◌, List, [], ◌∷◌, ◌++◌, drop, get_or, length}
use Rattle.std.proofs.Common.{ap}
use Rattle.std.proofs.Common.{subst, sym, ◌∙◌, arith}
use Rattle.std.proofs.lemmas.List.{drop_all, drop_more}
use Rattle.std.specs.List.{flat_map, range_with_len}
use Rattle.tor_engine.specs.Rows.{IsRowOf}
use Rattle.tor_engine.specs.declared.lot.PieceRow.{PieceRow}
use Rattle.tor_engine.proofs.ProvedLaws.{shares_have_contents}
use Rattle.tor_plan.specs.PlanFacts.{IsPlan, PlanFacts}
use Rattle.tor_parts.specs.Dealing.{dealt}
use Rattle.tor_parts.specs.JoinedRows.{AreContentsOfEach, AreRowsOf, AreRowsOfEach, hashes_of, sums_of}
use Rattle.tor_parts.proofs.DealtUnits.{all_dealt}
use Rattle.tor_parts.proofs.LotsJoined.{joined}

pub by_number : {Y : Type 0} (f : PieceRow → List Y) (rows : List PieceRow) (d : PieceRow) (a n : ℕ)
    → a + n ≡ length rows
    → flat_map (λ k. f (get_or rows k d)) (range_with_len a n) ≡ flat_map f (drop a rows)
by_number f rows d a zero all = sym (ap (flat_map f) (drop_all a rows (omega (arith, all))))
by_number f rows d a (suc n) all =
    ap (λ ys. f (get_or rows a d) ++ ys) (by_number f rows d (a + 1) n (omega (arith, all)))
    ∙ ap (flat_map f) (sym (drop_more rows a d (omega (arith, all))))

module _ (plan : PlanFacts) (rows : List PieceRow) (d : PieceRow) (some : 0 < length rows) where
  abbrev hashes_at : ℕ → List (List ℕ)
  hashes_at k = (get_or rows k d).hashes.items

  abbrev pieces_at : ℕ → List ℕ
  pieces_at k = (get_or rows k d).pieces.items

  abbrev numbers : List ℕ
  numbers = range_with_len 0 (length rows)

  as_list : (contents : List (List ℕ))
      → IsRowOf plan contents plan.units (flat_map hashes_at numbers) (flat_map pieces_at numbers)
      → IsRowOf plan contents plan.units (hashes_of rows) (sums_of rows)
  as_list contents row =
      let all : 0 + length rows ≡ length rows = omega arith in
      subst (λ (h : List (List ℕ)). IsRowOf plan contents plan.units h (sums_of rows))
      (by_number (λ row. row.hashes.items) rows d 0 (length rows) all)
      (subst (λ (s : List ℕ). IsRowOf plan contents plan.units (flat_map hashes_at numbers) s)
      (by_number (λ row. row.pieces.items) rows d 0 (length rows) all) row)

  pub rows_are : (contents : List (List ℕ)) → AreRowsOf plan contents rows
      → IsRowOf plan contents plan.units (hashes_of rows) (sums_of rows)
  rows_are contents are =
      as_list contents (joined plan contents (length rows) hashes_at pieces_at some (λ lot below. are lot d below))

  -- ---- contents for each lot

  pub rows_have : IsPlan plan → (others : ℕ → List (List ℕ)) → AreRowsOfEach plan others rows
      → (contents : List (List ℕ)) × AreContentsOfEach plan others (length rows) contents
      × IsRowOf plan contents plan.units (hashes_of rows) (sums_of rows)
  rows_have is others are =
      let n = length rows in
      let there = shares_have_contents plan is n (λ k. dealt n k plan.units) others hashes_at pieces_at
      (all_dealt n plan.units some) (λ k below. are k d below) in (
        there.0,
        record { fit = there.1; same = λ lot below. (there.2 lot below).0 },
        as_list there.0 (joined plan there.0 n hashes_at pieces_at some (λ lot below. (there.2 lot below).1)),
      )

-- whatever the rows are
pub are_rows : (plan : PlanFacts) (rows : List PieceRow) → 0 < length rows → (contents : List (List ℕ))
    → AreRowsOf plan contents rows → IsRowOf plan contents plan.units (hashes_of rows) (sums_of rows)
are_rows plan [] some contents are = absurd (omega (arith, some))
are_rows plan (row ∷ rows) some contents are = rows_are plan (row ∷ rows) row some contents are

pub have_rows : (plan : PlanFacts) → IsPlan plan → (rows : List PieceRow) → 0 < length rows
    → (others : ℕ → List (List ℕ)) → AreRowsOfEach plan others rows
    → (contents : List (List ℕ)) × AreContentsOfEach plan others (length rows) contents
    × IsRowOf plan contents plan.units (hashes_of rows) (sums_of rows)
have_rows plan is [] some others are = absurd (omega (arith, some))
have_rows plan is (row ∷ rows) some others are = rows_have plan (row ∷ rows) row some is others are
