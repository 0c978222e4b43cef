-- One lot more in the slots, and the rows of all lots.
use Rattle.std.proofs.Common.{◌≡◌, ◌≢◌, ◌⊎◌, ◌<◌, ◌≤◌, ◌+◌, ◌==◌, ◌++◌, ◌∷◌, ◌∙◌, [], ℕ, zero, suc, Bool, true, false, cond, List, Option}
use Rattle.std.proofs.Common.{None, Some, ap, ap₂, arith, get_or, inl, inr, is_none, length, map, option_map, refl}
use Rattle.std.proofs.Common.{set, subst, sym, take}
use Rattle.std.proofs.lemmas.Bool.{cases_Bool, eq-eqb, eqb-true}
use Rattle.std.proofs.lemmas.List.{get_or_append_left, get_or_push, length-append, length-map, length-take-le, take-append-le, take_at, take_more}
use Rattle.std.specs.List.{AllByRecursion, filter, flat_map, range_with_len}
use Rattle.std.specs.Option.{option_or}
use Rattle.std.specs.Prelude.{IfSome}
use Rattle.tor_engine.specs.declared.lot.PieceRow.{PieceRow}
use Rattle.tor_meta.specs.Lots.{AreFirstLots, IsNextLot, row_at}
use Rattle.tor_meta.specs.steps.Join.{AreSlots, HavePieces, empty_from, row_in, rows_in}
use Rattle.tor_parts.specs.Dealing.{dealt}
use Rattle.tor_parts.specs.LotCounts.{HasOwnPieces}
use Rattle.tor_parts.specs.LotText.{IsLot, LotFacts, lot_bytes}
use Rattle.tor_plan.specs.PlanFacts.{PlanFacts}

-- ---- the row of a number

abbrev pub alone : ℕ → LotFacts → Option (List (List ℕ) × List ℕ)
alone number lot = cond (lot.number == number) (Some (lot.hashes, lot.pieces)) None

pub row_more : (number : ℕ) (lots : List LotFacts) (lot : LotFacts)
    → row_at number (lots ++ lot ∷ []) ≡ option_or (row_at number lots) (alone number lot)
unfolding row_at
row_more number [] lot = refl
row_more number (one ∷ lots) lot = by_number (one.number == number) (row_more number lots lot)
  where
    by_number : (same : Bool) → row_at number (lots ++ lot ∷ []) ≡ option_or (row_at number lots) (alone number lot)
        → cond same (Some (one.hashes, one.pieces)) (row_at number (lots ++ lot ∷ []))
        ≡ option_or (cond same (Some (one.hashes, one.pieces)) (row_at number lots)) (alone number lot)
    by_number true later = refl
    by_number false later = later

-- ---- the first lots

module _ (plan : PlanFacts) (digest : List ℕ) (count : ℕ) (texts : List (List ℕ)) where
  pub as_many : (n : ℕ) (lots : List LotFacts) → n ≤ length texts → AreFirstLots plan digest count n texts lots
      → length lots ≡ n
  as_many n lots within are =
      sym (length-map lots lot_bytes) ∙ ap length (sym are.told) ∙ length-take-le n texts within

  pub one_more : (n : ℕ) (lots : List LotFacts) (lot : LotFacts) → n < length texts
      → AreFirstLots plan digest count n texts lots → get_or texts n [] ≡ lot_bytes lot → IsLot lot
      → IsNextLot plan digest count lots lot → AreFirstLots plan digest count (n + 1) texts (lots ++ lot ∷ [])
  one_more n lots lot there are told lawful next = record {
    told = take_more texts n [] there ∙ ap₂ (λ (xs : List (List ℕ)) (x : List ℕ). xs ++ x ∷ []) are.told told
        ∙ sym (map_both lots);
    lawful = all_more lots are.lawful;
    next = λ k d below. elim (split k (length lots) (omega (arith, below, length-append lots (lot ∷ [])))) [
      | inl less ↦
          subst (λ (one : LotFacts). IsNextLot plan digest count (take k (lots ++ lot ∷ [])) one)
          (sym (get_or_append_left lots (lot ∷ []) d k less))
          (subst (λ (earlier : List LotFacts). IsNextLot plan digest count earlier (get_or lots k d))
          (sym (take-append-le k lots (lot ∷ []) (omega (arith, less)))) (are.next k d less))
      | inr last ↦
          subst (λ (one : LotFacts). IsNextLot plan digest count (take k (lots ++ lot ∷ [])) one)
          (sym (get_or_push lots lot d k (sym last)))
          (subst (λ (earlier : List LotFacts). IsNextLot plan digest count earlier lot)
          (sym (take_at lots (lot ∷ []) k (sym last))) next)
    ];
  }
    where
      map_both : (ls : List LotFacts) → map lot_bytes (ls ++ lot ∷ []) ≡ map lot_bytes ls ++ lot_bytes lot ∷ []
      map_both [] = refl
      map_both (l ∷ ls) = ap (λ (xs : List (List ℕ)). lot_bytes l ∷ xs) (map_both ls)

      all_more : (ls : List LotFacts) → AllByRecursion IsLot ls → AllByRecursion IsLot (ls ++ lot ∷ [])
      all_more [] all = (lawful, tt)
      all_more (l ∷ ls) all = (all.0, all_more ls all.1)

      split : (k m : ℕ) → k < m + 1 → (k < m) ⊎ (k ≡ m)
      split k m below = elim (cases_Bool (k == m)) [
        | inl same ↦ inr (eqb-true k m same)
        | inr other ↦ inl (omega (arith, below, (λ (e : k ≡ m). differ k m other e)))
      ]
        where
          differ : (a b : ℕ) → (a == b) ≡ false → a ≡ b → ⊥
          differ a b other is = let yes = eq-eqb a b is in cc

-- ---- the slots

pub set_same : (slots : List (Option PieceRow)) (i : ℕ) (new : Option PieceRow) → i < length slots
    → get_or (set slots i new) i None ≡ new
set_same [] i new there = absurd (omega (arith, there))
set_same (slot ∷ slots) zero new there = refl
set_same (slot ∷ slots) (suc i) new there = set_same slots i new (omega (arith, there))

pub set_other : (slots : List (Option PieceRow)) (i k : ℕ) (new : Option PieceRow) → i ≢ k
    → get_or (set slots i new) k None ≡ get_or slots k None
set_other [] i k new other = refl
set_other (slot ∷ slots) zero zero new other = absurd (other refl)
set_other (slot ∷ slots) zero (suc k) new other = refl
set_other (slot ∷ slots) (suc i) zero new other = refl
set_other (slot ∷ slots) (suc i) (suc k) new other = set_other slots i k new (λ e. other (ap suc e))

pub set_long : (slots : List (Option PieceRow)) (i : ℕ) (new : Option PieceRow)
    → length (set slots i new) ≡ length slots
set_long [] i new = refl
set_long (slot ∷ slots) zero new = refl
set_long (slot ∷ slots) (suc i) new = ap suc (set_long slots i new)

-- one lot more in its slot
pub slot_more : (slots : List (Option PieceRow)) (lots : List LotFacts) (lot : LotFacts) (row : PieceRow)
    → lot.number < length slots → AreSlots slots lots → row_at lot.number lots ≡ None
    → row_in row ≡ (lot.hashes, lot.pieces) → AreSlots (set slots lot.number (Some row)) (lots ++ lot ∷ [])
slot_more slots lots lot row there slotted fresh same k below = elim (cases_Bool (lot.number == k)) [
  | inl here ↦
      let is : lot.number ≡ k = eqb-true lot.number k here in
      subst (λ (n : ℕ). option_map row_in (get_or (set slots lot.number (Some row)) n None)
      ≡ row_at n (lots ++ lot ∷ [])) is
      (ap (option_map row_in) (set_same slots lot.number (Some row) there) ∙ ap Some same
      ∙ sym (row_more lot.number lots lot
      ∙ ap₂ (λ (a : Option (List (List ℕ) × List ℕ)) (b : Bool). option_or a (cond b (Some (lot.hashes, lot.pieces)) None))
      fresh (eq-eqb lot.number lot.number refl)))
  | inr other ↦
      let differs : lot.number ≢ k = λ e. let yes = eq-eqb lot.number k e in cc in
      ap (option_map row_in) (set_other slots lot.number k (Some row) differs)
      ∙ slotted k (omega (arith, below, set_long slots lot.number (Some row)))
      ∙ sym (row_more k lots lot
      ∙ ap (λ b. option_or (row_at k lots) (cond b (Some (lot.hashes, lot.pieces)) None)) other
      ∙ no_more (row_at k lots))
]
  where
    no_more : (o : Option (List (List ℕ) × List ℕ)) → option_or o None ≡ o
    no_more None = refl
    no_more (Some row) = refl

pub pieces_more : (plan : PlanFacts) (count : ℕ) (slots : List (Option PieceRow)) (number : ℕ) (row : PieceRow)
    → number < length slots → HavePieces plan count slots → HasOwnPieces plan (dealt count number plan.units) row
    → HavePieces plan count (set slots number (Some row))
pieces_more plan count slots number row there have own k below = elim (cases_Bool (number == k)) [
  | inl here ↦
      let is : number ≡ k = eqb-true number k here in
      subst (λ (n : ℕ). IfSome (get_or (set slots number (Some row)) n None) (HasOwnPieces plan (dealt count n plan.units)))
      is
      (subst (λ (o : Option PieceRow). IfSome o (HasOwnPieces plan (dealt count number plan.units)))
      (sym (set_same slots number (Some row) there)) own)
  | inr other ↦
      let differs : number ≢ k = λ e. let yes = eq-eqb number k e in cc in
      subst (λ (o : Option PieceRow). IfSome o (HasOwnPieces plan (dealt count k plan.units)))
      (sym (set_other slots number k (Some row) differs)) (have k (omega (arith, below, set_long slots number (Some row))))
]

-- ---- all slots

pub empty_is : (n : ℕ) (slots : List (Option PieceRow)) (lots : List LotFacts)
    → ((k : ℕ) → k < length slots → option_map row_in (get_or slots k None) ≡ row_at (n + k) lots)
    → empty_from n slots ≡ filter (λ number. is_none (row_at number lots)) (range_with_len n (length slots))
empty_is n [] lots same = refl
empty_is n (None ∷ slots) lots same =
    let first : row_at n lots ≡ None = ap (λ k. row_at k lots) (let e : n ≡ n + 0 = omega arith in e) ∙ sym (same 0 (omega arith)) in
    rw first (ap (λ (ks : List ℕ). n ∷ ks) (empty_is (n + 1) slots lots (next n slots lots (λ k below. same (suc k) (omega (arith, below))))))
  where
    next : (n : ℕ) (slots : List (Option PieceRow)) (lots : List LotFacts)
        → ((k : ℕ) → k < length slots → option_map row_in (get_or slots k None) ≡ row_at (n + suc k) lots)
        → (k : ℕ) → k < length slots → option_map row_in (get_or slots k None) ≡ row_at (n + 1 + k) lots
    next n slots lots later k below = later k below ∙ ap (λ m. row_at m lots) (let e : n + suc k ≡ n + 1 + k = omega arith in e)
empty_is n (Some row ∷ slots) lots same =
    let first : row_at n lots ≡ Some (row_in row) = ap (λ k. row_at k lots) (let e : n ≡ n + 0 = omega arith in e) ∙ sym (same 0 (omega arith)) in
    rw first (empty_is (n + 1) slots lots (λ k below.
    same (suc k) (omega (arith, below)) ∙ ap (λ m. row_at m lots) (let e : n + suc k ≡ n + 1 + k = omega arith in e)))

pub none_empty : (n : ℕ) (slots : List (Option PieceRow)) → empty_from n slots ≡ []
    → (length (flat_map rows_in slots) ≡ length slots)
    × ((k : ℕ) (d : PieceRow) → k < length slots → get_or slots k None ≡ Some (get_or (flat_map rows_in slots) k d))
none_empty n [] none = (refl, λ k d there. absurd (omega (arith, there)))
none_empty n (None ∷ slots) none = cc
none_empty n (Some row ∷ slots) none =
    let later = none_empty (n + 1) slots none in
    (ap suc later.0, each later.1)
  where
    each : ((k : ℕ) (d : PieceRow) → k < length slots → get_or slots k None ≡ Some (get_or (flat_map rows_in slots) k d))
        → (k : ℕ) (d : PieceRow) → k < length (Some row ∷ slots)
        → get_or (Some row ∷ slots) k None ≡ Some (get_or (row ∷ flat_map rows_in slots) k d)
    each later zero d there = refl
    each later (suc k) d there = later k d (omega (arith, there))
