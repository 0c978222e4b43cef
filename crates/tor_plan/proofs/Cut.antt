-- A unit while it is cut.
use Rattle.tor_plan.proofs.Names.{◌≡◌, ◌⊎◌, inl, inr, ℕ, ◌+◌, ◌*◌, ◌<◌, ◌≤◌, max, [], ◌∷◌, ◌++◌, map, arith, ap, ap₂}
use Rattle.tor_plan.proofs.Names.{◌∙◌, sym, map-range_with_len_more, range_with_len, empty_unit, piece_of_unit}
use Rattle.tor_plan.proofs.Names.{pieces_of_unit, unit_between, unit_length, Stretch, UnitCut, PlanUnit, joined}
use Rattle.tor_plan.proofs.Names.{stretch_at, HasCut, IsStretchAt, ceil_is}
use Rattle.tor_plan.proofs.PieceCut.{unit_none, unit_all}

module _ (old : UnitCut) (unit : PlanUnit) (x : ℕ) (cut : HasCut old unit x) where
  abbrev begin : ℕ
  begin = cut.whole * old.size

  -- n bytes more, in the piece that is begun
  cut_more : (n : ℕ) (v : PlanUnit) → unit_between begin (x + n) unit ≡ joined (unit_between begin x unit) v
      → (new : UnitCut) → new.size ≡ old.size → new.units.items ≡ old.units.items → new.begun ≡ joined old.begun v
      → new.room + n ≡ old.room → HasCut new unit (x + n)
  cut_more n v more new size units begun room = record {
    whole = cut.whole;
    units =
        units ∙ cut.units ∙ ap (λ s. map (piece_of_unit s unit) (range_with_len 0 cut.whole)) (sym size);
    begun = begun ∙ ap (λ u. joined u v) cut.begun ∙ sym more
        ∙ ap (λ s. unit_between (cut.whole * s) (x + n) unit) (sym size);
    room = let e : x + n + new.room ≡ (cut.whole + 1) * old.size = omega (arith, cut.room, room) in
        e ∙ ap (λ s. (cut.whole + 1) * s) (sym size);
  }

  -- a full piece was put away
  pub cut_full : (new : UnitCut) → new.size ≡ old.size → new.units.items ≡ old.units.items ++ old.begun ∷ []
      → new.begun ≡ empty_unit → old.room ≡ 0 → new.room ≡ new.size → HasCut new unit x
  cut_full new size units none full room =
      let all = piece_of_unit old.size unit in
      let end : x ≡ (cut.whole + 1) * old.size = omega (arith, cut.room, full) in
      let last : old.begun ≡ all cut.whole = cut.begun ∙ ap (λ b. unit_between begin b unit) end in
      let same : x ≡ (cut.whole + 1) * new.size = end ∙ ap (λ s. (cut.whole + 1) * s) (sym size) in
      record {
        whole = cut.whole + 1;
        units = units ∙ ap₂ (λ us u. us ++ u ∷ []) cut.units last
            ∙ sym (map-range_with_len_more all 0 cut.whole cut.whole (omega arith))
            ∙ ap (λ s. map (piece_of_unit s unit) (range_with_len 0 (cut.whole + 1))) (sym size);
        begun = none ∙ sym (unit_none ((cut.whole + 1) * new.size) x unit (omega (arith, same)));
        room = let e : x + new.size ≡ (cut.whole + 1 + 1) * new.size = omega (arith, same) in ap (λ r. x + r) room ∙ e;
      }

-- bytes of a stretch that begin with it or with their piece
pub adds_some : (old : UnitCut) (unit : PlanUnit) (at n i k : ℕ) (stretch : Stretch) → HasCut old unit (at + i)
    → IsStretchAt unit at stretch n → (i ≡ 0) ⊎ (old.room ≡ old.size) → 0 < k → i + k ≤ n → (new : UnitCut)
    → new.size ≡ old.size → new.units.items ≡ old.units.items → new.begun ≡ joined old.begun (stretch_at stretch i k)
    → new.room + k ≡ old.room → HasCut new unit (at + i + k)
adds_some old unit at n i k stretch cut is begins some within new size units begun room =
    let begin = cut.whole * old.size in
    let from : max begin at ≡ at + i = elim begins [
      | inl first ↦ omega (arith, cut.room, old.filled, first)
      | inr fresh ↦ omega (arith, cut.room, fresh)
    ] in
    cut_more old unit (at + i) cut k (stretch_at stretch i k) (is begin i k from some within) new size units begun room

-- all bytes were cut
module _ (old : UnitCut) (unit : PlanUnit) (cut : HasCut old unit (unit_length unit)) where
  abbrev all : ℕ → PlanUnit
  all = piece_of_unit old.size unit

  pub ends_full : old.room ≡ old.size → old.units.items ≡ pieces_of_unit old.size unit
  unfolding pieces_of_unit
  ends_full full =
      cut.units ∙ ap (λ n. map all (range_with_len 0 n))
      (sym (ceil_is (unit_length unit) old.size cut.whole (omega (arith, cut.room, full))
      (omega (arith, cut.room, full, old.some))))

  pub ends_short : old.room < old.size → old.units.items ++ old.begun ∷ [] ≡ pieces_of_unit old.size unit
  unfolding pieces_of_unit
  ends_short less =
      let last : old.begun ≡ all cut.whole = cut.begun
      ∙ sym (unit_all (cut.whole * old.size) (unit_length unit) ((cut.whole + 1) * old.size) unit (omega arith)
      (omega (arith, cut.room))) in
      ap₂ (λ us u. us ++ u ∷ []) cut.units last ∙ sym (map-range_with_len_more all 0 cut.whole cut.whole (omega arith))
      ∙ ap (λ n. map all (range_with_len 0 n))
      (sym (ceil_is (unit_length unit) old.size (cut.whole + 1) (omega (arith, cut.room))
      (omega (arith, cut.room, less))))

-- no byte was cut
pub cut_none : (unit : PlanUnit) (cut : UnitCut) → cut.units.items ≡ [] → cut.begun ≡ empty_unit → cut.room ≡ cut.size
    → HasCut cut unit 0
cut_none unit cut units begun room = record {
  whole = 0;
  units = units;
  begun = begun ∙ sym (unit_none (0 * cut.size) 0 unit (omega arith));
  room = omega (arith, room);
}
