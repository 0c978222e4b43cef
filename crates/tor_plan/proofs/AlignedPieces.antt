-- Where each file but the last ends with a piece, the pieces of the files are those of the joined entries.
use Rattle.tor_plan.proofs.Names.{◌≡◌, ◌⊎◌, ℕ, ◌+◌, ◌*◌, ◌<◌, false, List, [], ◌∷◌, ◌++◌, map, arith, refl, ap, ◌∙◌}
use Rattle.tor_plan.proofs.Names.{sym, append-nil, inl, inr, subst, lt-ltb, ltb-false, or_parts, flat_map, list_any}
use Rattle.tor_plan.proofs.Names.{range_with_len, V1, Hybrid, padding_length, Entry, after_zeros, empty_unit}
use Rattle.tor_plan.proofs.Names.{entry_units, padding_before_next, is_filled, ArePadded, IsLaidOut, piece_of_unit}
use Rattle.tor_plan.proofs.Names.{pieces_of_unit, unit_length, Part, PlanUnit, part_alone, whole_from, whole_unit}
use Rattle.tor_plan.proofs.Names.{whole_with_padding, ceil_is}
use Rattle.tor_plan.proofs.EntrySteps.{before_empty, before_some}
use Rattle.tor_plan.proofs.PieceJoins.{pieces_joined}
use Rattle.tor_plan.proofs.UnitJoins.{parts_first, unit_of}
use Rattle.tor_plan.proofs.WholeUnits.{by_whole, pieces_of_whole}
use Rattle.tor_plan.proofs.WholeLaws.{units_are_pieces}

AreEnded : ℕ → List Part → Type 0
AreEnded p [] = Unit {0}
AreEnded p (part ∷ parts) = ((part.zeros ≡ padding_length p part.length) ⊎ (parts ≡ [])) × AreEnded p parts

abbrev IsEnded : ℕ → ℕ → List Entry → PlanUnit → Type 0
IsEnded p index entries unit =
    (unit.zeros ≡ padding_before_next entries) × (list_any is_filled entries ≡ false → unit.parts ≡ [])
    × (ArePadded p entries → AreEnded p unit.parts)

ended : (p index : ℕ) (entries : List Entry) → IsEnded p index entries (whole_from index entries)
unfolding padding_before_next ArePadded AreEnded
ended p = by_whole (IsEnded p) (λ index. (refl, (λ none. refl), λ padded. tt))
    (λ index path m entries unit rest. (ap (λ n. m + n) rest.0, rest.1, λ padded. rest.2 padded.1))
    (λ index path m entries unit some rest. (
      sym (before_some path m entries some),
      (λ none. absurd (omega (arith, some, ltb-false 0 m (or_parts _ (list_any is_filled entries) none).0))),
      λ padded. (
        elim (padded.0 (lt-ltb 0 m some)) [
          | inl full ↦ inl (rest.0 ∙ full)
          | inr last ↦ inr (rest.1 last.0)
        ],
        rest.2 padded.1,
      ),
    )) (λ index path m entries unit few rest. (
      rest.0 ∙ sym (before_empty path m entries (omega (arith, few))),
      (λ none. rest.1 (or_parts _ (list_any is_filled entries) none).1),
      λ padded. rest.2 padded.1,
    ))

pieces_of_files : (p : ℕ) → 0 < p → (parts : List Part) → AreEnded p parts
    → flat_map (pieces_of_unit p) (map part_alone parts) ≡ pieces_of_unit p (unit_of 0 parts)
unfolding AreEnded pieces_of_unit
pieces_of_files p some [] are =
    sym (ap (λ n. map (piece_of_unit p empty_unit) (range_with_len 0 n))
    (ceil_is 0 p 0 (omega arith) (omega (arith, some))))
pieces_of_files p some (part ∷ parts) are = elim are.0 [
  | inl full ↦
      let count = whole_with_padding p part.length some in
      let long : unit_length (part_alone part) ≡ count.0 * p = omega (arith, full, count.1) in
      ap (λ ps. pieces_of_unit p (part_alone part) ++ ps) (pieces_of_files p some parts are.1)
      ∙ sym (pieces_joined p count.0 some (part_alone part) (unit_of 0 parts) long)
      ∙ ap (λ u. pieces_of_unit p (after_zeros 0 u)) (parts_first (part ∷ []) parts)
  | inr last ↦ subst (λ (ps : List Part). pieces_of_unit p (part_alone part)
      ++ flat_map (pieces_of_unit p) (map part_alone ps) ≡ pieces_of_unit p (unit_of 0 (part ∷ ps))) (sym last)
      (append-nil (pieces_of_unit p (part_alone part)))
]

pub aligned_pieces_are_joined : (p : ℕ) (entries : List Entry) → 0 < p → IsLaidOut Hybrid p entries
    → entry_units Hybrid p 1 entries ≡ entry_units V1 p 1 entries
unfolding IsLaidOut
aligned_pieces_are_joined p entries some laid =
    let whole = whole_unit entries in
    let is = ended p 0 entries in
    let one : 1 * p ≡ p = omega arith in
    units_are_pieces Hybrid p 1 entries some (omega (arith, some)) laid
    ∙ ap (λ n. flat_map (pieces_of_unit n) (map part_alone whole.parts)) one
    ∙ pieces_of_files p some whole.parts (is.2 laid.1)
    ∙ ap (λ z. pieces_of_unit p (unit_of z whole.parts)) (sym (is.0 ∙ laid.0))
    ∙ ap (λ n. pieces_of_unit n whole) (sym one) ∙ pieces_of_whole (1 * p) entries
