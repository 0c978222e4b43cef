-- The bytes that contents have of a piece of joined entries.
use Rattle.tor_view.proofs.Names.{◌≡◌, ℕ, ◌+◌, ◌-◌, ◌*◌, ◌<◌, ◌≤◌, max, List, [], ◌∷◌, ◌++◌, take, drop, get_or}
use Rattle.tor_view.proofs.Names.{arith, refl, ap, ap₂, ◌∙◌, sym, subst, inl, inr, append_assoc, cases_lt}
use Rattle.tor_view.proofs.Names.{cond-false, cond-true, le-ltb, lt-ltb, drop_all, replicate-append-replicate}
use Rattle.tor_view.proofs.Names.{take_all, flat_map, run_at, after_part, after_zeros, empty_unit, joined_entry_unit}
use Rattle.tor_view.proofs.Names.{shared, unit_within, PlanUnit, file_bytes, joined_bytes, zeros, Entry}
use Rattle.tor_view.proofs.Names.{Label, padding, file, entry_cases}
use Rattle.tor_view.proofs.FromIndex.{first_from, others_from}
use Rattle.tor_view.proofs.FoundBytes.{Found, HaveBytes, length-file, no_bytes, part_bytes, there, there_append}
use Rattle.tor_view.proofs.FoundBytes.{unit_bytes}
use Rattle.tor_view.proofs.RangeBytes.{between, between-append, between-file, between-zeros, length-zeros}

module _ (contents : List (List ℕ)) where
  zeros_first : (n : ℕ) (unit : PlanUnit)
      → unit_bytes contents (after_zeros n unit) ≡ there (zeros n) ++ unit_bytes contents unit
  unfolding zeros
  zeros_first n unit =
      let others = flat_map (part_bytes contents) unit.parts in
      ap (λ xs. there xs ++ others) (sym (replicate-append-replicate n unit.zeros 0))
      ∙ ap (λ xs. xs ++ others) (sym (there_append (zeros n) (zeros unit.zeros)))
      ∙ append_assoc (there (zeros n)) (there (zeros unit.zeros)) others

  part_first : (index start n : ℕ) (unit : PlanUnit) → unit_bytes contents (after_part index start n unit)
      ≡ file_bytes n (drop start (get_or contents index [])) ++ unit_bytes contents unit
  unfolding zeros
  part_first index start n unit =
      append_assoc (file_bytes n (drop start (get_or contents index []))) (there (zeros unit.zeros))
      (flat_map (part_bytes contents) unit.parts)

  module _ (a b : ℕ) where
    -- the unit is what the range meets of the entries
    record IsMet (index at : ℕ) (entries : List Entry) (unit : PlanUnit) : Type 0 where
      some : HaveBytes unit.parts
      bytes : unit_bytes contents unit ≡ between a b at (joined_bytes entries (drop index contents))

    none : (index at : ℕ) → IsMet index at [] empty_unit
    unfolding zeros
    none index at = record {
      some = tt;
      bytes = sym (ap (take (b - max a at)) (drop_all (a - at) [] (omega arith))
          ∙ take_all (b - max a at) [] (omega arith));
    }

    of_padding : (index at : ℕ) (label : Label) (m : ℕ) (entries : List Entry) (unit : PlanUnit)
        → IsMet index (at + m) entries unit
        → IsMet index at (padding label m ∷ entries) (after_zeros (shared a b at m) unit)
    of_padding index at label m entries unit rest = record {
      some = rest.some;
      bytes = zeros_first (shared a b at m) unit ∙ ap₂ (λ xs ys. xs ++ ys) (between-zeros a b at m) rest.bytes
          ∙ sym (between-append a b at m (there (zeros m)) (joined_bytes entries (drop index contents))
          (length-zeros m));
    }

    -- a file of which these bytes are met
    of_file : (index at : ℕ) (label : Label) (m : ℕ) (entries : List Entry) (part : Found) (unit : PlanUnit)
        → part ≡ file_bytes (shared a b at m) (drop (max a at - at) (get_or contents index []))
        → IsMet (index + 1) (at + m) entries unit
        → part ++ unit_bytes contents unit
        ≡ between a b at (joined_bytes (file label m ∷ entries) (drop index contents))
    of_file index at label m entries part unit is rest =
        let content = get_or contents index [] in
        let later = drop (index + 1) contents in
        ap₂ (λ xs ys. xs ++ ys) (is ∙ between-file a b at m content) rest.bytes
        ∙ sym (between-append a b at m (file_bytes m content) (joined_bytes entries later) (length-file m content))
        ∙ sym (ap₂ (λ one others. between a b at (file_bytes m one ++ joined_bytes entries others))
        (first_from contents index) (others_from contents index))

    met : (index at : ℕ) (label : Label) (m : ℕ) (entries : List Entry) → 0 < shared a b at m
        → unit_within a b index at (file label m ∷ entries)
        ≡ after_part index (max a at - at) (shared a b at m) (unit_within a b (index + 1) (at + m) entries)
    unfolding unit_within
    met index at label m entries some = cond-true _ _ _ (lt-ltb 0 (shared a b at m) some)

    not_met : (index at : ℕ) (label : Label) (m : ℕ) (entries : List Entry) → shared a b at m ≤ 0
        → unit_within a b index at (file label m ∷ entries) ≡ unit_within a b (index + 1) (at + m) entries
    unfolding unit_within
    not_met index at label m entries few = cond-false _ _ _ (le-ltb 0 (shared a b at m) few)

    is_met : (index at : ℕ) (entries : List Entry) → IsMet index at entries (unit_within a b index at entries)
    unfolding unit_within
    is_met index at [] = none index at
    is_met index at (entry ∷ entries) = entry_cases
        (λ e. IsMet index at (e ∷ entries) (unit_within a b index at (e ∷ entries)))
        (λ label m. of_padding index at label m entries _ (is_met index (at + m) entries))
        (λ label m.
        let later = unit_within a b (index + 1) (at + m) entries in
        let rest = is_met (index + 1) (at + m) entries in
        let n = shared a b at m in
        let s = max a at - at in
        elim (cases_lt 0 n) [
          | inl some ↦
              subst (IsMet index at (file label m ∷ entries)) (sym (met index at label m entries some)) (record {
                some = (some, rest.some);
                bytes = part_first index s n later ∙ of_file index at label m entries _ later refl rest;
              })
          | inr few ↦
              subst (IsMet index at (file label m ∷ entries)) (sym (not_met index at label m entries few)) (record {
                some = rest.some;
                bytes = of_file index at label m entries [] later
                    (sym (ap (λ k. file_bytes k (drop s (get_or contents index [])))
                    (let e : n ≡ 0 = omega (arith, few) in e)
                    ∙ no_bytes (drop s (get_or contents index []))))
                    rest;
              })
        ]) entry

-- a unit of the joined entries has parts with bytes, and what there is of the run of joined bytes
pub joined_unit_some : (p : ℕ) (entries : List Entry) (k : ℕ) → HaveBytes (joined_entry_unit p entries k).parts
joined_unit_some p entries k = (is_met [] (k * p) ((k + 1) * p) 0 0 entries).some

pub joined_unit_bytes : (contents : List (List ℕ)) (p : ℕ) (entries : List Entry) (k : ℕ)
    → unit_bytes contents (joined_entry_unit p entries k) ≡ run_at p (joined_bytes entries contents) k
joined_unit_bytes contents p entries k =
    let all = joined_bytes entries contents in
    (is_met contents (k * p) ((k + 1) * p) 0 0 entries).bytes
    ∙ ap₂ (λ n j. take n (drop j all)) (let e : (k + 1) * p - max (k * p) 0 ≡ p = omega arith in e)
    (let e : k * p - 0 ≡ k * p = omega arith in e)
