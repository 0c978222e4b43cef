-- The pieces of a unit that is one part of a file: each is a part of the bytes of that part.
use Rattle.std.proofs.Common.{◌≡◌, ◌<◌, ◌≤◌, ℕ, zero, suc, ◌+◌, ◌*◌, ◌-◌, max, min, List, [], ◌∷◌, take, drop}
use Rattle.std.proofs.Common.{drop-drop, get_or, arith, inl, inr, refl, ap, ap₂, sym, ◌∙◌}
use Rattle.std.specs.Int.{div_ceil}
use Rattle.std.proofs.lemmas.Bool.{cases_lt}
use Rattle.std.proofs.lemmas.Grind.{div_ceil_times}
use Rattle.std.proofs.lemmas.List.{drop-take, length-take, take-take, take_all}
use Rattle.std.proofs.lemmas.List.Sums.{sum_by-cons}
use Rattle.tor_merkle.specs.Block.{run_at}
use Rattle.tor_merkle.proofs.ProvedLaws.{ceil_is}
use Rattle.tor_plan.specs.Entries.{shared}
use Rattle.tor_plan.specs.Pieces.{parts_between, piece_of_unit, unit_between}
use Rattle.tor_plan.specs.WithinEntries.{unit_length}
use Rattle.tor_plan.specs.declared.units.Part.{Part}
use Rattle.tor_plan.specs.declared.units.PlanUnit.{PlanUnit}
use Rattle.tor_plan.proofs.ProvedLaws.{part_met, part_not_met}
use Rattle.tor_sums.specs.steps.Hashes.{bytes_of_part}

-- the unit that is one part
abbrev pub alone : Part → PlanUnit
alone part = record { zeros = 0; parts = part ∷ [] }

-- it has these bytes of the part, from byte a to byte b
pub record HasRange (a b : ℕ) (part other : Part) : Type 0 where
  pub file : other.file ≡ part.file
  pub start : other.start ≡ part.start + a
  pub count : other.length ≡ min b part.length - a

module _ (a b : ℕ) (part : Part) where
  past_end : part.length ≤ a → (unit_between a b (alone part)).parts ≡ []
  unfolding parts_between
  past_end past = ap (λ (u : PlanUnit). u.parts) (part_not_met a b 0 part [] (omega (arith, past)))

  pub in_range : a < b → a < part.length
      → (other : Part) × ((unit_between a b (alone part)).parts ≡ other ∷ []) × HasRange a b part other
  unfolding parts_between
  in_range less within = (
    record {
      file = part.file;
      start = part.start + (max a 0 - 0);
      length = shared a b 0 part.length;
      zeros = shared a b (0 + part.length) part.zeros + 0;
    },
    ap (λ (u : PlanUnit). u.parts) (part_met a b 0 part [] (omega (arith, less, within))),
    record { file = refl; start = omega arith; count = omega arith },
  )

-- its bytes are among those of the part
pub range_bytes : (contents : List (List ℕ)) (p k : ℕ) (part other : Part)
    → HasRange (k * p) ((k + 1) * p) part other → k * p < part.length
    → bytes_of_part contents other ≡ run_at p (bytes_of_part contents part) k
range_bytes contents p k part other has within =
    let content = get_or contents part.file [] in
    let a = k * p in
    let left = part.length - a in
    let rest = drop a (drop part.start content) in
    let next : (k + 1) * p ≡ a + p = omega arith in
    let n : other.length ≡ min p left = omega (arith, has.count, next, within) in
    let all : drop a (take part.length (drop part.start content)) ≡ take left rest =
    ap (λ m. drop a (take m (drop part.start content))) (let e : part.length ≡ a + left = omega (arith, within) in e)
    ∙ drop-take a left (drop part.start content) in
    ap₂ (λ m s. take m (drop s (get_or contents other.file []))) n has.start
    ∙ ap (λ file. take (min p left) (drop (part.start + a) (get_or contents file []))) has.file
    ∙ ap (take (min p left)) (sym (drop-drop a part.start content))
    ∙ elim (cases_lt left p) [
      | inl few ↦
          ap (λ m. take m rest) (let e : min p left ≡ left = omega (arith, few) in e)
          ∙ sym (take_all p (take left rest) (omega (arith, length-take left rest, few)))
      | inr many ↦
          ap (λ m. take m rest) (let e : min p left ≡ p = omega (arith, many) in e)
          ∙ sym (take-take p left rest (omega (arith, many)))
    ]
    ∙ ap (take p) (sym all)

-- ---- all pieces, each of which has bytes of the part

module _ (p : ℕ) (part : Part) (some : 0 < p) (bytes : 0 < part.length)
    (each : (k : ℕ) → k < div_ceil (unit_length (alone part)) p
    → (other : Part) × ((piece_of_unit p (alone part) k).parts ≡ other ∷ [])) where
  abbrev count : ℕ
  count = div_ceil (unit_length (alone part)) p

  pub begins : (k : ℕ) → k < count → k * p < part.length
  begins k less = elim (cases_lt (k * p) part.length) [
    | inl is ↦ is
    | inr past ↦
        let other = each k less in
        let never : [] ≡ other.0 ∷ [] = sym (past_end (k * p) ((k + 1) * p) part past) ∙ other.1 in
        absurd cc
  ]

  pub counted : div_ceil part.length p ≡ count
  counted =
      let long = sum_by-cons (λ (q : Part). q.length + q.zeros) part [] in
      let all = div_ceil_times (unit_length (alone part)) p some in
      ceil_is part.length p count (omega (arith, all.0, long)) (by_count count refl)
    where
      by_count : (c : ℕ) → count ≡ c → c * p < part.length + p
      by_count zero is = omega (arith, bytes)
      by_count (suc c) is =
          let more : suc c * p ≡ c * p + p = omega arith in
          omega (arith, begins c (omega (arith, is)), more)

  pub piece_range : (k : ℕ) → k < count
      → (other : Part) × ((piece_of_unit p (alone part) k).parts ≡ other ∷ [])
      × HasRange (k * p) ((k + 1) * p) part other
  piece_range k less =
      let next : (k + 1) * p ≡ k * p + p = omega arith in
      in_range (k * p) ((k + 1) * p) part (omega (arith, next, some)) (begins k less)
