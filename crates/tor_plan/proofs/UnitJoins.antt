-- A unit, and then another.
use Rattle.tor_plan.proofs.Names.{◌≡◌, ℕ, ◌+◌, ◌-◌, ◌<◌, Bool, true, false, cond, List, [], ◌∷◌, ◌++◌, length, get_or}
use Rattle.tor_plan.proofs.Names.{set, sum_by, take, arith, refl, ap, ap₂, ◌∙◌, sym, append-nil, zero-add}
use Rattle.tor_plan.proofs.Names.{take-append-drop, set_at, drop_more, drop_all, length-take-le, sum_by-cons}
use Rattle.tor_plan.proofs.Names.{after_part, after_zeros, empty_unit, unit_length, Part, PlanUnit}
pub use Rattle.tor_plan.specs.steps.Joined.{joined, parts_then, part_alone, zeros_alone}

abbrev pub with_zeros : Part → ℕ → Part
with_zeros part n = record { file = part.file; start = part.start; length = part.length; zeros = part.zeros + n }

-- what comes before the first unit comes before both
pub zeros_then : (n : ℕ) (u v : PlanUnit) → joined (after_zeros n u) v ≡ after_zeros n (joined u v)
zeros_then n u v =
    let rest = parts_then u.parts v in
    ap (λ k. record { zeros = k; parts = rest.parts }) (omega arith)

pub file_then : (b : Bool) (file start n : ℕ) (u v : PlanUnit)
    → joined (cond b (after_part file start n u) u) v ≡ cond b (after_part file start n (joined u v)) (joined u v)
file_then true file start n u v = refl
file_then false file start n u v = refl

abbrev pub unit_of : ℕ → List Part → PlanUnit
unit_of n parts = record { zeros = n; parts = parts }

same_zeros : (z n : ℕ) (parts : List Part) → n ≡ z → unit_of n parts ≡ unit_of z parts
same_zeros z n parts is = ap (λ k. unit_of k parts) is

-- a part before others
same_part : (part : Part) (n : ℕ) (parts : List Part) → n ≡ part.zeros
    → unit_of 0 (record { file = part.file; start = part.start; length = part.length; zeros = n } ∷ parts)
    ≡ unit_of 0 (part ∷ parts)
same_part part n parts is =
    ap (λ k. unit_of 0 (record { file = part.file; start = part.start; length = part.length; zeros = k } ∷ parts)) is

-- parts before others, and before zeros that come after the last of them
pub parts_first : (ps qs : List Part) → parts_then ps (unit_of 0 qs) ≡ unit_of 0 (ps ++ qs)
parts_first [] qs = refl
parts_first (p ∷ ps) qs =
    ap (λ u. after_part p.file p.start p.length (after_zeros p.zeros u)) (parts_first ps qs)
    ∙ same_part p (p.zeros + 0) (ps ++ qs) (omega arith)

zeros_last : (ps : List Part) (last : Part) (n : ℕ)
    → parts_then (ps ++ last ∷ []) (zeros_alone n) ≡ unit_of 0 (ps ++ with_zeros last n ∷ [])
zeros_last [] last n = refl
zeros_last (p ∷ ps) last n =
    ap (λ u. after_part p.file p.start p.length (after_zeros p.zeros u)) (zeros_last ps last n)
    ∙ same_part p (p.zeros + 0) (ps ++ with_zeros last n ∷ []) (omega arith)

-- a part more
pub then_part : (u : PlanUnit) (part : Part)
    → joined u (part_alone part) ≡ unit_of u.zeros (u.parts ++ part ∷ [])
then_part u part =
    ap (after_zeros u.zeros) (parts_first u.parts (part ∷ []))
    ∙ same_zeros u.zeros (u.zeros + 0) (u.parts ++ part ∷ []) (omega arith)

-- zeros more, after the last part
pub then_zeros : (z n : ℕ) (ps : List Part) (last : Part) → joined (unit_of z (ps ++ last ∷ [])) (zeros_alone n)
    ≡ unit_of z (ps ++ with_zeros last n ∷ [])
then_zeros z n ps last =
    ap (after_zeros z) (zeros_last ps last n) ∙ same_zeros z (z + 0) (ps ++ with_zeros last n ∷ []) (omega arith)

-- nothing more
pub then_nothing : (u : PlanUnit) → joined u empty_unit ≡ u
then_nothing u =
    ap (after_zeros u.zeros) (parts_first u.parts []) ∙ same_zeros u.zeros (u.zeros + 0) (u.parts ++ []) (omega arith)
    ∙ ap (unit_of u.zeros) (append-nil u.parts)

-- zeros after the last part
pub after_last : (z n len : ℕ) (ps : List Part) (last : Part) → len ≡ length ps → 0 < len
    → last ≡ get_or ps (len - 1) last
    → unit_of z (set ps (len - 1) (with_zeros last n)) ≡ joined (unit_of z ps) (zeros_alone n)
after_last z n len ps last long some is =
    let k = len - 1 in
    let front = take k ps in
    let split : ps ≡ front ++ last ∷ [] =
    sym (take-append-drop k ps) ∙ ap (λ xs. front ++ xs) (drop_more ps k last (omega arith)
    ∙ ap₂ (λ p xs. p ∷ xs) (sym is) (drop_all (k + 1) ps (omega arith))) in
    ap (λ xs. unit_of z (set xs k (with_zeros last n))) split
    ∙ ap (unit_of z) (set_at front last [] (with_zeros last n) k (length-take-le k ps (omega arith)))
    ∙ sym (then_zeros z n front last) ∙ ap (λ xs. joined (unit_of z xs) (zeros_alone n)) (sym split)

-- ---- three units

joined_parts : (ps : List Part) (v w : PlanUnit) → joined (parts_then ps v) w ≡ parts_then ps (joined v w)
joined_parts [] v w = refl
joined_parts (p ∷ ps) v w =
    ap (after_part p.file p.start p.length)
    (zeros_then p.zeros (parts_then ps v) w ∙ ap (after_zeros p.zeros) (joined_parts ps v w))

pub joined_twice : (u v w : PlanUnit) → joined (joined u v) w ≡ joined u (joined v w)
joined_twice u v w = zeros_then u.zeros (parts_then u.parts v) w ∙ ap (after_zeros u.zeros) (joined_parts u.parts v w)

abbrev pub part_length : Part → ℕ
part_length part = part.length + part.zeros

length_parts : (ps : List Part) (v : PlanUnit)
    → unit_length (parts_then ps v) ≡ sum_by part_length ps + unit_length v
length_parts [] v = sym (zero-add (unit_length v))
length_parts (p ∷ ps) v =
    let later = after_zeros p.zeros (parts_then ps v) in
    omega (
      arith,
      length_parts ps v,
      sum_by-cons part_length p ps,
      sum_by-cons part_length
          (record { file = p.file; start = p.start; length = p.length; zeros = later.zeros }) later.parts,
    )

pub joined_length : (u v : PlanUnit) → unit_length (joined u v) ≡ unit_length u + unit_length v
joined_length u v = omega (arith, length_parts u.parts v)
