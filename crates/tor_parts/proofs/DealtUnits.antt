-- The lots have all units, and about as many bytes.
use Rattle.std.proofs.Common.{◌↔◌, ◌≡◌, ◌≤◌, ◌<◌, ℕ, zero, suc, ◌+◌, ◌-◌, ◌*◌, ◌/◌, ◌%◌, min, List, [], ◌∷◌, ◌++◌}
use Rattle.std.proofs.Common.{append-nil}
use Rattle.std.proofs.Common.{append_assoc, cond, drop, take, length, get_or, refl, ap, sym, ◌∙◌, arith, inl, inr}
use Rattle.std.proofs.Common.{mul-le-mul_right}
use Rattle.std.proofs.Math.Seq.{take-add}
use Rattle.std.proofs.lemmas.Bool.{cases_lt, le-ltb, lt-ltb}
use Rattle.std.proofs.lemmas.List.{drop_all, drop_more, take_all}
use Rattle.std.proofs.lemmas.List.Elements.{recursion_from_All}
use Rattle.std.proofs.lemmas.List.Sums.{sum_by-append, sum_by-cons}
use Rattle.std.specs.List.{All, AllByRecursion, flat_map, range_with_len}
use Rattle.tor_plan.specs.WithinEntries.{unit_length}
use Rattle.tor_plan.specs.declared.units.PlanUnit.{PlanUnit}
use Rattle.tor_parts.specs.Dealing.{bytes_of, dealt, first_byte, first_unit, units_before}

-- ---- units before a byte

before_grows : (b c at : ℕ) (units : List PlanUnit) → b ≤ c → units_before b at units ≤ units_before c at units
unfolding units_before
before_grows b c at [] le = omega arith
before_grows b c at (unit ∷ units) le = elim (cases_lt at b) [
  | inl below ↦
      rw (lt-ltb at b below, lt-ltb at c (omega (arith, below, le)))
      (omega (arith, before_grows b c (at + unit_length unit) units le))
  | inr past ↦ rw (le-ltb at b past) (omega arith)
]

pub before_few : (b at : ℕ) (units : List PlanUnit) → units_before b at units ≤ length units
unfolding units_before
before_few b at [] = omega arith
before_few b at (unit ∷ units) = elim (cases_lt at b) [
  | inl below ↦ rw (lt-ltb at b below) (omega (arith, before_few b (at + unit_length unit) units))
  | inr past ↦ rw (le-ltb at b past) (omega arith)
]

none_before : (units : List PlanUnit) → units_before 0 0 units ≡ 0
unfolding units_before
none_before [] = refl
none_before (unit ∷ units) = refl

-- one unit more, and none once the byte is reached
pub next_before : (b at i : ℕ) (units : List PlanUnit) (d : PlanUnit) → i < length units → at < b
    → units_before b at (drop i units)
    ≡ suc (units_before b (at + unit_length (get_or units i d)) (drop (i + 1) units))
unfolding units_before
next_before b at i units d there below = rw (drop_more units i d there, lt-ltb at b below) refl

pub past_before : (b at : ℕ) (units : List PlanUnit) → b ≤ at → units_before b at units ≡ 0
unfolding units_before
past_before b at [] past = refl
past_before b at (unit ∷ units) past = rw (le-ltb at b past) refl

pub all_before : (b at i : ℕ) (units : List PlanUnit) → length units ≤ i → units_before b at (drop i units) ≡ 0
unfolding units_before
all_before b at i units past = rw (drop_all i units past) refl

-- from the first that does not begin before a byte one goes on to a later byte
pub resumed : (b c at : ℕ) (units : List PlanUnit) → b ≤ c
    → units_before c at units
    ≡ units_before b at units + units_before c (at + bytes_of (take (units_before b at units) units))
    (drop (units_before b at units) units)
unfolding units_before
resumed b c at [] le = refl
resumed b c at (unit ∷ units) le = elim (cases_lt at b) [
  | inl below ↦
      let n = units_before b (at + unit_length unit) units in
      let long : at + unit_length unit + bytes_of (take n units) ≡ at + bytes_of (unit ∷ take n units) =
      omega (arith, sum_by-cons unit_length unit (take n units)) in
      let next = resumed b c (at + unit_length unit) units le in
      let there : units_before c (at + unit_length unit + bytes_of (take n units)) (drop n units)
      ≡ units_before c (at + bytes_of (unit ∷ take n units)) (drop n units) =
      ap (λ m. units_before c m (drop n units)) long in
      rw (lt-ltb at b below, lt-ltb at c (omega (arith, below, le))) (omega (arith, next, there))
  | inr past ↦
      rw (le-ltb at b past) (same at (unit ∷ units))
]
  where
    same : (m : ℕ) (us : List PlanUnit) → units_before c m us ≡ 0 + units_before c (m + 0) us
    same m us = let e : m ≡ m + 0 = omega arith in
        ap (λ k. units_before c k us) e
        ∙ (let f : units_before c (m + 0) us ≡ 0 + units_before c (m + 0) us = omega arith in f)

-- a unit is among those that begin before a byte exactly if it does
is_before : (b at k : ℕ) (units : List PlanUnit) → k < units_before b at units → at + bytes_of (take k units) < b
unfolding units_before
is_before b at k [] less = absurd (omega (arith, less))
is_before b at zero (unit ∷ units) less = elim (cases_lt at b) [
  | inl below ↦ omega (arith, below)
  | inr past ↦ absurd (omega (arith, less, past_before b at (unit ∷ units) past))
]
is_before b at (suc k) (unit ∷ units) less = elim (cases_lt at b) [
  | inl below ↦
      let count : units_before b at (unit ∷ units) ≡ suc (units_before b (at + unit_length unit) units) =
      rw (lt-ltb at b below) refl in
      let next = is_before b (at + unit_length unit) k units (omega (arith, less, count)) in
      omega (arith, next, sum_by-cons unit_length unit (take k units))
  | inr past ↦ absurd (omega (arith, less, past_before b at (unit ∷ units) past))
]

is_past : (b at k : ℕ) (units : List PlanUnit) → k < length units → units_before b at units ≤ k
    → b ≤ at + bytes_of (take k units)
unfolding units_before
is_past b at k [] there most = absurd (omega (arith, there))
is_past b at zero (unit ∷ units) there most = elim (cases_lt at b) [
  | inl below ↦
      let count : units_before b at (unit ∷ units) ≡ suc (units_before b (at + unit_length unit) units) =
      rw (lt-ltb at b below) refl in
      absurd (omega (arith, most, count))
  | inr past ↦ omega (arith, past)
]
is_past b at (suc k) (unit ∷ units) there most = elim (cases_lt at b) [
  | inl below ↦
      let count : units_before b at (unit ∷ units) ≡ suc (units_before b (at + unit_length unit) units) =
      rw (lt-ltb at b below) refl in
      let next = is_past b (at + unit_length unit) k units (omega (arith, there)) (omega (arith, most, count)) in
      omega (arith, next, sum_by-cons unit_length unit (take k units))
  | inr past ↦ omega (arith, past)
]

-- they have no more bytes than so many of the longest
pub few_bytes : (size : ℕ) (units : List PlanUnit) → AllByRecursion (λ unit. unit_length unit ≤ size) units
    → bytes_of units ≤ length units * size
few_bytes size [] small = omega arith
few_bytes size (unit ∷ units) small =
    omega (arith, small.0, few_bytes size units small.1, sum_by-cons unit_length unit units)

-- ---- where lots begin

pub byte_grows : (q r k : ℕ) → k * q + min k r ≤ (k + 1) * q + min (k + 1) r
byte_grows q r k = omega arith

byte_steps : (q r k : ℕ) → (k + 1) * q + min (k + 1) r ≤ k * q + min k r + (q + 1)
byte_steps q r k = omega arith

module _ (lots : ℕ) (units : List PlanUnit) where
  abbrev cut : ℕ → ℕ
  cut lot = first_unit lots lot units

  pub cut_within : (lot : ℕ) → cut lot ≤ length units
  cut_within lot = elim (cases_lt lot lots) [
    | inl below ↦ rw (lt-ltb lot lots below) (before_few (first_byte (bytes_of units) lots lot) 0 units)
    | inr past ↦ rw (le-ltb lot lots past) (omega arith)
  ]

  pub cut_grows : (lot : ℕ) → cut lot ≤ cut (lot + 1)
  cut_grows lot = elim (cases_lt (lot + 1) lots) [
    | inl below ↦
        rw (lt-ltb lot lots (omega (arith, below)), lt-ltb (lot + 1) lots below)
        (before_grows _ _ 0 units (byte_grows (bytes_of units / lots) (bytes_of units % lots) lot))
    | inr past ↦ rw (le-ltb (lot + 1) lots past) (cut_within lot)
  ]

  cut_first : 0 < lots → cut 0 ≡ 0
  cut_first some =
      let none : first_byte (bytes_of units) lots 0 ≡ 0 = omega arith in
      rw (lt-ltb 0 lots some) (ap (λ b. units_before b 0 units) none ∙ none_before units)

  cut_last : cut lots ≡ length units
  cut_last = rw (le-ltb lots lots (omega arith)) refl

-- ---- runs of a list, one after another

module _ {X : Type 0} (xs : List X) (cut : ℕ → ℕ) (grows : (k : ℕ) → cut k ≤ cut (k + 1)) where
  abbrev run : ℕ → List X
  run k = take (cut (k + 1) - cut k) (drop (cut k) xs)

  next_run : (a : ℕ) → take (cut a) xs ++ run a ≡ take (cut (a + 1)) xs
  next_run a =
      let all : cut a + (cut (a + 1) - cut a) ≡ cut (a + 1) = omega (arith, grows a) in
      sym (take-add (cut a) (cut (a + 1) - cut a) xs) ∙ ap (λ k. take k xs) all

  runs : (a n : ℕ) → take (cut a) xs ++ flat_map run (range_with_len a n) ≡ take (cut (a + n)) xs
  runs a zero =
      append-nil (take (cut a) xs)
      ∙ ap (λ k. take (cut k) xs) (let e : a ≡ a + zero = omega arith in e)
  runs a (suc n) =
      sym (append_assoc (take (cut a) xs) (run a) (flat_map run (range_with_len (a + 1) n)))
      ∙ ap (λ ys. ys ++ flat_map run (range_with_len (a + 1) n)) (next_run a)
      ∙ runs (a + 1) n
      ∙ ap (λ k. take (cut k) xs) (let e : a + 1 + n ≡ a + suc n = omega arith in e)

pub all_dealt : (lots : ℕ) (units : List PlanUnit) → 0 < lots
    → flat_map (λ lot. dealt lots lot units) (range_with_len 0 lots) ≡ units
all_dealt lots units some =
    let own = flat_map (λ lot. dealt lots lot units) (range_with_len 0 lots) in
    let none : take (cut lots units 0) units ≡ [] = ap (λ k. take k units) (cut_first lots units some) in
    let last : 0 + lots ≡ lots = omega arith in
    sym (ap (λ ys. ys ++ own) none)
    ∙ runs units (cut lots units) (cut_grows lots units) 0 lots
    ∙ ap (λ k. take (cut lots units k) units) last
    ∙ ap (λ k. take k units) (cut_last lots units)
    ∙ take_all (length units) units (omega arith)

-- ---- their bytes

low : (b at : ℕ) (units : List PlanUnit)
    → min b (at + bytes_of units) ≤ at + bytes_of (take (units_before b at units) units)
unfolding units_before
low b at [] = omega arith
low b at (unit ∷ units) = elim (cases_lt at b) [
  | inl below ↦
      let n = units_before b (at + unit_length unit) units in
      rw (lt-ltb at b below)
      (omega (
        arith,
        low b (at + unit_length unit) units,
        sum_by-cons unit_length unit units,
        sum_by-cons unit_length unit (take n units),
      ))
  | inr past ↦ rw (le-ltb at b past) (omega (arith, past))
]

high : (b at size : ℕ) (units : List PlanUnit) → AllByRecursion (λ unit. unit_length unit ≤ size) units
    → at ≤ b + size → at + bytes_of (take (units_before b at units) units) ≤ b + size
unfolding units_before
high b at size [] small within = omega (arith, within)
high b at size (unit ∷ units) small within = elim (cases_lt at b) [
  | inl below ↦
      let n = units_before b (at + unit_length unit) units in
      rw (lt-ltb at b below)
      (omega (
        arith,
        high b (at + unit_length unit) size units small.1 (omega (arith, below, small.0)),
        sum_by-cons unit_length unit (take n units),
      ))
  | inr past ↦ rw (le-ltb at b past) (omega (arith, within))
]

-- a lot begins among all bytes
begins : (total lots lot : ℕ) → lot < lots → first_byte total lots lot ≤ total
begins total lots lot below =
    let le : lot ≤ lots = omega (arith, below) in
    let scaled : lot * (total / lots) ≤ lots * (total / lots) =
    mul-le-mul_right {m = lot} {n = lots} (total / lots) le in
    omega (arith, below, scaled)

-- the last ends with the last byte
last_byte : (total lots : ℕ) → 0 < lots → first_byte total lots lots ≡ total
last_byte total lots some = omega (arith, some)

ends : (lots lot size : ℕ) (units : List PlanUnit) → lot < lots
    → AllByRecursion (λ unit. unit_length unit ≤ size) units
    → bytes_of (take (first_unit lots (lot + 1) units) units)
    ≤ first_byte (bytes_of units) lots (lot + 1) + size
ends lots lot size units below small = elim (cases_lt (lot + 1) lots) [
  | inl more ↦
      let b = first_byte (bytes_of units) lots (lot + 1) in
      let few = high b 0 size units small (omega arith) in
      rw (lt-ltb (lot + 1) lots more) (omega (arith, few))
  | inr last ↦
      let is : lot + 1 ≡ lots = omega (arith, below, last) in
      let all : first_byte (bytes_of units) lots (lot + 1) ≡ bytes_of units =
      ap (first_byte (bytes_of units) lots) is ∙ last_byte (bytes_of units) lots (omega (arith, below)) in
      let whole : bytes_of (take (length units) units) ≡ bytes_of units =
      ap bytes_of (take_all (length units) units (omega arith)) in
      rw (le-ltb (lot + 1) lots last) (omega (arith, all, whole))
]

pub by_bytes : (lots lot unit : ℕ) (units : List PlanUnit) → lot < lots → unit < length units
    → (first_unit lots lot units ≤ unit) ↔ (first_byte (bytes_of units) lots lot ≤ bytes_of (take unit units))
by_bytes lots lot unit units below there =
    let b = first_byte (bytes_of units) lots lot in
    let count : first_unit lots lot units ≡ units_before b 0 units = rw (lt-ltb lot lots below) refl in (
      (λ from. omega (arith, is_past b 0 unit units there (omega (arith, from, count)))),
      (λ from. elim (cases_lt unit (units_before b 0 units)) [
        | inl less ↦ absurd (omega (arith, from, is_before b 0 unit units less))
        | inr most ↦ omega (arith, most, count)
      ]),
    )

pub balanced : (lots lot size : ℕ) (units : List PlanUnit) → lot < lots
    → All (λ unit. unit_length unit ≤ size) units
    → bytes_of (dealt lots lot units) ≤ bytes_of units / lots + 1 + size
balanced lots lot size units below small =
    let total = bytes_of units in
    let q = total / lots in
    let r = total % lots in
    let each = recursion_from_All (λ (unit : PlanUnit). unit_length unit ≤ size) units small in
    let first = cut lots units lot in
    let after = cut lots units (lot + 1) in
    let all : first + (after - first) ≡ after = omega (arith, cut_grows lots units lot) in
    let split : bytes_of (take after units) ≡ bytes_of (take first units) + bytes_of (dealt lots lot units) =
    ap (λ k. bytes_of (take k units)) (sym all) ∙ ap bytes_of (take-add first (after - first) units)
    ∙ sum_by-append unit_length (take first units) (dealt lots lot units) in
    let least = low (first_byte total lots lot) 0 units in
    let from : bytes_of (take first units) ≡ bytes_of (take (units_before (first_byte total lots lot) 0 units) units)
    = ap (λ b. bytes_of (take (cond b (units_before (first_byte total lots lot) 0 units) (length units)) units))
    (lt-ltb lot lots below) in
    let most : bytes_of (take after units) ≤ first_byte total lots (lot + 1) + size =
    ends lots lot size units below each
    in
    omega (arith, split, least, from, most, byte_steps q r lot, begins total lots lot below)
