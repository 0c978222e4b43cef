-- All bytes of entries as one unit.
use Rattle.tor_plan.proofs.Names.{◌≡◌, ℕ, ◌+◌, ◌-◌, ◌*◌, ◌^◌, ◌<◌, ◌≤◌, true, false, cond, max, List, [], ◌∷◌, ◌++◌}
use Rattle.tor_plan.proofs.Names.{length, get_or, drop, map, arith, refl, ap, ap₂, ◌∙◌, sym, subst, inl, inr, zero-add}
use Rattle.tor_plan.proofs.Names.{lt-ltb, le-ltb, cond-true, cond-false, cases_lt, drop_more, All-nil, All-cons}
use Rattle.tor_plan.proofs.Names.{All-head, All-tail, sum_by-cons, div_ceil, All, flat_map, range_with_len, MAX_LENGTH}
use Rattle.tor_plan.proofs.Names.{Entry, after_part, after_zeros, empty_unit, entries_length, joined_entry_unit}
use Rattle.tor_plan.proofs.Names.{joined_entry_units, lengths_of_entries, padding_before_next, separate_entry_units}
use Rattle.tor_plan.proofs.Names.{shared, unit_within, parts_between, piece_of_unit, pieces_of_unit, unit_between}
use Rattle.tor_plan.proofs.Names.{units_of_file, unit_length, Part, PlanUnit, file_alone, joined, part_alone}
use Rattle.tor_plan.proofs.Names.{zeros_alone, whole_from, whole_unit}
use Rattle.tor_plan.proofs.Contents.{no_unit_of_file}
use Rattle.tor_plan.proofs.EntrySteps.{Label, padding, file, entry_cases, met, not_met, before_some, before_empty}
use Rattle.tor_plan.proofs.PieceSteps.{from, from_first, from_zeros, no_zeros, part_met, part_not_met}
use Rattle.tor_plan.proofs.Runs.{map_same}
use Rattle.tor_plan.proofs.UnitJoins.{joined_length, joined_twice, part_length, then_nothing, unit_of}

-- what holds of no entry, and then of one more before those of which it holds, holds of all bytes
module _ (P : ℕ → List Entry → PlanUnit → Type 0)
    (none : (index : ℕ) → P index [] empty_unit)
    (of_padding : (index : ℕ) (label : Label) (m : ℕ) (entries : List Entry) (unit : PlanUnit) → P index entries unit
    → P index (padding label m ∷ entries) (after_zeros m unit))
    (of_some : (index : ℕ) (label : Label) (m : ℕ) (entries : List Entry) (unit : PlanUnit) → 0 < m
    → P (index + 1) entries unit → P index (file label m ∷ entries) (after_part index 0 m unit))
    (of_empty : (index : ℕ) (label : Label) (m : ℕ) (entries : List Entry) (unit : PlanUnit) → m ≤ 0
    → P (index + 1) entries unit → P index (file label m ∷ entries) unit) where
  bytes : ℕ → ℕ → PlanUnit
  bytes index m = part_alone (record { file = index; start = 0; length = m; zeros = 0 })

  pub by_whole : (index : ℕ) (entries : List Entry) → P index entries (whole_from index entries)
  unfolding whole_from bytes
  by_whole index [] = none index
  by_whole index (entry ∷ entries) = entry_cases (λ e. P index (e ∷ entries) (whole_from index (e ∷ entries)))
      (λ label m. of_padding index label m entries _ (by_whole index entries)) (λ label m.
      let later = whole_from (index + 1) entries in
      let rest = by_whole (index + 1) entries in
      elim (cases_lt 0 m) [
        | inl some ↦ subst (P index (file label m ∷ entries))
            (sym (ap (λ b. joined (cond b (bytes index m) empty_unit) later) (lt-ltb 0 m some)
            ∙ ap (λ n. unit_of 0 (record { file = index; start = 0; length = m; zeros = n } ∷ later.parts))
            (zero-add later.zeros))) (of_some index label m entries later some rest)
        | inr few ↦ subst (P index (file label m ∷ entries))
            (sym (ap (λ b. joined (cond b (bytes index m) empty_unit) later) (le-ltb 0 m few) ∙ no_zeros 0 later refl))
            (of_empty index label m entries later few rest)
      ]) entry

pub whole_length : (index : ℕ) (entries : List Entry) → unit_length (whole_from index entries) ≡ entries_length entries
whole_length = by_whole (λ index entries unit. unit_length unit ≡ entries_length entries) (λ index. refl)
    (λ index label m entries unit rest. omega (arith, rest, sum_by-cons entry_length (padding label m) entries))
    (λ index label m entries unit some rest.
    omega (
      arith,
      rest,
      sum_by-cons entry_length (file label m) entries,
      sum_by-cons part_length (record { file = index; start = 0; length = m; zeros = unit.zeros }) unit.parts,
    )) (λ index label m entries unit few rest.
    omega (arith, rest, few, sum_by-cons entry_length (file label m) entries))
  where
    entry_length : Entry → ℕ
    entry_length entry = entry.length

-- parts of files that are not too long
abbrev pub IsSmall : Part → Type 0
IsSmall part = part.start + part.length < 2 ^ 64

pub whole_small : (index : ℕ) (entries : List Entry) → All (λ m. m ≤ MAX_LENGTH) (lengths_of_entries entries)
    → All IsSmall (whole_from index entries).parts
whole_small = by_whole
    (λ index entries unit. All (λ m. m ≤ MAX_LENGTH) (lengths_of_entries entries) → All IsSmall unit.parts)
    (λ index small. All-nil IsSmall) (λ index label m entries unit rest small. rest small)
    (λ index label m entries unit some rest small. All-cons IsSmall _ unit.parts
    (omega (arith, All-head (λ n. n ≤ MAX_LENGTH) m (lengths_of_entries entries) small))
    (rest (All-tail (λ n. n ≤ MAX_LENGTH) m (lengths_of_entries entries) small)))
    (λ index label m entries unit few rest small.
    rest (All-tail (λ n. n ≤ MAX_LENGTH) m (lengths_of_entries entries) small))

-- ---- cut as joined entries

module _ (a b : ℕ) where
  range_from : (index : ℕ) (entries : List Entry) (at : ℕ)
      → from a b at (whole_from index entries) ≡ unit_within a b index at entries
  unfolding parts_between unit_within
  range_from = by_whole (λ index entries unit. (at : ℕ) → from a b at unit ≡ unit_within a b index at entries)
      (λ index at. ap zeros_alone (omega arith)) (λ index label m entries unit rest at.
      from_zeros a b at m unit ∙ ap (after_zeros (shared a b at m)) (rest (at + m)))
      (λ index label m entries unit some rest at.
      let part : Part = record { file = index; start = 0; length = m; zeros = unit.zeros } in
      no_zeros (shared a b at 0) (parts_between a b (at + 0) (part ∷ unit.parts)) (omega arith)
      ∙ ap (λ i. parts_between a b i (part ∷ unit.parts)) (omega arith) ∙ elim (cases_lt 0 (shared a b at m)) [
        | inl more ↦ part_met a b at part unit.parts more
            ∙ ap₂ (λ s u. after_part index s (shared a b at m) u) (zero-add (max a at - at)) (rest (at + m))
            ∙ sym (met a b index at label m entries more)
        | inr few ↦ part_not_met a b at part unit.parts few ∙ rest (at + m)
            ∙ sym (not_met a b index at label m entries few)
      ]) (λ index label m entries unit few rest at.
      ap (λ i. from a b i unit) (omega (arith, few)) ∙ rest (at + m)
      ∙ sym (not_met a b index at label m entries (omega (arith, few))))

  pub range_of_whole : (entries : List Entry) → unit_between a b (whole_unit entries) ≡ unit_within a b 0 0 entries
  range_of_whole entries = from_first a b (whole_unit entries) ∙ range_from 0 entries 0

pub pieces_of_whole : (size : ℕ) (entries : List Entry)
    → pieces_of_unit size (whole_unit entries) ≡ joined_entry_units size entries
unfolding pieces_of_unit joined_entry_units
pieces_of_whole size entries =
    let n = div_ceil (entries_length entries) size in
    ap (λ m. map (piece_of_unit size (whole_unit entries)) (range_with_len 0 (div_ceil m size)))
    (whole_length 0 entries) ∙ map_same (piece_of_unit size (whole_unit entries)) (joined_entry_unit size entries)
    (λ k. range_of_whole (k * size) ((k + 1) * size) entries) (range_with_len 0 n)

-- ---- cut each by itself

-- the units of each
abbrev pub separate_parts : ℕ → List Part → List PlanUnit
separate_parts size parts = flat_map (λ part. units_of_file size part.file part.length part.zeros) parts

abbrev IsSeparate : ℕ → ℕ → List Entry → PlanUnit → Type 0
IsSeparate size index entries unit =
    (unit.zeros ≡ padding_before_next entries)
    × (separate_parts size unit.parts ≡ separate_entry_units size index entries)

separate : (size : ℕ) → 0 < size → (index : ℕ) (entries : List Entry)
    → IsSeparate size index entries (whole_from index entries)
unfolding padding_before_next separate_entry_units
separate size pos = by_whole (IsSeparate size) (λ index. (refl, refl))
    (λ index label m entries unit rest. (ap (λ n. m + n) rest.0, rest.1)) (λ index label m entries unit some rest. (
      sym (before_some label m entries some),
      ap₂ (λ n units. units_of_file size index m n ++ units) rest.0 rest.1,
    )) (λ index label m entries unit few rest.
    let none : m ≡ 0 = omega (arith, few) in (
      rest.0 ∙ sym (before_empty label m entries none),
      rest.1 ∙ ap (λ units. units ++ separate_entry_units size (index + 1) entries)
          (sym (no_unit_of_file size index m (padding_before_next entries) pos none)),
    ))

pub zeros_of_whole : (index : ℕ) (entries : List Entry) → (whole_from index entries).zeros ≡ padding_before_next entries
zeros_of_whole index entries = (separate 1 (omega arith) index entries).0

pub parts_of_whole : (size : ℕ) (entries : List Entry) → 0 < size
    → separate_parts size (whole_unit entries).parts ≡ separate_entry_units size 0 entries
parts_of_whole size entries pos = (separate size pos 0 entries).1

-- ---- while it is made

-- zeros that come next fit in
pub zeros_fit : (u w whole : PlanUnit) (n : ℕ) → joined u (joined (zeros_alone n) w) ≡ whole
    → unit_length u + n ≤ unit_length whole
zeros_fit u w whole n is =
    omega (arith, ap unit_length is, joined_length u (joined (zeros_alone n) w), joined_length (zeros_alone n) w)

module _ (entries : List Entry) (i : ℕ) (entry : Entry) (lt : i < length entries) (is : entry ≡ get_or entries i entry)
    (begun whole : PlanUnit) (index : ℕ) (so_far : joined begun (whole_from index (drop i entries)) ≡ whole) where
  abbrev rest : List Entry
  rest = drop (i + 1) entries

  here : joined begun (whole_from index (entry ∷ rest)) ≡ whole
  here =
      ap (λ es. joined begun (whole_from index es)) (sym (drop_more entries i entry lt ∙ ap (λ e. e ∷ rest) (sym is)))
      ∙ so_far

  pub next_padding : entry.pad ≡ true
      → joined begun (joined (zeros_alone entry.length) (whole_from index rest)) ≡ whole
  unfolding whole_from
  next_padding pad = ap (joined begun) (sym (cond-true _ _ _ pad)) ∙ here

  pub past_padding : (new : PlanUnit) → entry.pad ≡ true → new ≡ joined begun (zeros_alone entry.length)
      → joined new (whole_from index rest) ≡ whole
  past_padding new pad same =
      ap (λ u. joined u (whole_from index rest)) same
      ∙ joined_twice begun (zeros_alone entry.length) (whole_from index rest) ∙ next_padding pad

  pub past_file : (new : PlanUnit) → entry.pad ≡ false → new ≡ joined begun (file_alone index entry.length)
      → joined new (whole_from (index + 1) rest) ≡ whole
  unfolding whole_from
  past_file new pad same =
      ap (λ u. joined u (whole_from (index + 1) rest)) same
      ∙ joined_twice begun (file_alone index entry.length) (whole_from (index + 1) rest)
      ∙ ap (joined begun) (sym (cond-false _ _ _ pad)) ∙ here

-- nothing is left
pub past_all : (u whole : PlanUnit) (index : ℕ) (entries : List Entry) → entries ≡ []
    → joined u (whole_from index entries) ≡ whole → u ≡ whole
unfolding whole_from
past_all u whole index entries none all =
    sym (then_nothing u) ∙ ap (λ es. joined u (whole_from index es)) (sym none) ∙ all
