-- The positions that units name, which are those of the files: file by file, byte by byte.
use Rattle.tor_plan.proofs.Names.{◌≡◌, ℕ, zero, suc, ◌+◌, ◌-◌, ◌*◌, ◌<◌, ◌≤◌, max, inl, inr, List, [], ◌∷◌, ◌++◌}
use Rattle.tor_plan.proofs.Names.{map, sum_by, arith, refl, ap, ap₂, ◌∙◌, sym, append_assoc, append-nil, cases_lt}
use Rattle.tor_plan.proofs.Names.{map-range_with_len_more, flat_map-append, sum_by-cons, div_ceil, flat_map}
use Rattle.tor_plan.proofs.Names.{range_with_len, Kind, V1, Entry, entry_units, lengths_of_entries, shared}
use Rattle.tor_plan.proofs.Names.{parts_between, piece_of_unit, pieces_of_unit, unit_between, positions}
use Rattle.tor_plan.proofs.Names.{positions_of_files, positions_of_unit, file_unit, units_of_file, unit_length, Part}
use Rattle.tor_plan.proofs.Names.{PlanUnit, part_alone, whole_from, whole_unit}
use Rattle.tor_plan.proofs.FileUnits.{file_pieces}
use Rattle.tor_plan.proofs.PieceCut.{unit_all, unit_none}
use Rattle.tor_plan.proofs.PieceSteps.{between_none, part_met, part_not_met}
use Rattle.tor_plan.proofs.Runs.{runs_are}
use Rattle.tor_plan.proofs.UnitJoins.{part_length}
use Rattle.tor_plan.proofs.WholeUnits.{by_whole, parts_of_whole, pieces_of_whole, separate_parts}

no_positions : (index start n : ℕ) → n ≡ 0 → positions index start n ≡ []
no_positions index start n none = ap (positions index start) none

-- a run, and the one that it ends at
positions-add : (index s n k t : ℕ) → t ≡ s + n → positions index s n ++ positions index t k ≡ positions index s (n + k)
positions-add index s n zero t is =
    append-nil (positions index s n) ∙ ap (positions index s) (omega arith)
positions-add index s n (suc k) t is =
    let at : ℕ → ℕ × ℕ = λ i. (index, i) in
    let last : List (ℕ × ℕ) = (index, s + (n + k)) ∷ [] in
    let more : positions index t (suc k) ≡ positions index t k ++ last =
    ap (positions index t) (let e : suc k ≡ k + 1 = omega arith in e)
    ∙ map-range_with_len_more at t k (s + (n + k)) (omega (arith, is)) in
    ap (λ xs. positions index s n ++ xs) more ∙ sym (append_assoc (positions index s n) (positions index t k) last)
    ∙ ap (λ xs. xs ++ last) (positions-add index s n k t is)
    ∙ sym (map-range_with_len_more at s (n + k) (s + (n + k)) refl) ∙ ap (positions index s) (omega arith)

-- ---- the pieces of a unit

abbrev met_positions : ℕ → ℕ → ℕ → List Part → List (ℕ × ℕ)
met_positions a b at parts = positions_of_unit (parts_between a b at parts)

part_positions : (a b at : ℕ) (part : Part) (parts : List Part) → met_positions a b at (part ∷ parts)
    ≡ positions part.file (part.start + (max a at - at)) (shared a b at part.length)
    ++ met_positions a b (at + part.length + part.zeros) parts
part_positions a b at part parts =
    let others = met_positions a b (at + part.length + part.zeros) parts in
    let start = part.start + (max a at - at) in
    elim (cases_lt 0 (shared a b at part.length)) [
      | inl some ↦ ap positions_of_unit (part_met a b at part parts some)
      | inr few ↦ ap positions_of_unit (part_not_met a b at part parts few)
          ∙ ap (λ xs. xs ++ others)
          (sym (no_positions part.file start (shared a b at part.length) (omega (arith, few))))
    ]

-- two ranges of which one ends where the other begins
split_range : (a b c at : ℕ) (parts : List Part) → a ≤ b → b ≤ c
    → met_positions a b at parts ++ met_positions b c at parts ≡ met_positions a c at parts
unfolding parts_between
split_range a b c at [] le more = refl
split_range a b c at (part ∷ parts) le more =
    let m = part.length in
    let next = at + m + part.zeros in
    let rest = split_range a b c next parts le more in
    let start = part.start + (max a at - at) in
    let later = part.start + (max b at - at) in
    let one = positions part.file start (shared a b at m) in
    let other = positions part.file later (shared b c at m) in
    let ones = met_positions a b next parts in
    let others = met_positions b c next parts in
    ap₂ (λ xs ys. xs ++ ys) (part_positions a b at part parts) (part_positions b c at part parts)
    ∙ elim (cases_lt b (at + m)) [
      | inl beyond ↦
          let none : ones ≡ [] =
          ap positions_of_unit (between_none a b next parts (omega (arith, beyond))) in
          ap (λ xs. (one ++ xs) ++ (other ++ others)) none
          ∙ ap (λ xs. xs ++ (other ++ others)) (append-nil one) ∙ sym (append_assoc one other others)
          ∙ ap₂ (λ xs ys. xs ++ ys)
          (positions-add part.file start (shared a b at m) (shared b c at m) later (omega (arith, le, beyond))
          ∙ ap (positions part.file start) (omega (arith, le, more, beyond)))
          (sym (ap (λ xs. xs ++ others) none) ∙ rest)
      | inr past ↦
          let none : other ≡ [] = no_positions part.file later (shared b c at m) (omega (arith, past)) in
          ap (λ xs. (one ++ ones) ++ (xs ++ others)) none ∙ append_assoc one ones others
          ∙ ap₂ (λ n xs. positions part.file start n ++ xs) (omega (arith, past, more)) rest
    ] ∙ sym (part_positions a c at part parts)

-- a range that has all parts
whole_range : (a b at : ℕ) (parts : List Part) → a ≤ at → at + sum_by part_length parts ≤ b
    → met_positions a b at parts ≡ flat_map (λ part. positions part.file part.start part.length) parts
unfolding parts_between
whole_range a b at [] from to = refl
whole_range a b at (part ∷ parts) from to =
    let long = sum_by-cons part_length part parts in
    part_positions a b at part parts ∙ ap₂ (λ xs ys. xs ++ ys) (ap₂ (positions part.file) (omega (arith, from))
    (omega (arith, from, to, long)))
    (whole_range a b (at + part.length + part.zeros) parts (omega (arith, from)) (omega (arith, to, long)))

pub positions_of_pieces : (size : ℕ) → 0 < size → (unit : PlanUnit)
    → flat_map positions_of_unit (pieces_of_unit size unit) ≡ positions_of_unit unit
unfolding pieces_of_unit
positions_of_pieces size pos unit =
    let n = unit_length unit in
    runs_are positions_of_unit (piece_of_unit size unit) (λ x. positions_of_unit (unit_between 0 x unit)) n size pos
    (λ k less.
    split_range 0 (k * size) ((k + 1) * size) unit.zeros unit.parts (omega arith) (omega arith)
    ∙ elim (cases_lt n ((k + 1) * size)) [
      | inl past ↦ ap positions_of_unit (unit_all 0 n ((k + 1) * size) unit (omega arith) (omega (arith, past)))
          ∙ ap (λ x. positions_of_unit (unit_between 0 x unit)) (omega (arith, past))
      | inr within ↦ ap (λ x. positions_of_unit (unit_between 0 x unit))
          (omega (arith, within))
    ]) (ap positions_of_unit (unit_none 0 0 unit (omega arith)))
    ∙ whole_range 0 n unit.zeros unit.parts (omega arith) (omega arith)

-- ---- those of entries

joined_positions : (index : ℕ) (entries : List Entry)
    → positions_of_unit (whole_from index entries) ≡ positions_of_files index (lengths_of_entries entries)
unfolding positions_of_files
joined_positions = by_whole
    (λ index entries unit. positions_of_unit unit ≡ positions_of_files index (lengths_of_entries entries))
    (λ index. refl) (λ index path m entries unit rest. rest)
    (λ index path m entries unit some rest. ap (λ xs. positions index 0 m ++ xs) rest)
    (λ index path m entries unit few rest.
    rest ∙ ap (λ xs. xs ++ positions_of_files (index + 1) (lengths_of_entries entries))
    (sym (no_positions index 0 m (omega (arith, few)))))

-- the zeros after a file are at no position
no_zeros_there : (size index m tail : ℕ) (ks : List ℕ)
    → flat_map positions_of_unit (map (file_unit size index m tail) ks)
    ≡ flat_map positions_of_unit (map (file_unit size index m 0) ks)
no_zeros_there size index m tail [] = refl
no_zeros_there size index m tail (k ∷ ks) =
    ap (λ xs. positions_of_unit (file_unit size index m 0 k) ++ xs) (no_zeros_there size index m tail ks)

file_positions : (size index m tail : ℕ) → 0 < size → 0 < m
    → flat_map positions_of_unit (units_of_file size index m tail) ≡ positions index 0 m
file_positions size index m tail pos some =
    no_zeros_there size index m tail (range_with_len 0 (div_ceil m size))
    ∙ ap (flat_map positions_of_unit) (sym (file_pieces size pos index m 0 (λ q le. omega (arith, le)) some))
    ∙ positions_of_pieces size pos (part_alone (record { file = index; start = 0; length = m; zeros = 0 }))
    ∙ append-nil (positions index 0 m)

separate_positions : (size : ℕ) → 0 < size → (index : ℕ) (entries : List Entry)
    → flat_map positions_of_unit (separate_parts size (whole_from index entries).parts)
    ≡ positions_of_files index (lengths_of_entries entries)
unfolding positions_of_files
separate_positions size pos = by_whole
    (λ index entries unit. flat_map positions_of_unit (separate_parts size unit.parts)
    ≡ positions_of_files index (lengths_of_entries entries)) (λ index. refl) (λ index path m entries unit rest. rest)
    (λ index path m entries unit some rest.
    flat_map-append positions_of_unit (units_of_file size index m unit.zeros) (separate_parts size unit.parts)
    ∙ ap₂ (λ xs ys. xs ++ ys) (file_positions size index m unit.zeros pos some) rest)
    (λ index path m entries unit few rest.
    rest ∙ ap (λ xs. xs ++ positions_of_files (index + 1) (lengths_of_entries entries))
    (sym (no_positions index 0 m (omega (arith, few)))))

pub entry_units_name_each_byte : (kind : Kind) (p span : ℕ) (entries : List Entry) → 0 < span * p
    → flat_map positions_of_unit (entry_units kind p span entries) ≡ positions_of_files 0 (lengths_of_entries entries)
entry_units_name_each_byte V1 p span entries pos =
    ap (flat_map positions_of_unit) (sym (pieces_of_whole (span * p) entries))
    ∙ positions_of_pieces (span * p) pos (whole_unit entries) ∙ joined_positions 0 entries
entry_units_name_each_byte kind p span entries pos =
    ap (flat_map positions_of_unit) (sym (parts_of_whole (span * p) entries pos))
    ∙ separate_positions (span * p) pos 0 entries
