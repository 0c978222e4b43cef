-- Some entries, and the units that they are cut into.
use Rattle.tor_plan.proofs.Names.{◌≡◌, ℕ, true, false, List, [], ◌∷◌, refl, V1, V2, Hybrid, Entry, Part, PlanUnit}
use Rattle.tor_plan.proofs.Names.{unit_within, joined_entry_units, padding_before_next, separate_entry_units}
use Rattle.tor_plan.proofs.Names.{entry_units}

abbrev file : ℕ → Entry
file m = record { path = []; length = m; pad = false; exec = false; hidden = false }

abbrev pad : ℕ → Entry
pad m = record { path = []; length = m; pad = true; exec = false; hidden = false }

abbrev part : ℕ → ℕ → ℕ → ℕ → Part
part file start n zeros = record { file = file; start = start; length = n; zeros = zeros }

abbrev unit : ℕ → List Part → PlanUnit
unit zeros parts = record { zeros = zeros; parts = parts }

-- ---- joined, cut every four bytes

padding_first : entry_units V1 4 1 (pad 3 ∷ file 2 ∷ [])
    ≡ unit 3 (part 0 0 1 0 ∷ []) ∷ unit 0 (part 0 1 1 0 ∷ []) ∷ []
unfolding joined_entry_units unit_within
padding_first = refl

padding_between : entry_units V1 4 1 (file 1 ∷ pad 2 ∷ file 3 ∷ [])
    ≡ unit 0 (part 0 0 1 2 ∷ part 1 0 1 0 ∷ []) ∷ unit 0 (part 1 1 2 0 ∷ []) ∷ []
unfolding joined_entry_units unit_within
padding_between = refl

-- the second unit is of zeros alone; the first, of two parts, ends with one
padding_over_units : entry_units V1 4 1 (file 2 ∷ file 1 ∷ pad 7 ∷ file 1 ∷ [])
    ≡ unit 0 (part 0 0 2 0 ∷ part 1 0 1 1 ∷ []) ∷ unit 4 [] ∷ unit 2 (part 2 0 1 0 ∷ []) ∷ []
unfolding joined_entry_units unit_within
padding_over_units = refl

padding_over_units_of_two : entry_units V1 4 2 (file 2 ∷ file 1 ∷ pad 7 ∷ file 1 ∷ [])
    ≡ unit 0 (part 0 0 2 0 ∷ part 1 0 1 5 ∷ []) ∷ unit 2 (part 2 0 1 0 ∷ []) ∷ []
unfolding joined_entry_units unit_within
padding_over_units_of_two = refl

-- empty files have their indices; zeros of two paddings are counted together
empty_files : entry_units V1 4 1 (file 0 ∷ pad 1 ∷ file 0 ∷ pad 1 ∷ file 1 ∷ pad 0 ∷ file 0 ∷ pad 2 ∷ pad 3 ∷ [])
    ≡ unit 2 (part 2 0 1 1 ∷ []) ∷ unit 4 [] ∷ []
unfolding joined_entry_units unit_within
empty_files = refl

file_over_units : entry_units V1 4 1 (file 9 ∷ pad 3 ∷ [])
    ≡ unit 0 (part 0 0 4 0 ∷ []) ∷ unit 0 (part 0 4 4 0 ∷ []) ∷ unit 0 (part 0 8 1 3 ∷ []) ∷ []
unfolding joined_entry_units unit_within
file_over_units = refl

-- ---- each file by itself

with_padding : entry_units Hybrid 4 2 (file 0 ∷ file 9 ∷ file 0 ∷ pad 1 ∷ pad 2 ∷ file 0 ∷ file 4 ∷ file 3 ∷ pad 1 ∷ [])
    ≡ unit 0 (part 1 0 8 0 ∷ []) ∷ unit 0 (part 1 8 1 3 ∷ []) ∷ unit 0 (part 4 0 4 0 ∷ [])
    ∷ unit 0 (part 5 0 3 1 ∷ []) ∷ []
unfolding separate_entry_units padding_before_next
with_padding = refl

with_trees_alone : entry_units V2 4 1 (file 5 ∷ file 0 ∷ file 2 ∷ [])
    ≡ unit 0 (part 0 0 4 0 ∷ []) ∷ unit 0 (part 0 4 1 0 ∷ []) ∷ unit 0 (part 2 0 2 0 ∷ []) ∷ []
unfolding separate_entry_units padding_before_next
with_trees_alone = refl
