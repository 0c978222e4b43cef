-- Some units, and their pieces.
use Rattle.tor_plan.proofs.Names.{◌≡◌, ℕ, true, false, List, [], ◌∷◌, refl, Part, PlanUnit, parts_between}
use Rattle.tor_plan.proofs.Names.{pieces_of_unit, is_there}

abbrev part : ℕ → ℕ → ℕ → ℕ → Part
part file start n zeros = record { file = file; start = start; length = n; zeros = zeros }

abbrev unit : ℕ → List Part → PlanUnit
unit zeros parts = record { zeros = zeros; parts = parts }

-- ---- cut every four bytes

no_byte : pieces_of_unit 4 (unit 0 []) ≡ []
unfolding pieces_of_unit parts_between
no_byte = refl

zeros_alone : pieces_of_unit 4 (unit 9 []) ≡ unit 4 [] ∷ unit 4 [] ∷ unit 1 [] ∷ []
unfolding pieces_of_unit parts_between
zeros_alone = refl

-- the third piece has the last zeros and the beginning of the part
zeros_first : pieces_of_unit 4 (unit 9 (part 3 10 5 0 ∷ []))
    ≡ unit 4 [] ∷ unit 4 [] ∷ unit 1 (part 3 10 3 0 ∷ []) ∷ unit 0 (part 3 13 2 0 ∷ []) ∷ []
unfolding pieces_of_unit parts_between
zeros_first = refl

two_parts_in_a_piece : pieces_of_unit 4 (unit 0 (part 7 5 2 0 ∷ part 8 0 3 0 ∷ []))
    ≡ unit 0 (part 7 5 2 0 ∷ part 8 0 2 0 ∷ []) ∷ unit 0 (part 8 2 1 0 ∷ []) ∷ []
unfolding pieces_of_unit parts_between
two_parts_in_a_piece = refl

-- zeros that go over into the next piece come before its first part there
part_over_pieces : pieces_of_unit 4 (unit 0 (part 2 100 9 4 ∷ part 4 0 1 0 ∷ []))
    ≡ unit 0 (part 2 100 4 0 ∷ []) ∷ unit 0 (part 2 104 4 0 ∷ []) ∷ unit 0 (part 2 108 1 3 ∷ [])
    ∷ unit 1 (part 4 0 1 0 ∷ []) ∷ []
unfolding pieces_of_unit parts_between
part_over_pieces = refl

-- a part that ends with a piece: all zeros after it are in the next
zeros_in_the_next : pieces_of_unit 4 (unit 0 (part 2 6 4 6 ∷ []))
    ≡ unit 0 (part 2 6 4 0 ∷ []) ∷ unit 4 [] ∷ unit 2 [] ∷ []
unfolding pieces_of_unit parts_between
zeros_in_the_next = refl

-- ---- of a file of five bytes, and one of two

first_there : is_there ((1 ∷ 2 ∷ 3 ∷ 4 ∷ 5 ∷ []) ∷ (6 ∷ 7 ∷ []) ∷ []) (unit 3 (part 0 1 4 0 ∷ part 1 0 2 9 ∷ [])) ≡ true
first_there = refl

second_short : is_there ((1 ∷ 2 ∷ 3 ∷ 4 ∷ 5 ∷ []) ∷ (6 ∷ 7 ∷ []) ∷ []) (unit 3 (part 0 1 4 0 ∷ part 1 1 2 9 ∷ []))
    ≡ false
second_short = refl

no_such_file : is_there ((1 ∷ []) ∷ []) (unit 0 (part 1 0 1 0 ∷ [])) ≡ false
no_such_file = refl
