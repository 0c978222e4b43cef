-- What two vectors of eight words exchange. Only private clauses cite this.
use Rattle.std.specs.Prelude.{ℕ, ◌-◌, List, [], ◌∷◌, map, nat_lt, slice_index, if◌then◌else◌}

-- the words at these indices, of the first vector from 0 on, and of the second from 8 on
abbrev pub of_both : List ℕ → List ℕ → List ℕ → List ℕ
of_both x y indices = map (λ p. if nat_lt p 8 then slice_index x p else slice_index y (p - 8)) indices

-- the second half of the first goes, for the first of the second
abbrev pub halves_of : List ℕ → List ℕ → List ℕ × List ℕ
halves_of x y = (
  of_both x y (0 ∷ 1 ∷ 2 ∷ 3 ∷ 8 ∷ 9 ∷ 10 ∷ 11 ∷ []),
  of_both x y (4 ∷ 5 ∷ 6 ∷ 7 ∷ 12 ∷ 13 ∷ 14 ∷ 15 ∷ []),
)

-- the same in each half, of its pairs
abbrev pub pairs_of : List ℕ → List ℕ → List ℕ × List ℕ
pairs_of x y = (
  of_both x y (0 ∷ 1 ∷ 8 ∷ 9 ∷ 4 ∷ 5 ∷ 12 ∷ 13 ∷ []),
  of_both x y (2 ∷ 3 ∷ 10 ∷ 11 ∷ 6 ∷ 7 ∷ 14 ∷ 15 ∷ []),
)

-- the same in each pair, of its words
abbrev pub singles_of : List ℕ → List ℕ → List ℕ × List ℕ
singles_of x y = (
  of_both x y (0 ∷ 8 ∷ 2 ∷ 10 ∷ 4 ∷ 12 ∷ 6 ∷ 14 ∷ []),
  of_both x y (1 ∷ 9 ∷ 3 ∷ 11 ∷ 5 ∷ 13 ∷ 7 ∷ 15 ∷ []),
)
