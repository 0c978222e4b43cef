-- The names in a folder, as the system lists them: one after the other, each ended by a zero byte. Only private clauses
-- cite this.
use Rattle.std.specs.Prelude.{ℕ, Bool, not, ◌||◌, ◌==◌, List, [], ◌∷◌, length, codes, if◌then◌else◌}
use Rattle.std.specs.List.{Contains, filter}
use Rattle.std.specs.Str.{bytes_eq}

-- x in front of the first of these pieces
abbrev pub onto_first : ℕ → List (List ℕ) → List (List ℕ)
onto_first x [] = (x ∷ []) ∷ []
onto_first x (piece ∷ pieces) = (x ∷ piece) ∷ pieces

-- what stands between the zero bytes of a listing, what is before the first of them, and what is after the last
abbrev pub pieces : List ℕ → List (List ℕ)
pieces [] = [] ∷ []
pieces (x ∷ listing) = if x == 0 then [] ∷ pieces listing else onto_first x (pieces listing)

-- a piece names a file or a folder: it is neither empty nor `.`, the folder itself, nor `..`, the one above
abbrev pub is_listed : List ℕ → Bool
is_listed piece = not (length piece == 0 || bytes_eq piece (codes ".") || bytes_eq piece (codes ".."))

-- the names in a folder with this listing
abbrev pub names_in : List ℕ → List (List ℕ)
names_in listing = filter is_listed (pieces listing)

-- the same names, however often and in whatever order
pub record HasSameNames (listed names : List (List ℕ)) : Type 0 where
  pub keeps : (name : List ℕ) → Contains listed name → Contains names name
  pub adds_none : (name : List ℕ) → Contains names name → Contains listed name
