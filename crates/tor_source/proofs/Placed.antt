-- Where the system has files of which names are held, and how long a place is.
use Rattle.std.proofs.Common.{◌≡◌, ◌==◌, ℕ, ◌+◌, ◌<◌, ◌≤◌, true, false, List, [], ◌∷◌, length, map, take, replicate}
use Rattle.std.proofs.Common.{get_or, refl, arith}
use Rattle.std.proofs.Math.Nat.{lt_of_not-le}
use Rattle.std.proofs.lemmas.List.{length-append}
use Rattle.std.proofs.lemmas.List.Folds.{length-flat_map-take}
use Rattle.std.specs.List.{flat_map}
use Rattle.tor_tree.specs.Name.{slash}
use Rattle.tor_source.specs.Places.{place_below, place_of, without_slash}

map_same : {X Y : Type 0} (f g : X → Y) (xs : List X) → ((x : X) → f x ≡ g x) → map f xs ≡ map g xs
map_same f g [] e = refl
map_same f g (x ∷ xs) e = rw (e x, map_same f g xs e) refl

all_same : {X Y : Type 0} (f : X → Y) (y : Y) (xs : List X) → ((x : X) → f x ≡ y) → replicate (length xs) y ≡ map f xs
all_same f y [] e = refl
all_same f y (x ∷ xs) e = rw (e x, ← all_same f y xs e) refl

-- below the empty place each file is there too
pub below_none : (folder : List ℕ) (files : List (List (List ℕ))) → (length folder == 0) ≡ true
    → replicate (length files) [] ≡ map (place_of folder) files
below_none folder files none = all_same (place_of folder) [] files (λ names. rw none refl)

-- below any other, where its path leads to
pub below_folder : (folder : List ℕ) (files : List (List (List ℕ))) → (length folder == 0) ≡ false
    → map (place_below (without_slash folder)) files ≡ map (place_of folder) files
below_folder folder files some =
    map_same (place_below (without_slash folder)) (place_of folder) files (λ names. rw some refl)

-- a place has more bytes than one that fewer names lead to
pub is_longer : (place : List ℕ) (names : List (List ℕ)) (k : ℕ) (d : List ℕ) → k < length names
    → length (place_below place (take k names)) + (1 + length (get_or names k d)) ≤ length (place_below place names)
is_longer place names k d within =
    let step : List ℕ → List ℕ = λ name. slash ∷ name in
    omega (
      arith,
      length-flat_map-take step names k d within,
      length-append place (flat_map step (take k names)),
      length-append place (flat_map step names),
    )

-- what has no room is longer than the room
pub has_no_room : (size room : ℕ) → (size ≤ room → false ≡ true) → room < size
has_no_room size room refused = lt_of_not-le (λ fits. no (refused fits))
  where
    no : false ≡ true → ⊥
    no e = cc
