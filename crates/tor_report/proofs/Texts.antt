-- Texts of lists, one item after another.
use Rattle.std.proofs.Common.{◌≡◌, ◌∙◌, sym, ap, ℕ, suc, ◌+◌, ◌<◌, ◌≤◌, List, [], ◌∷◌, ◌++◌, length, take, drop}
use Rattle.std.proofs.Common.{get_or, append_assoc, append-nil, arith}
use Rattle.std.proofs.Math.Seq.{take-suc}
use Rattle.std.proofs.lemmas.Grind.{flat_map-append}
use Rattle.std.proofs.lemmas.List.{take-append-drop, take_all}
use Rattle.std.specs.List.{flat_map, join_by}

next : (index : ℕ) → suc index ≡ index + 1
next index = omega arith

pub take_more : {X : Type 0} (xs : List X) (index : ℕ) (x : X) → index < length xs → x ≡ get_or xs index x
    → take (index + 1) xs ≡ take index xs ++ (x ∷ [])
take_more xs index x within is =
    ap (λ count. take count xs) (sym (next index)) ∙ take-suc xs index x within
    ∙ ap (λ y. take index xs ++ (y ∷ [])) (sym is)

module _ {X Y : Type 0} (text : X → List Y) (xs : List X) (index : ℕ) (x : X) (within : index < length xs)
    (is : x ≡ get_or xs index x) where
  -- the text of one more item
  pub flat_more : flat_map text (take index xs) ++ text x ≡ flat_map text (take (index + 1) xs)
  flat_more =
      ap (λ (ys : List Y). flat_map text (take index xs) ++ ys) (sym (append-nil (text x)))
      ∙ sym (flat_map-append text (take index xs) (x ∷ []))
      ∙ ap (flat_map text) (sym (take_more xs index x within is))

  -- and of those after it
  pub flat_rest : flat_map text (take index xs) ++ (text x ++ flat_map text (drop (index + 1) xs)) ≡ flat_map text xs
  flat_rest =
      sym (append_assoc (flat_map text (take index xs)) (text x) (flat_map text (drop (index + 1) xs)))
      ∙ ap (λ (ys : List Y). ys ++ flat_map text (drop (index + 1) xs)) flat_more
      ∙ sym (flat_map-append text (take (index + 1) xs) (drop (index + 1) xs))
      ∙ ap (flat_map text) (take-append-drop (index + 1) xs)

-- of all items
pub flat_all : {X Y : Type 0} (text : X → List Y) (xs : List X) (index : ℕ) → length xs ≤ index
    → flat_map text (take index xs) ≡ flat_map text xs
flat_all text xs index past = ap (flat_map text) (take_all index xs past)

-- ---- items that are joined

module _ {X : Type 0} (text : X → List ℕ) (between : List ℕ) (xs : List X) (first : X) (others : List X)
    (is : xs ≡ first ∷ others) where
  after : X → List ℕ
  after x = between ++ text x

  pub joined_first : text first ++ flat_map (λ y. between ++ text y) others ≡ join_by text between xs
  joined_first = sym (ap (join_by text between) is)

  pub joined_one : text first ≡ join_by text between (take (suc 0) xs)
  joined_one =
      sym (append-nil (text first)) ∙ sym (ap (λ (ys : List X). join_by text between (take (suc 0) ys)) is)

  front : (index : ℕ) → join_by text between (take (suc index) xs)
      ≡ text first ++ flat_map (λ y. between ++ text y) (take index others)
  front index = ap (λ (ys : List X). join_by text between (take (suc index) ys)) is

  pub joined_more : (index : ℕ) (x : X) → index < length others → x ≡ get_or others index x
      → join_by text between (take (suc index) xs) ++ (between ++ text x)
      ≡ join_by text between (take (suc (index + 1)) xs)
  joined_more index x within item =
      ap (λ (ys : List ℕ). ys ++ (between ++ text x)) (front index)
      ∙ append_assoc (text first) (flat_map (λ y. between ++ text y) (take index others)) (between ++ text x)
      ∙ ap (λ (ys : List ℕ). text first ++ ys) (flat_more (λ y. between ++ text y) others index x within item)
      ∙ sym (front (index + 1))

  pub joined_rest : (index : ℕ) (x : X) → index < length others → x ≡ get_or others index x
      → join_by text between (take (suc index) xs)
      ++ ((between ++ text x) ++ flat_map (λ y. between ++ text y) (drop (index + 1) others))
      ≡ join_by text between xs
  joined_rest index x within item =
      let rest = flat_map (λ y. between ++ text y) (drop (index + 1) others) in
      ap (λ (ys : List ℕ). ys ++ ((between ++ text x) ++ rest)) (front index)
      ∙ append_assoc (text first) (flat_map (λ y. between ++ text y) (take index others)) ((between ++ text x) ++ rest)
      ∙ ap (λ (ys : List ℕ). text first ++ ys) (flat_rest (λ y. between ++ text y) others index x within item)
      ∙ joined_first

  pub joined_all : (index : ℕ) → length others ≤ index → join_by text between (take (suc index) xs)
      ≡ join_by text between xs
  joined_all index past =
      front index
      ∙ ap (λ (ys : List ℕ). text first ++ ys) (flat_all (λ y. between ++ text y) others index past) ∙ joined_first
