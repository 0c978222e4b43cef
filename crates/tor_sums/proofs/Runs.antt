-- Lists that a run puts one after the other, where a kind has them.
use Rattle.std.proofs.Common.{◌≡◌, ◌<◌, ℕ, ◌+◌, Bool, true, false, cond, List, [], ◌++◌, length, take, get_or}
use Rattle.std.proofs.Common.{refl, ap, ap₂, sym, ◌∙◌}
use Rattle.std.proofs.lemmas.Grind.{flat_map-append}
use Rattle.std.proofs.lemmas.List.{flat_map_more, take_more}
use Rattle.std.specs.List.{flat_map}

module _ {X A : Type 0} (f : X → List A) where
  -- one element more
  pub one_more : (before : List A) (xs : List X) (i : ℕ) (d : X) → i < length xs
      → (before ++ flat_map f (take i xs)) ++ f (get_or xs i d) ≡ before ++ flat_map f (take (i + 1) xs)
  one_more before xs i d there =
      flat_map_more f before (take i xs) (get_or xs i d)
      ∙ ap (λ ys. before ++ flat_map f ys) (sym (take_more xs i d there))

  -- the lists of elements that stand one after the other, where a test asks for them
  pub joined_if : (b : Bool) (xs ys : List X) (one other : List A) → one ≡ cond b (flat_map f xs) []
      → other ≡ cond b (flat_map f ys) [] → one ++ other ≡ cond b (flat_map f (xs ++ ys)) []
  joined_if true xs ys one other is_one is_other =
      ap₂ (λ left right. left ++ right) is_one is_other ∙ sym (flat_map-append f xs ys)
  joined_if false xs ys one other is_one is_other = ap₂ (λ left right. left ++ right) is_one is_other

  pub none_if : (b : Bool) → [] ≡ cond b (flat_map f []) []
  none_if true = refl
  none_if false = refl
