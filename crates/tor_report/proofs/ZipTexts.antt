-- A pair of two lists that are gone through together.
use Rattle.std.proofs.Common.{◌≡◌, ◌∙◌, sym, ap₂, ℕ, ◌<◌, ◌≤◌, List, length, get_or, min, arith}
use Rattle.std.proofs.lemmas.Slice.Zip.{get_or-zip, length-zip}
use Rattle.std.specs.List.{zip}

module _ {A B : Type 0} (xs : List A) (ys : List B) where
  pub is_pair : (n : ℕ) → n < length xs → n < length ys → n < length (zip xs ys)
  is_pair n in_xs in_ys = omega (arith, in_xs, in_ys, length-zip xs ys)

  pub pair_is : (n : ℕ) (x : A) (y : B) → n < length xs → n < length ys → x ≡ get_or xs n x → y ≡ get_or ys n y
      → (x, y) ≡ get_or (zip xs ys) n (x, y)
  pair_is n x y in_xs in_ys is_x is_y =
      sym (get_or-zip xs ys n (x, y) in_xs in_ys ∙ ap₂ (λ (a : A) (b : B). (a, b)) (sym is_x) (sym is_y))

  pub are_pairs : (n : ℕ) → n ≡ min (length xs) (length ys) → length (zip xs ys) ≤ n
  are_pairs n ended = omega (arith, ended, length-zip xs ys)
