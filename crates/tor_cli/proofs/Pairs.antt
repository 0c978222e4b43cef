-- What is told of the pairs of two lists, one pair after the other.
use Rattle.std.proofs.Common.{◌≡◌, ◌∙◌, sym, ap, ap₂, add-one, arith, ℕ, ◌+◌, ◌<◌, ◌≤◌, List, [], ◌∷◌, ◌++◌}
use Rattle.std.proofs.Common.{length, take, get_or, min}
use Rattle.std.proofs.Math.Seq.{take-suc}
use Rattle.std.proofs.lemmas.List.{flat_map_more, take_all}
use Rattle.std.proofs.lemmas.Slice.Zip.{get_or-zip, length-zip}
use Rattle.std.specs.List.{flat_map, zip}

module _ {A B C : Type 0} (tell : A × B → List C) (xs : List A) (ys : List B) (old : List C) where
  -- what is told of so many pairs, behind what stood there
  abbrev pub IsOfFirst : ℕ → List C → Type 0
  IsOfFirst n told = told ≡ old ++ flat_map tell (take n (zip xs ys))

  pub one_more : (n m : ℕ) (told next : List C) (x : A) (y : B) → n < length xs → n < length ys → x ≡ get_or xs n x
      → y ≡ get_or ys n y → m ≡ n + 1 → IsOfFirst n told → next ≡ told ++ tell (x, y) → IsOfFirst m next
  one_more n m told next x y in_xs in_ys is_x is_y more so_far step =
      let pairs = zip xs ys in
      let within : n < length pairs = omega (arith, in_xs, in_ys, length-zip xs ys) in
      let pair : get_or pairs n (x, y) ≡ (x, y)
      = get_or-zip xs ys n (x, y) in_xs in_ys ∙ ap₂ (λ (a : A) (b : B). (a, b)) (sym is_x) (sym is_y) in
      let taken : take n pairs ++ (x, y) ∷ [] ≡ take m pairs
      = ap (λ (p : A × B). take n pairs ++ p ∷ []) (sym pair) ∙ sym (take-suc pairs n (x, y) within)
      ∙ ap (λ k. take k pairs) (sym (more ∙ add-one n)) in
      step ∙ ap (λ t. t ++ tell (x, y)) so_far ∙ flat_map_more tell old (take n pairs) (x, y)
      ∙ ap (λ ps. old ++ flat_map tell ps) taken

  pub all_of : (n : ℕ) (told : List C) → n ≡ min (length xs) (length ys) → IsOfFirst n told
      → told ≡ old ++ flat_map tell (zip xs ys)
  all_of n told ended so_far =
      let past : length (zip xs ys) ≤ n = omega (arith, ended, length-zip xs ys) in
      so_far ∙ ap (λ ps. old ++ flat_map tell ps) (take_all n (zip xs ys) past)
