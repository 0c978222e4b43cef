-- How many runs of so many bytes there are, and what is cut into them, run by run.
use Rattle.tor_plan.proofs.Names.{◌≡◌, ℕ, zero, suc, ◌+◌, ◌*◌, ◌<◌, min, List, [], ◌∷◌, ◌++◌, map, arith, refl, ap, ap₂}
use Rattle.tor_plan.proofs.Names.{◌∙◌, sym, append_assoc, append-nil, div_ceil_times, flat_map-append}
use Rattle.tor_plan.proofs.Names.{map-range_with_len_more, div_ceil, flat_map, range_with_len}

pub range-add : {X : Type 0} (f : ℕ → X) (n m : ℕ)
    → map f (range_with_len 0 n) ++ map (λ k. f (n + k)) (range_with_len 0 m) ≡ map f (range_with_len 0 (n + m))
range-add f n zero =
    append-nil (map f (range_with_len 0 n)) ∙ ap (λ k. map f (range_with_len 0 k)) (omega arith)
range-add f n (suc m) =
    let front = map f (range_with_len 0 n) in
    let g : ℕ → _ = λ k. f (n + k) in
    ap (λ k. front ++ map g (range_with_len 0 k)) (let e : suc m ≡ m + 1 = omega arith in e)
    ∙ ap (λ xs. front ++ xs) (map-range_with_len_more g 0 m m (omega arith))
    ∙ sym (append_assoc front (map g (range_with_len 0 m)) (f (n + m) ∷ []))
    ∙ ap (λ xs. xs ++ f (n + m) ∷ []) (range-add f n m)
    ∙ sym (map-range_with_len_more f 0 (n + m) (n + m) (omega arith))
    ∙ ap (λ k. map f (range_with_len 0 k)) (omega arith)

-- where each run adds to what so many bytes give, all runs give what all bytes give
module _ {X Y : Type 0} (f : X → List Y) (g : ℕ → X) (F : ℕ → List Y) (n size : ℕ) (pos : 0 < size)
    (step : (k : ℕ) → k * size < n → F (k * size) ++ f (g k) ≡ F (min n ((k + 1) * size))) (none : F 0 ≡ []) where
  so_far : (k : ℕ) → k * size < n + size → flat_map f (map g (range_with_len 0 k)) ≡ F (min n (k * size))
  so_far zero less = sym none ∙ ap F (omega arith)
  so_far (suc k) less =
      let more : suc k * size ≡ k * size + size = omega arith in
      let here : k * size < n = omega (arith, less, more) in
      let front = flat_map f (map g (range_with_len 0 k)) in
      ap (λ q. flat_map f (map g (range_with_len 0 q))) (let e : suc k ≡ k + 1 = omega arith in e)
      ∙ ap (flat_map f) (map-range_with_len_more g 0 k k (omega arith))
      ∙ flat_map-append f (map g (range_with_len 0 k)) (g k ∷ []) ∙ ap (λ ys. front ++ ys) (append-nil (f (g k)))
      ∙ ap (λ ys. ys ++ f (g k)) (so_far k (omega (arith, here))) ∙ ap (λ q. F q ++ f (g k)) (omega (arith, here))
      ∙ step k here ∙ ap (λ q. F (min n q)) (omega arith)

  pub runs_are : flat_map f (map g (range_with_len 0 (div_ceil n size))) ≡ F n
  runs_are =
      let bounds = div_ceil_times n size pos in
      so_far (div_ceil n size) bounds.1 ∙ ap F (omega (arith, bounds.0))

-- ---- of several lists

pub flat_map-same : {X Y : Type 0} (f g : X → List Y) → ((x : X) → f x ≡ g x) → (xs : List X)
    → flat_map f xs ≡ flat_map g xs
flat_map-same f g same [] = refl
flat_map-same f g same (x ∷ xs) = ap₂ (λ ys zs. ys ++ zs) (same x) (flat_map-same f g same xs)

pub map_same : {X : Type 0} (f g : ℕ → X) → ((k : ℕ) → f k ≡ g k) → (ks : List ℕ) → map f ks ≡ map g ks
map_same f g same [] = refl
map_same f g same (k ∷ ks) = ap₂ (λ x xs. x ∷ xs) (same k) (map_same f g same ks)
