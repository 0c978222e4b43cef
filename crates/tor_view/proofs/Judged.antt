-- Two lists judged element by element, and values for numbers below another.
use Rattle.tor_view.proofs.Names.{◌≡◌, ℕ, zero, suc, ◌<◌, Bool, true, false, ◌&&◌, List, [], ◌∷◌, ◌++◌, length, map}
use Rattle.tor_view.proofs.Names.{get_or, arith, refl, ap, false≢true, true≢false}

abbrev pub judged : {X Y : Type 0} → (X → Y → Bool) → List X → List Y → List Bool
judged f [] ys = []
judged f (x ∷ xs) [] = []
judged f (x ∷ xs) (y ∷ ys) = f x y ∷ judged f xs ys

module _ {X Y : Type 0} (f : X → Y → Bool) where
  pub judged-append : (xs more : List X) (ys others : List Y) → length xs ≡ length ys
      → judged f (xs ++ more) (ys ++ others) ≡ judged f xs ys ++ judged f more others
  judged-append [] more [] others same = refl
  judged-append [] more (y ∷ ys) others same = absurd (omega (arith, same))
  judged-append (x ∷ xs) more [] others same = absurd (omega (arith, same))
  judged-append (x ∷ xs) more (y ∷ ys) others same =
      ap (λ bits. f x y ∷ bits) (judged-append xs more ys others (omega (arith, same)))

  pub judged-map : (g : ℕ → X) (h : ℕ → Y) (ks : List ℕ) → judged f (map g ks) (map h ks) ≡ map (λ k. f (g k) (h k)) ks
  judged-map g h [] = refl
  judged-map g h (k ∷ ks) = ap (λ bits. f (g k) (h k) ∷ bits) (judged-map g h ks)

  pub get_or-judged : (xs : List X) (ys : List Y) (k : ℕ) (x : X) (y : Y) → length xs ≡ length ys → k < length xs
      → get_or (judged f xs ys) k false ≡ f (get_or xs k x) (get_or ys k y)
  get_or-judged [] ys k x y same lt = absurd (omega (arith, lt))
  get_or-judged (one ∷ xs) [] k x y same lt = absurd (omega (arith, same))
  get_or-judged (one ∷ xs) (other ∷ ys) zero x y same lt = refl
  get_or-judged (one ∷ xs) (other ∷ ys) (suc k) x y same lt =
      get_or-judged xs ys k x y (omega (arith, same)) (omega (arith, lt))

-- the second test is only asked where the first holds
pub and_same : (a b c d : Bool) → a ≡ c → (a ≡ true → b ≡ d) → (a && b) ≡ (c && d)
and_same true b true d same so = so refl
and_same true b false d same so = absurd (true≢false same)
and_same false b true d same so = absurd (false≢true same)
and_same false b false d same so = refl
