-- The bytes from one offset to another of bytes that may be missing.
use Rattle.tor_view.proofs.Names.{◌≡◌, ℕ, ◌+◌, ◌-◌, min, max, List, ◌++◌, length, take, drop, Some, arith, refl, ap}
use Rattle.tor_view.proofs.Names.{ap₂, ◌∙◌, sym, inl, inr, append-nil, length-drop, take-append-add, cases_lt}
use Rattle.tor_view.proofs.Names.{drop_all, drop_at, drop-append-le, drop-drop, drop-map, drop-replicate, length-map}
use Rattle.tor_view.proofs.Names.{length-replicate, take_all, take_min, take-append-le, take-map, take-replicate}
use Rattle.tor_view.proofs.Names.{shared, file_bytes, zeros}
use Rattle.tor_view.proofs.FoundBytes.{Found, length-file, part-file, there}

-- ---- the rest of two joined lists, and their beginning

pub drop-append : (n : ℕ) (xs ys : Found) → drop n (xs ++ ys) ≡ drop n xs ++ drop (n - length xs) ys
drop-append n xs ys = elim (cases_lt (length xs) n) [
  | inl more ↦
      ap (λ k. drop k (xs ++ ys)) (let e : n ≡ length xs + (n - length xs) = omega arith in e)
      ∙ sym (drop-drop (n - length xs) (length xs) (xs ++ ys))
      ∙ ap (drop (n - length xs)) (drop_at xs ys (length xs) refl)
      ∙ ap (λ zs. zs ++ drop (n - length xs) ys) (sym (drop_all n xs (omega arith)))
  | inr le ↦ drop-append-le n xs ys le ∙ ap (λ k. drop n xs ++ drop k ys) (let e : 0 ≡ n - length xs = omega arith in e)
]

pub take-append : (n : ℕ) (xs ys : Found) → take n (xs ++ ys) ≡ take n xs ++ take (n - length xs) ys
take-append n xs ys = elim (cases_lt (length xs) n) [
  | inl more ↦
      ap (λ k. take k (xs ++ ys)) (let e : n ≡ length xs + (n - length xs) = omega arith in e)
      ∙ take-append-add xs ys (n - length xs)
      ∙ ap (λ zs. zs ++ take (n - length xs) ys) (sym (take_all n xs (omega arith)))
  | inr le ↦ take-append-le n xs ys le
      ∙ sym (ap (λ k. take n xs ++ take k ys) (let e : n - length xs ≡ 0 = omega arith in e) ∙ append-nil (take n xs))
]

-- ---- the bytes from a to b of bytes of which the first is byte at

abbrev pub between : ℕ → ℕ → ℕ → Found → Found
between a b at xs = take (b - max a at) (drop (a - at) xs)

pub length-zeros : (m : ℕ) → length (there (zeros m)) ≡ m
unfolding zeros
length-zeros m = length-map (zeros m) Some ∙ length-replicate m 0

module _ (a b at m : ℕ) where
  pub between-append : (xs ys : Found) → length xs ≡ m
      → between a b at (xs ++ ys) ≡ between a b at xs ++ between a b (at + m) ys
  between-append xs ys long =
      let s = a - at in
      let n = b - max a at in
      ap (take n) (drop-append s xs ys) ∙ take-append n (drop s xs) (drop (s - length xs) ys)
      ∙ ap (λ zs. take n (drop s xs) ++ zs) (ap₂ (λ j k. take j (drop k ys))
      (let e : n - length (drop s xs) ≡ b - max a (at + m) = omega (arith, length-drop s xs, long) in e)
      (let e : s - length xs ≡ a - (at + m) = omega (arith, long) in e))

  between-shared : (xs : Found) → length xs ≡ m → take (shared a b at m) (drop (max a at - at) xs) ≡ between a b at xs
  between-shared xs long =
      let s = a - at in
      let n = b - max a at in
      ap₂ (λ j k. take j (drop k xs))
      (let e : shared a b at m ≡ min n (length (drop s xs)) = omega (arith, length-drop s xs, long) in e)
      (let e : max a at - at ≡ s = omega arith in e)
      ∙ take_min n (drop s xs)

  pub between-zeros : there (zeros (shared a b at m)) ≡ between a b at (there (zeros m))
  unfolding zeros
  between-zeros =
      let s = max a at - at in
      let n = shared a b at m in
      ap there (sym (take-replicate n (m - s) 0 (omega arith)))
      ∙ ap (λ xs. there (take n xs)) (sym (drop-replicate s m 0))
      ∙ sym (take-map Some n (drop s (zeros m))) ∙ ap (take n) (sym (drop-map Some s (zeros m)))
      ∙ between-shared (there (zeros m)) (length-zeros m)

  pub between-file : (content : List ℕ)
      → file_bytes (shared a b at m) (drop (max a at - at) content) ≡ between a b at (file_bytes m content)
  between-file content =
      sym (part-file (max a at - at) (shared a b at m) m content (omega arith))
      ∙ between-shared (file_bytes m content) (length-file m content)
