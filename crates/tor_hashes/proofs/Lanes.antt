-- One lane of a vector that was computed lane by lane.
use Rattle.std.proofs.Common.{◌≡◌, ℕ, zero, suc, ◌+◌, ◌-◌, ◌*◌, ◌/◌, ◌%◌, ◌^◌, ◌<◌, ◌≤◌, take, drop}
use Rattle.std.proofs.Common.{List, [], ◌∷◌, length, slice_index, slice_index_or, slice_set, bit_or, inl, inr, subst}
use Rattle.std.proofs.Common.{arith, refl, ap, ◌∙◌}
use Rattle.std.specs.Prelude.{replicate}
use Rattle.std.specs.Int.{w32, rotate_left, rotate_right}
use Rattle.sha2.specs.Sha256.{word_at}
use Rattle.std.proofs.lemmas.Simd.{get_or-chunk, get_or-zip2, get_or-replicate, length-zip2, length-replicate}
use Rattle.std.proofs.lemmas.Bool.{cases_lt}
use lib.Lanes.{zip2}
use Rattle.tor_hashes.specs.steps.Lanes.{window, word_of}

pub lane_zip2 : (f : ℕ → ℕ → ℕ) (xs ys : List ℕ) (n j : ℕ) → length xs ≡ n → length ys ≡ n → j < n
    → slice_index (zip2 f xs ys) j ≡ f (slice_index xs j) (slice_index ys j)
lane_zip2 f xs ys n j lx ly h = get_or-zip2 f xs ys j 0 0 0 (omega arith) (omega arith)

-- the second vector has the word k in each lane
pub lane_splat : (f : ℕ → ℕ → ℕ) (xs : List ℕ) (n k j : ℕ) → length xs ≡ n → j < n
    → slice_index (zip2 f xs (replicate n k)) j ≡ f (slice_index xs j) k
lane_splat f xs n k j lx h =
    lane_zip2 f xs (replicate n k) n j lx (length-replicate n k) h
    ∙ ap (f (slice_index xs j)) (get_or-replicate n j k 0 h)

-- word p of message j
pub word_of_window : (w : List (List ℕ)) (j p : ℕ) (d : List ℕ) → p < length w
    → slice_index (window j w) p ≡ slice_index (slice_index_or w p d) j
word_of_window [] j p d h = absurd (omega arith)
word_of_window (x ∷ w) j zero d h = refl
word_of_window (x ∷ w) j (suc p) d h = word_of_window w j p d (omega arith)

-- a word changes in each message
pub window_set : (w : List (List ℕ)) (j p : ℕ) (x : List ℕ)
    → window j (slice_set w p x) ≡ slice_set (window j w) p (slice_index x j)
window_set [] j p x = refl
window_set (y ∷ w) j zero x = refl
window_set (y ∷ w) j (suc p) x = ap (λ (l : List ℕ). slice_index y j ∷ l) (window_set w j p x)

-- what holds of each of eight lanes
pub below_eight : (P : ℕ → Type 0) → P 0 → P 1 → P 2 → P 3 → P 4 → P 5 → P 6 → P 7 → (j : ℕ) → j < 8 → P j
below_eight P a b c d e f g h zero lt = a
below_eight P a b c d e f g h (suc zero) lt = b
below_eight P a b c d e f g h (suc (suc zero)) lt = c
below_eight P a b c d e f g h (suc (suc (suc zero))) lt = d
below_eight P a b c d e f g h (suc (suc (suc (suc zero)))) lt = e
below_eight P a b c d e f g h (suc (suc (suc (suc (suc zero))))) lt = f
below_eight P a b c d e f g h (suc (suc (suc (suc (suc (suc zero)))))) lt = g
below_eight P a b c d e f g h (suc (suc (suc (suc (suc (suc (suc zero))))))) lt = h
below_eight P a b c d e f g h (suc (suc (suc (suc (suc (suc (suc (suc n)))))))) lt = absurd (omega arith)

-- word k of a block of message j
pub word_of_block : (bytes : List ℕ) (p k : ℕ) → k < 16 → p + 64 ≤ length bytes
    → word_at (take 64 (drop p bytes)) (4 * k) ≡ word_at bytes (p + 4 * k)
word_of_block bytes p k lt fits =
    let at : (i : ℕ) → i < 64 → slice_index (take 64 (drop p bytes)) i ≡ slice_index bytes (p + i) =
    λ i below. get_or-chunk p 64 bytes i 0 below in
    let a1 : p + (4 * k + 1) ≡ p + 4 * k + 1 = omega arith in
    let a2 : p + (4 * k + 2) ≡ p + 4 * k + 2 = omega arith in
    let a3 : p + (4 * k + 3) ≡ p + 4 * k + 3 = omega arith in
    let b0 = at (4 * k) (omega arith) in
    let b1 = at (4 * k + 1) (omega arith) in
    let b2 = at (4 * k + 2) (omega arith) in
    let b3 = at (4 * k + 3) (omega arith) in
    rw (b0, b1, b2, b3, a1, a2, a3) refl

-- what holds of each of sixteen words
pub below_sixteen : (P : ℕ → Type 0) → P 0 → P 1 → P 2 → P 3 → P 4 → P 5 → P 6 → P 7
    → P 8 → P 9 → P 10 → P 11 → P 12 → P 13 → P 14 → P 15 → (j : ℕ) → j < 16 → P j
below_sixteen P a b c d e f g h i k l m n o p q j lt = elim (cases_lt j 8) [
  | inl low ↦ below_eight P a b c d e f g h j low
  | inr high ↦
      let at : 8 + (j - 8) ≡ j = omega arith in
      subst P at (below_eight (λ x. P (8 + x)) i k l m n o p q (j - 8) (omega arith))
]

-- sixteen words of message j, of which these are the first and the last eight
abbrev pub joined : List (List ℕ) → List (List ℕ) → List (List ℕ)
joined low high =
    slice_index_or low 0 [] ∷ slice_index_or low 1 [] ∷ slice_index_or low 2 [] ∷ slice_index_or low 3 []
    ∷ slice_index_or low 4 [] ∷ slice_index_or low 5 [] ∷ slice_index_or low 6 [] ∷ slice_index_or low 7 []
    ∷ slice_index_or high 0 [] ∷ slice_index_or high 1 [] ∷ slice_index_or high 2 [] ∷ slice_index_or high 3 []
    ∷ slice_index_or high 4 [] ∷ slice_index_or high 5 [] ∷ slice_index_or high 6 [] ∷ slice_index_or high 7 [] ∷ []

pub words_of_halves : (low high : List (List ℕ)) (b : List ℕ) (j p : ℕ)
    → ((k : ℕ) → k < 8 → word_of j low k ≡ word_at b (p + 4 * k))
    → ((k : ℕ) → k < 8 → word_of j high k ≡ word_at b (p + 4 * (8 + k)))
    → (k : ℕ) → k < 16 → slice_index (window j (joined low high)) k ≡ word_at b (p + 4 * k)
words_of_halves low high b j p first last =
    below_sixteen (λ k. slice_index (window j (joined low high)) k ≡ word_at b (p + 4 * k))
    (first 0 (omega arith)) (first 1 (omega arith)) (first 2 (omega arith)) (first 3 (omega arith))
    (first 4 (omega arith)) (first 5 (omega arith)) (first 6 (omega arith)) (first 7 (omega arith))
    (last 0 (omega arith)) (last 1 (omega arith)) (last 2 (omega arith)) (last 3 (omega arith))
    (last 4 (omega arith)) (last 5 (omega arith)) (last 6 (omega arith)) (last 7 (omega arith))

-- two shifted vectors, joined
lane_of_both : (f g : ℕ → ℕ → ℕ) (xs : List ℕ) (n k l j : ℕ) → length xs ≡ n → j < n
    → slice_index (zip2 bit_or (zip2 f xs (replicate n k)) (zip2 g xs (replicate n l))) j
    ≡ bit_or (f (slice_index xs j) k) (g (slice_index xs j) l)
lane_of_both f g xs n k l j lx h =
    let la = length-zip2 f xs (replicate n k) (omega (arith, length-replicate n k)) in
    let lb = length-zip2 g xs (replicate n l) (omega (arith, length-replicate n l)) in
    lane_zip2 bit_or _ _ n j (la ∙ lx) (lb ∙ lx) h ∙ rw (lane_splat f xs n k j lx h, lane_splat g xs n l j lx h) refl

-- the shifts of words
abbrev pub raised : ℕ → ℕ → ℕ
raised x i = x * 2 ^ i % 2 ^ 32

abbrev pub lowered : ℕ → ℕ → ℕ
lowered x i = x / 2 ^ i

pub lane_rotated_right : (xs : List ℕ) (n k j : ℕ) → 0 < k → k < 32 → length xs ≡ n → j < n
    → slice_index (zip2 bit_or (zip2 lowered xs (replicate n k)) (zip2 raised xs (replicate n (32 - k)))) j
    ≡ rotate_right w32 (slice_index xs j) k
lane_rotated_right xs n k j low high lx h =
    let left : k % 32 ≡ k = omega arith in
    let right : (32 - k) % 32 ≡ 32 - k = omega arith in
    lane_of_both lowered raised xs n k (32 - k) j lx h ∙ rw (left, right) refl

pub lane_rotated_left : (xs : List ℕ) (n k j : ℕ) → 0 < k → k < 32 → length xs ≡ n → j < n
    → slice_index (zip2 bit_or (zip2 raised xs (replicate n k)) (zip2 lowered xs (replicate n (32 - k)))) j
    ≡ rotate_left w32 (slice_index xs j) k
lane_rotated_left xs n k j low high lx h =
    let left : k % 32 ≡ k = omega arith in
    let right : (32 - k) % 32 ≡ 32 - k = omega arith in
    lane_of_both raised lowered xs n k (32 - k) j lx h ∙ rw (left, right) refl
