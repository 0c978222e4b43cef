-- Joined SHA-1 taken one after another.
use Rattle.tor_recheck.proofs.Names.{◌≡◌, ℕ, ◌+◌, ◌*◌, min, List, length, take, drop, arith, ap, sym, ◌∙◌, inl, inr}
use Rattle.tor_recheck.proofs.Names.{drop_of_length-le, cases_lt, drop-drop, take_min}

module _ (sums : List ℕ) (n : ℕ) where
  pub first_sum : take (min (length sums) n) sums ≡ take n sums
  first_sum =
      let same : min (length sums) n ≡ min n (length sums) = omega arith in
      ap (λ k. take k sums) same ∙ take_min n sums

  pub later_sums : drop (min (length sums) n) sums ≡ drop n sums
  later_sums = elim (cases_lt (length sums) n) [
    | inl few ↦
        let all : min (length sums) n ≡ length sums = omega (arith, few) in
        ap (λ k. drop k sums) all ∙ drop_of_length-le sums (omega arith)
        ∙ sym (drop_of_length-le sums (omega (arith, few)))
    | inr some ↦
        let whole : min (length sums) n ≡ n = omega (arith, some) in
        ap (λ k. drop k sums) whole
  ]

pub next_sums : (pieces : List ℕ) (i : ℕ) → drop 20 (drop (i * 20) pieces) ≡ drop ((i + 1) * 20) pieces
next_sums pieces i =
    drop-drop 20 (i * 20) pieces
    ∙ (let next : i * 20 + 20 ≡ (i + 1) * 20 = omega arith in ap (λ k. drop k pieces) next)
