-- The piece lengths that are chosen by a size.
use Rattle.std.proofs.Common.{◌≡◌, ◌≤◌, ◌<◌, ◌⊎◌, ◌*◌, ◌^◌, ◌∷◌, [], ℕ, Bool, true, false, true≢false, cond}
use Rattle.std.proofs.Common.{List, Option, Some, inl, inr, refl, ap, sym, arith}
use Rattle.std.specs.Int.{div_ceil}
use Rattle.std.specs.List.{AllByRecursion, find}
use Rattle.std.specs.Prelude.{◌&&◌, ◌/◌, nat_le, unwrap_or}
use Rattle.std.proofs.lemmas.Bool.{cases_lt, lt-ltb, ltb-true}
use lib.Count.{ones, ones_step}
use Rattle.tor_merkle.specs.Layer.{IsPieceLength}
use Rattle.tor_merkle.proofs.ProvedLaws.{ceil_at_most}
use Rattle.tor_meta.specs.PieceLength.{auto_piece_length, is_long_enough}

-- what holds of the default, and of each element if it is found, holds of what a search ends in
one_found : (P : ℕ → Type 0) (x rest : ℕ) (b : Bool) (found : Option ℕ) (last : ℕ) → (b ≡ true → P x)
    → P (unwrap_or found last) → P (unwrap_or (cond b (Some x) found) last)
one_found P x rest true found last holds later = holds refl
one_found P x rest false found last holds later = later

of_found : (P : ℕ → Type 0) (test : ℕ → Bool) (last : ℕ) (xs : List ℕ)
    → AllByRecursion (λ x. test x ≡ true → P x) xs → P last → P (unwrap_or (find test xs) last)
of_found P test last [] each at_last = at_last
of_found P test last (x ∷ xs) each at_last =
    one_found P x last (test x) (find test xs) last each.0 (of_found P test last xs each.1 at_last)

-- each element is at most the next, and the last one this
abbrev Rise : ℕ → List ℕ → Type 0
Rise last [] = Unit {0}
Rise last (x ∷ []) = x ≤ last
Rise last (x ∷ y ∷ ys) = (x ≤ y) × Rise last (y ∷ ys)

tail_rises : (x last : ℕ) (xs : List ℕ) → Rise last (x ∷ xs) → Rise last xs
tail_rises x last [] rise = tt
tail_rises x last (y ∷ ys) rise = rise.1

-- a search behind an element ends in nothing below it
lowest : (x : ℕ) (test : ℕ → Bool) (last : ℕ) (xs : List ℕ) → Rise last (x ∷ xs) → x ≤ unwrap_or (find test xs) last
lowest x test last [] rise = rise
lowest x test last (y ∷ ys) rise =
    one_found (λ found. x ≤ found) y last (test y) (find test ys) last (λ is. rise.0)
    (omega (arith, lowest y test last ys rise.1, rise.0))

-- of one element and the rest of a search
later : (x last : ℕ) (a b : Bool) (easy hard : Option ℕ) → (b ≡ true → a ≡ true) → x ≤ unwrap_or hard last
    → unwrap_or easy last ≤ unwrap_or hard last
    → unwrap_or (cond a (Some x) easy) last ≤ unwrap_or (cond b (Some x) hard) last
later x last true true easy hard harder low rest = omega arith
later x last true false easy hard harder low rest = low
later x last false true easy hard harder low rest = absurd (true≢false (sym (harder refl)))
later x last false false easy hard harder low rest = rest

-- what is harder to pass is passed no earlier
found_later : (easy hard : ℕ → Bool) → ((x : ℕ) → hard x ≡ true → easy x ≡ true) → (last : ℕ) (xs : List ℕ)
    → Rise last xs → unwrap_or (find easy xs) last ≤ unwrap_or (find hard xs) last
found_later easy hard harder last [] rise = omega arith
found_later easy hard harder last (x ∷ xs) rise =
    later x last (easy x) (hard x) (find easy xs) (find hard xs) (harder x) (lowest x hard last xs rise)
    (found_later easy hard harder last xs (tail_rises x last xs rise))

abbrev choices : List ℕ
choices = 16384 ∷ 32768 ∷ 65536 ∷ 131072 ∷ 262144 ∷ 524288 ∷ 1048576 ∷ 2097152 ∷ 4194304 ∷ 8388608 ∷ 16777216 ∷ 33554432 ∷ 67108864 ∷ 134217728 ∷ 268435456 ∷ []

pub auto_grows : (one more : ℕ) → one ≤ more → auto_piece_length one ≤ auto_piece_length more
auto_grows one more le =
    found_later (is_long_enough one) (is_long_enough more)
    (λ x is. lt-ltb (one * 2 ^ 14) (160 * (x * x)) (omega (arith, le, ltb-true (more * 2 ^ 14) (160 * (x * x)) is)))
    (2 ^ 29) choices (
      omega arith,
      (
        omega arith,
        (
          omega arith,
          (
            omega arith,
            (
              omega arith,
              (
                omega arith,
                (
                  omega arith,
                  (
                    omega arith,
                    (
                      omega arith,
                      (
                        omega arith,
                        (
                          omega arith,
                          (
                            omega arith,
                            (
                              omega arith,
                              (omega arith, omega arith),
                            ),
                          ),
                        ),
                      ),
                    ),
                  ),
                ),
              ),
            ),
          ),
        ),
      ),
    )

once : ones 16384 ≡ 1
unfolding ones
once = refl

twice_half : (n : ℕ) → 2 * n / 2 ≡ n
twice_half n = omega arith

-- twice a number has as many digits set
twice : (n : ℕ) → ones n ≡ 1 → ones (2 * n) ≡ 1
twice n one = omega (arith, ones_step (2 * n), ap ones (twice_half n), one)

allowed : (n : ℕ) → ones n ≡ 1 → (nat_le 16384 n && nat_le n 1073741824) ≡ true → IsPieceLength n
allowed n one within = rw one within

pub auto_is_allowed : (size : ℕ) → IsPieceLength (auto_piece_length size)
auto_is_allowed size =
    let first : ones 16384 ≡ 1 = once in
    let p15 : ones 32768 ≡ 1 = twice 16384 first in
    let p16 : ones 65536 ≡ 1 = twice 32768 p15 in
    let p17 : ones 131072 ≡ 1 = twice 65536 p16 in
    let p18 : ones 262144 ≡ 1 = twice 131072 p17 in
    let p19 : ones 524288 ≡ 1 = twice 262144 p18 in
    let p20 : ones 1048576 ≡ 1 = twice 524288 p19 in
    let p21 : ones 2097152 ≡ 1 = twice 1048576 p20 in
    let p22 : ones 4194304 ≡ 1 = twice 2097152 p21 in
    let p23 : ones 8388608 ≡ 1 = twice 4194304 p22 in
    let p24 : ones 16777216 ≡ 1 = twice 8388608 p23 in
    let p25 : ones 33554432 ≡ 1 = twice 16777216 p24 in
    let p26 : ones 67108864 ≡ 1 = twice 33554432 p25 in
    let p27 : ones 134217728 ≡ 1 = twice 67108864 p26 in
    let p28 : ones 268435456 ≡ 1 = twice 134217728 p27 in
    let p29 : ones 536870912 ≡ 1 = twice 268435456 p28 in
    of_found IsPieceLength (is_long_enough size) (2 ^ 29) choices (
      λ is. allowed 16384 first refl,
      (
        λ is. allowed 32768 p15 refl,
        (
          λ is. allowed 65536 p16 refl,
          (
            λ is. allowed 131072 p17 refl,
            (
              λ is. allowed 262144 p18 refl,
              (
                λ is. allowed 524288 p19 refl,
                (
                  λ is. allowed 1048576 p20 refl,
                  (
                    λ is. allowed 2097152 p21 refl,
                    (
                      λ is. allowed 4194304 p22 refl,
                      (
                        λ is. allowed 8388608 p23 refl,
                        (
                          λ is. allowed 16777216 p24 refl,
                          (
                            λ is. allowed 33554432 p25 refl,
                            (
                              λ is. allowed 67108864 p26 refl,
                              (
                                λ is. allowed 134217728 p27 refl,
                                (λ is. allowed 268435456 p28 refl, tt),
                              ),
                            ),
                          ),
                        ),
                      ),
                    ),
                  ),
                ),
              ),
            ),
          ),
        ),
      ),
    )
    (allowed 536870912 p29 refl)

-- a piece length at which a size that it is enough for has few pieces
few_of : (size x : ℕ) → 0 < x → 160 * (x * x) ≤ 2 ^ 14 * (2 ^ 21 * x) → is_long_enough size x ≡ true → div_ceil size x ≤ 2 ^ 21
few_of size x some small is =
    ceil_at_most size x (2 ^ 21) some (omega (arith, small, ltb-true (size * 2 ^ 14) (160 * (x * x)) is))

abbrev IsFew : ℕ → ℕ → Type 0
IsFew size p = (div_ceil size p ≤ 2 ^ 21) ⊎ ((p ≡ 2 ^ 28) × (2 ^ 49 < size))

pub auto_makes_few : (size : ℕ) → size ≤ 2 ^ 50
    → (div_ceil size (auto_piece_length size) ≤ 2 ^ 21) ⊎ ((auto_piece_length size ≡ 2 ^ 28) × (2 ^ 49 < size))
auto_makes_few size le = of_found (IsFew size) (is_long_enough size) (2 ^ 29) choices (
  λ is. inl (few_of size 16384 (omega arith) (omega arith) is),
  (
    λ is. inl (few_of size 32768 (omega arith) (omega arith) is),
    (
      λ is. inl (few_of size 65536 (omega arith) (omega arith) is),
      (
        λ is. inl (few_of size 131072 (omega arith) (omega arith) is),
        (
          λ is. inl (few_of size 262144 (omega arith) (omega arith) is),
          (
            λ is. inl (few_of size 524288 (omega arith) (omega arith) is),
            (
              λ is. inl (few_of size 1048576 (omega arith) (omega arith) is),
              (
                λ is. inl (few_of size 2097152 (omega arith) (omega arith) is),
                (
                  λ is. inl (few_of size 4194304 (omega arith) (omega arith) is),
                  (
                    λ is. inl (few_of size 8388608 (omega arith) (omega arith) is),
                    (
                      λ is. inl (few_of size 16777216 (omega arith) (omega arith) is),
                      (
                        λ is. inl (few_of size 33554432 (omega arith) (omega arith) is),
                        (
                          λ is. inl (few_of size 67108864 (omega arith) (omega arith) is),
                          (
                            λ is. inl (few_of size 134217728 (omega arith) (omega arith) is),
                            (λ is. elim (cases_lt (2 ^ 49) size) [ inl above ↦ inr (refl, above) | inr within ↦ inl (ceil_at_most size 268435456 (2 ^ 21) (omega arith) (omega (arith, within))) ], tt),
                          ),
                        ),
                      ),
                    ),
                  ),
                ),
              ),
            ),
          ),
        ),
      ),
    ),
  ),
)
    (inl (ceil_at_most size (2 ^ 29) (2 ^ 21) (omega arith) (omega (arith, le))))
