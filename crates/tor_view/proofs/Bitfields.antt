-- The bitfield of joined bits, if the first ones fill their bytes.
use Rattle.tor_view.proofs.Names.{◌≡◌, ℕ, ◌+◌, ◌*◌, ◌-◌, ◌/◌, ◌%◌, ◌<◌, Bool, false, cond, List, ◌++◌, length, map}
use Rattle.tor_view.proofs.Names.{get_or, arith, sym, ap, ap₂, ◌∙◌, min, length-append, add-mul-div_right}
use Rattle.tor_view.proofs.Names.{add-mul-mod_self_right, div-add-mod', div_ceil, fill_by_all, get_or_append_left}
use Rattle.tor_view.proofs.Names.{get_or-append_right, get_or-map-range_with_len, length-map-range_with_len}
use Rattle.tor_view.proofs.Names.{range_with_len, bit_of, bitfield, byte_from}
use Rattle.tor_view.proofs.FromIndex.{range_split}

-- ---- a byte, by its eight bits

byte_of : ℕ → ℕ → ℕ → ℕ → ℕ → ℕ → ℕ → ℕ → ℕ
byte_of a b c d e f g h = 128 * a + 64 * b + 32 * c + 16 * d + 8 * e + 4 * f + 2 * g + h

same_four : {A : Type 0} (f : ℕ → ℕ → ℕ → ℕ → A) (a b c d p q r s : ℕ) → a ≡ p → b ≡ q → c ≡ r → d ≡ s
    → f a b c d ≡ f p q r s
same_four f a b c d p q r s e1 e2 e3 e4 =
    ap (λ x. f x b c d) e1 ∙ ap (λ x. f p x c d) e2 ∙ ap (λ x. f p q x d) e3 ∙ ap (λ x. f p q r x) e4

pub same_byte : (xs ys : List Bool) (i j : ℕ) → ((d : ℕ) → d < 8 → get_or xs (i + d) false ≡ get_or ys (j + d) false)
    → byte_from xs i ≡ byte_from ys j
unfolding byte_of
same_byte xs ys i j same =
    same_four (λ a b c d. byte_of a b c d (bit_of xs (i + 4)) (bit_of xs (i + 5)) (bit_of xs (i + 6)) (bit_of xs (i + 7)))
    _ _ _ _ _ _ _ _ first (at 1 (omega arith)) (at 2 (omega arith)) (at 3 (omega arith))
    ∙ same_four (λ e f g h. byte_of (bit_of ys j) (bit_of ys (j + 1)) (bit_of ys (j + 2)) (bit_of ys (j + 3)) e f g h)
    _ _ _ _ _ _ _ _ (at 4 (omega arith)) (at 5 (omega arith)) (at 6 (omega arith)) (at 7 (omega arith))
  where
    at : (d : ℕ) → d < 8 → bit_of xs (i + d) ≡ bit_of ys (j + d)
    at d lt = ap (λ b. cond b 1 0) (same d lt)

    first : bit_of xs i ≡ bit_of ys j
    first =
        ap (bit_of xs) (let e : i ≡ i + 0 = omega arith in e)
        ∙ at 0 (omega arith)
        ∙ ap (bit_of ys) (let e : j + 0 ≡ j = omega arith in e)

-- ---- joined bits

ceil_of : (m n : ℕ) → div_ceil (m * 8 + n) 8 ≡ m + div_ceil n 8
ceil_of m n =
    ap (λ k. div_ceil k 8) (let e : m * 8 + n ≡ n + m * 8 = omega arith in e)
    ∙ ap₂ (λ q r. q + min 1 r) (add-mul-div_right n m (omega arith)) (add-mul-mod_self_right n m 8)
    ∙ turned (n / 8) m (min 1 (n % 8)) where
      turned : (a b c : ℕ) → a + b + c ≡ b + (a + c)
      turned a b c = omega arith

module _ (bits others : List Bool) (m : ℕ) (whole : length bits ≡ m * 8) where
  abbrev all : List Bool
  all = bits ++ others

  abbrev n : ℕ
  n = div_ceil (length others) 8

  abbrev byte : List Bool → ℕ → ℕ
  byte some k = byte_from some (8 * k)

  count_bits : div_ceil (length bits) 8 ≡ m
  count_bits =
      ap (λ k. div_ceil k 8) (whole ∙ (let e : m * 8 ≡ m * 8 + 0 = omega arith in e))
      ∙ ceil_of m 0 ∙ (let e : m + 0 ≡ m = omega arith in e)

  count_all : div_ceil (length all) 8 ≡ m + n
  count_all = ap (λ k. div_ceil k 8) (length-append bits others ∙ ap (λ k. k + length others) whole)
      ∙ ceil_of m (length others)

  first_bytes : map (byte all) (range_with_len 0 m) ≡ map (byte bits) (range_with_len 0 m)
  first_bytes =
      fill_by_all (byte bits) (map (byte all) (range_with_len 0 m)) m 0 (length-map-range_with_len (byte all) 0 m)
      (λ k lt.
      get_or-map-range_with_len (byte all) 0 m k k 0 lt (omega arith)
      ∙ same_byte all bits (8 * k) (8 * k) (λ d less.
      get_or_append_left bits others false (8 * k + d) (omega (arith, lt, less, whole))))

  later_bytes : map (byte all) (range_with_len (0 + m) n) ≡ map (byte others) (range_with_len 0 n)
  later_bytes =
      fill_by_all (byte others) (map (byte all) (range_with_len (0 + m) n)) n 0
      (length-map-range_with_len (byte all) (0 + m) n)
      (λ k lt.
      get_or-map-range_with_len (byte all) (0 + m) n k (m + k) 0 lt (omega arith)
      ∙ same_byte all others (8 * (m + k)) (8 * k) (λ d less.
      get_or-append_right bits others (m * 8) (8 * (m + k) + d) false whole (omega arith)
      ∙ ap (λ i. get_or others i false)
      (let e : 8 * (m + k) + d - m * 8 ≡ 8 * k + d = omega arith in e)))

  pub joined_bytes : bitfield all ≡ bitfield bits ++ bitfield others
  joined_bytes =
      ap (λ k. map (byte all) (range_with_len 0 k)) count_all
      ∙ range_split (byte all) 0 m n
      ∙ ap₂ (λ xs ys. xs ++ ys)
      (first_bytes ∙ ap (λ k. map (byte bits) (range_with_len 0 k)) (sym count_bits)) later_bytes

pub bitfields_joined : (bits others : List Bool) → length bits % 8 ≡ 0
    → bitfield (bits ++ others) ≡ bitfield bits ++ bitfield others
bitfields_joined bits others none =
    joined_bytes bits others (length bits / 8) (let all = div-add-mod' (length bits) 8 in omega (arith, all, none))
