-- What the root of a foreign layer asks: that its hashes are those of the pieces of a file that is not too long.
use Rattle.tor_check.proofs.Names.{◌≡◌, ℕ, ◌*◌, ◌-◌, ◌^◌, ◌<◌, ◌≤◌, ◌/◌, ◌==◌, true, false, true≢false, Bool, not, ◌&&◌}
use Rattle.tor_check.proofs.Names.{List, length, refl, nat_lt, replicate, arith, ap, sym, subst, ◌∙◌, div_ceil}
use Rattle.tor_check.proofs.Names.{eqb-true, lt-ltb, length-replicate, count_of_piece_roots, IsPieceLength, piece_level}
use Rattle.tor_check.proofs.Names.{piece_roots, MAX_LENGTH, [], ◌∷◌, ◌||◌, Data, Option, None, Some, TreeFile}
use Rattle.tor_check.proofs.Names.{div_ceil_times}
use Rattle.tor_check.proofs.Names.{has_faulty_layer, has_other_root, is_misshaped, is_none, lacks_layer, layer_text}
use Rattle.tor_check.proofs.Names.{list_any, ltb-true, unwrap_or, option_map, refusal_for, Refusal, if◌then◌else◌}
use Rattle.tor_check.specs.declared.refusal.Refusal.TheVariants.{LayerAbsent, LayerLength, LayerRoot}
use Rattle.tor_spec.specs.valid.Conditions as conditions
use Rattle.tor_check.proofs.Bounds.{first_or}

-- the law piece_roots_fit_a_layer
abbrev pub FewPieceRoots : Type 0
FewPieceRoots = (content : List ℕ) (p : ℕ) → IsPieceLength p → length content ≤ MAX_LENGTH
    → length (piece_roots content p) ≤ 2 ^ (36 - piece_level p)

-- a file of n bytes has few pieces
pub few_pieces : FewPieceRoots → (p n : ℕ) → IsPieceLength p → n ≤ MAX_LENGTH → div_ceil n p ≤ 2 ^ (36 - piece_level p)
few_pieces few p n allowed small =
    let zeros = replicate n 0 in
    let long : length zeros ≡ n = length-replicate n 0 in
    let many : length (piece_roots zeros p) ≡ div_ceil n p =
    count_of_piece_roots zeros p ∙ ap (λ m. div_ceil m p) long in
    let fit = few zeros p allowed (subst (λ (m : ℕ). m ≤ MAX_LENGTH) (sym long) small) in
    omega (arith, fit, many)

-- a long file whose layer has its shape has 32 bytes for each piece
pub shaped_length : (p n bytes : ℕ) → p < n → (nat_lt p n && not (bytes == 32 * div_ceil n p)) ≡ false
    → bytes ≡ 32 * div_ceil n p
shaped_length p n bytes long shaped =
    let shaped' : not (bytes == 32 * div_ceil n p) ≡ false = rw (lt-ltb p n long) at shaped in
    eqb-true bytes (32 * div_ceil n p) (by_test (bytes == 32 * div_ceil n p) shaped')
  where
    by_test : (b : Bool) → not b ≡ false → b ≡ true
    by_test true e = refl
    by_test false e = absurd (true≢false e)

pub few_hashes : FewPieceRoots → (p n bytes hashes level : ℕ) → IsPieceLength p → n ≤ MAX_LENGTH
    → bytes ≡ 32 * div_ceil n p → hashes ≡ bytes / 32 → level ≡ piece_level p → hashes ≤ 2 ^ (36 - level)
few_hashes few p n bytes hashes level allowed small whole cut is =
    let count = few_pieces few p n allowed small in
    let all : hashes ≤ 2 ^ (36 - piece_level p) = omega (arith, count, whole, cut) in
    subst (λ (k : ℕ). hashes ≤ 2 ^ (36 - k)) (sym is) all

-- a long file has a piece
some_piece : (p n : ℕ) → 0 < p → p < n → div_ceil n p ≡ 0 → ⊥
some_piece p n some long none =
    let covered = (div_ceil_times n p some).0 in
    let none_covered : n ≤ 0 * p = subst (λ (c : ℕ). n ≤ c * p) none covered in
    omega (arith, none_covered, long)

-- a layer that is absent has not its shape
absent_is_misshaped : (p : ℕ) (layers : Data) (file : TreeFile) → 0 < p → lacks_layer p layers file ≡ true
    → is_misshaped p layers file ≡ true
absent_is_misshaped p layers file some lacks =
    by_tests (nat_lt p file.length) (layer_text layers file) refl lacks
  where
    no_text : (b : Bool) → (0 == 32 * div_ceil file.length p) ≡ b → nat_lt p file.length ≡ true → not b ≡ true
    no_text false e long = refl
    no_text true e long =
        let none = eqb-true 0 (32 * div_ceil file.length p) e in
        absurd (some_piece p file.length some (ltb-true p file.length long) (omega (arith, none)))

    by_tests : (b : Bool) (text : Option (List ℕ)) → nat_lt p file.length ≡ b → (b && is_none text) ≡ true
        → (b && not (length (unwrap_or text []) == 32 * div_ceil file.length p)) ≡ true
    by_tests true None long h = no_text (0 == 32 * div_ceil file.length p) refl long
    by_tests true (Some text) long h = absurd cc
    by_tests false text long h = absurd cc

-- what holds of none, and of which another follows
none_follows : {X : Type 0} (p q : X → Bool) (xs : List X) → ((x : X) → p x ≡ true → q x ≡ true)
    → list_any q xs ≡ false → list_any p xs ≡ false
none_follows p q [] follows none = refl
none_follows p q (x ∷ xs) follows none =
    let parts = first_or (q x) (list_any q xs) none in
    by_test (p x) (follows x) (q x) parts.0 (none_follows p q xs follows parts.1)
  where
    by_test : (a : Bool) → (a ≡ true → q x ≡ true) → (b : Bool) → q x ≡ false → list_any p xs ≡ false
        → (a || list_any p xs) ≡ false
    by_test true f b e rest = absurd (true≢false (sym (f refl) ∙ e))
    by_test false f b e rest = rest

any_or : {X : Type 0} (p q : X → Bool) (xs : List X)
    → list_any (λ x. p x || q x) xs ≡ (list_any p xs || list_any q xs)
any_or p q [] = refl
any_or p q (x ∷ xs) = by_tests (p x) (q x) (list_any p xs) (list_any q xs) (any_or p q xs)
  where
    by_tests : (a b c d : Bool) {e : Bool} → e ≡ (c || d) → ((a || b) || e) ≡ ((a || c) || (b || d))
    by_tests true b c d h = refl
    by_tests false true true d h = refl
    by_tests false true false d h = refl
    by_tests false false c d h = h

-- files whose layers have no fault
pub no_faulty : (p : ℕ) (layers : Data) (files : List TreeFile) → 0 < p
    → list_any (has_faulty_layer p layers) files ≡ false
    → (list_any (lacks_layer p layers) files ≡ false) × (list_any (is_misshaped p layers) files ≡ false)
    × (list_any (has_other_root p layers) files ≡ false)
no_faulty p layers files some none =
    let parts = first_or (list_any (is_misshaped p layers) files) (list_any (has_other_root p layers) files)
    (sym (any_or (is_misshaped p layers) (has_other_root p layers) files) ∙ none) in (
      none_follows (lacks_layer p layers) (is_misshaped p layers) files
          (λ file. absent_is_misshaped p layers file some) parts.0,
      parts.0,
      parts.1,
    )

-- a fault that is not of a length is of a root
pub other_faulty : (p : ℕ) (layers : Data) (files : List TreeFile)
    → list_any (has_faulty_layer p layers) files ≡ true → list_any (is_misshaped p layers) files ≡ false
    → list_any (has_other_root p layers) files ≡ true
other_faulty p layers files faulty shaped =
    ap (λ (b : Bool). b || list_any (has_other_root p layers) files) (sym shaped)
    ∙ sym (any_or (is_misshaped p layers) (has_other_root p layers) files) ∙ faulty

-- the same, of what was read
module _ (p q : ℕ) (layers all : Data) (files told : List TreeFile) (length_is : p ≡ q) (layers_are : layers ≡ all)
    (files_are : files ≡ told) where
  pub no_faulty_told : 0 < p → list_any (has_faulty_layer p layers) files ≡ false
      → (list_any (lacks_layer q all) told ≡ false) × (list_any (is_misshaped q all) told ≡ false)
      × (list_any (has_other_root q all) told ≡ false)
  no_faulty_told some none =
      no_faulty q all told (rw length_is at some) (rw (length_is, layers_are, files_are) at none)

  -- the least number of a fault
  pub fault_told : (refusal : Refusal) → list_any (has_faulty_layer p layers) files ≡ true
      → (list_any (lacks_layer p layers) files ≡ true → refusal ≡ LayerAbsent)
      → (list_any (lacks_layer p layers) files ≡ false → list_any (is_misshaped p layers) files ≡ true
      → refusal ≡ LayerLength)
      → (list_any (lacks_layer p layers) files ≡ false → list_any (is_misshaped p layers) files ≡ false
      → refusal ≡ LayerRoot)
      → option_map refusal_for (
      if list_any (lacks_layer q all) told then Some conditions.LayerAbsent else (
      if list_any (is_misshaped q all) told then Some conditions.LayerLength else (
      if list_any (has_other_root q all) told then Some conditions.LayerRoot else None))) ≡ Some refusal
  fault_told refusal faulty absent misshaped other =
      rw (sym length_is, sym layers_are, sym files_are)
      (by_tests (list_any (lacks_layer p layers) files) (list_any (is_misshaped p layers) files) absent misshaped other
      (other_faulty p layers files faulty))
    where
      by_tests : (a b : Bool) → (a ≡ true → refusal ≡ LayerAbsent) → (a ≡ false → b ≡ true → refusal ≡ LayerLength)
          → (a ≡ false → b ≡ false → refusal ≡ LayerRoot)
          → (b ≡ false → list_any (has_other_root p layers) files ≡ true)
          → option_map refusal_for (
          if a then Some conditions.LayerAbsent else (
          if b then Some conditions.LayerLength else (
          if list_any (has_other_root p layers) files then Some conditions.LayerRoot else None))) ≡ Some refusal
      by_tests true b f g h r = ap Some (sym (f refl))
      by_tests false true f g h r = ap Some (sym (g refl refl))
      by_tests false false f g h r = rw (r refl) (ap Some (sym (h refl refl)))
