-- What a tree of which no condition holds keeps to: its piece length, its lengths, and the alignment of its files.
use Rattle.tor_view.proofs.Names.{◌≡◌, ℕ, ℤ, pos, negsuc, ◌<◌, true, false, Bool, not, ◌&&◌, List, [], ◌∷◌, Option}
use Rattle.tor_view.proofs.Names.{None, Some, arith, codes, cond, find, get_or, lit<, nat_le, refl, unsigned_abs}
use Rattle.tor_view.proofs.Names.{unwrap_or, AllByRecursion, and_parts, leb-true, not-false, or_parts}
use Rattle.tor_view.proofs.Names.{All-from_recursion, All-get_or, Data, value_of, is_piece_length}
use Rattle.tor_view.proofs.Names.{piece_length_bounds, IsPlanPieceLength, conditions, holds, refusal_of}
use Rattle.tor_view.proofs.Names.{is_no_piece_length, list_too_large, info_of, kind_of, piece_length_of, alignment}
use Rattle.tor_view.proofs.Names.{files_differ, tree_too_large, has_v1, has_v2, as_integer, Kind, V1, V2, Hybrid}
use Rattle.tor_view.proofs.Names.{IsV1PieceLength, max_piece_length}
use Rattle.tor_spec.specs.valid.Conditions as named

-- ---- one condition

-- what is not found holds of none
found_in_front : {C : Type 0} (p : C → Bool) (c : C) (cs : List C)
    → (find p cs ≡ None → AllByRecursion (λ c. p c ≡ false) cs)
    → find p (c ∷ cs) ≡ None → AllByRecursion (λ c. p c ≡ false) (c ∷ cs)
found_in_front {C} p c cs rest = by_test (p c) refl
  where
    by_test : (b : Bool) → p c ≡ b → cond b (Some c) (find p cs) ≡ None → AllByRecursion (λ c. p c ≡ false) (c ∷ cs)
    by_test true is e = absurd cc
    by_test false is e = (is, rest e)

found_none : {C : Type 0} (p : C → Bool) (cs : List C) → find p cs ≡ None → AllByRecursion (λ c. p c ≡ false) cs
found_none p [] e = tt
found_none p (c ∷ cs) e = found_in_front p c cs (found_none p cs) e

-- the condition at an index of the row, counted from V2, does not hold
not_held : (root : Data) → refusal_of root ≡ None → (i : ℕ) → i < 23
    → holds root (get_or conditions i named.RootShape) ≡ false
not_held root none i within =
    All-get_or (λ c. holds root c ≡ false) conditions i named.RootShape within
    (All-from_recursion (λ c. holds root c ≡ false) conditions (found_none (holds root) conditions none))

-- of a side that is there
of_side : (there fault : Bool) → (there && fault) ≡ false → there ≡ true → fault ≡ false
of_side true fault none is = none
of_side false fault none is = cc

-- ---- the piece length

v1_piece_length : (n : ℕ) → not (nat_le 1 n && nat_le n max_piece_length) ≡ false → IsV1PieceLength n
v1_piece_length n right =
    let both = not-false (nat_le 1 n && nat_le n max_piece_length) right in
    let bounds = and_parts (nat_le 1 n) (nat_le n max_piece_length) both in
    (leb-true 1 n bounds.0, leb-true n max_piece_length bounds.1)

allowed_number : (kind : Kind) (n : ℕ) → not (nat_le 1 n && nat_le n max_piece_length) ≡ false
    → (has_v2 kind ≡ true → not (is_piece_length n) ≡ false) → IsPlanPieceLength kind n
allowed_number V1 n bounds tree = v1_piece_length n bounds
allowed_number V2 n bounds tree = (piece_length_bounds n).0 (not-false (is_piece_length n) (tree refl))
allowed_number Hybrid n bounds tree = (piece_length_bounds n).0 (not-false (is_piece_length n) (tree refl))

allowed_by : (kind : Kind) (found : Option ℤ) → is_no_piece_length kind found ≡ false
    → IsPlanPieceLength kind (unsigned_abs (unwrap_or found (pos 0)))
allowed_by kind None right = cc
allowed_by kind (Some (negsuc n)) right = cc
allowed_by kind (Some (pos n)) right =
    let bounds = not (nat_le 1 n && nat_le n max_piece_length) in
    let parts = or_parts bounds (has_v2 kind && not (is_piece_length n)) right in
    allowed_number kind n parts.0 (of_side (has_v2 kind) (not (is_piece_length n)) parts.1)

-- ---- all of them

-- of the sides that a kind has
pub record IsKept (kind : Kind) (info : Data) : Type 0 where
  pub pieces : IsPlanPieceLength kind (piece_length_of info)
  pub list : has_v1 kind ≡ true → list_too_large info ≡ false
  pub tree : has_v2 kind ≡ true → tree_too_large info ≡ false
  pub files : has_v1 kind ≡ true → has_v2 kind ≡ true → files_differ info ≡ false
  pub aligned : has_v1 kind ≡ true → has_v2 kind ≡ true → alignment info ≡ false

pub kept : (root : Data) → refusal_of root ≡ None → IsKept (kind_of (info_of root)) (info_of root)
kept root none =
    let info = info_of root in
    let v1 = has_v1 (kind_of info) in
    let v2 = has_v2 (kind_of info) in
    let large = or_parts (v1 && list_too_large info) (v2 && tree_too_large info) (not_held root none 11 (lit< tt)) in
    let differ = of_side v1 (v2 && files_differ info) (not_held root none 20 (lit< tt)) in
    let misaligned = of_side v1 (v2 && alignment info) (not_held root none 21 (lit< tt)) in
    record {
      pieces = allowed_by (kind_of info) (as_integer (value_of (codes "piece length") info))
          (not_held root none 3 (lit< tt));
      list = of_side v1 (list_too_large info) large.0;
      tree = of_side v2 (tree_too_large info) large.1;
      files = λ one two. of_side v2 (files_differ info) (differ one) two;
      aligned = λ one two. of_side v2 (alignment info) (misaligned one) two;
    }

-- a piece has some bytes
pub some_bytes : (root : Data) → refusal_of root ≡ None → 0 < piece_length_of (info_of root)
some_bytes root none = by_kind (kind_of (info_of root)) (piece_length_of (info_of root)) (kept root none).pieces
  where
    by_kind : (kind : Kind) (n : ℕ) → IsPlanPieceLength kind n → 0 < n
    by_kind V1 n allowed = omega (arith, allowed.0)
    by_kind V2 n allowed = omega (arith, allowed.1)
    by_kind Hybrid n allowed = omega (arith, allowed.1)
