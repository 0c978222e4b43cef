-- Lists by a range of numbers, as the pieces of a unit are: what each has, and what all have together.
use Rattle.std.proofs.Common.{◌≡◌, ◌<◌, ◌≤◌, ℕ, zero, suc, ◌+◌, ◌*◌, ◌-◌, min, List, [], ◌∷◌, ◌++◌, map, length, take}
use Rattle.std.proofs.Common.{drop, replicate, Option, arith, refl, ap, ap₂, sym, ◌∙◌}
use Rattle.std.specs.Int.{div_ceil}
use Rattle.std.specs.List.{flat_map, range_with_len}
use Rattle.std.specs.Option.{option_or}
use Rattle.std.proofs.Math.Seq.{take-add}
use Rattle.std.proofs.lemmas.List.{length-drop, length-take, length-take-le, take_all, take_min}
use Rattle.tor_merkle.specs.Block.{leaves, run_at}
use Rattle.tor_merkle.specs.Layer.{IsPieceLength, piece_level, piece_roots}
use Rattle.tor_merkle.specs.Stack.{padded_subtree}
use Rattle.tor_merkle.proofs.ProvedLaws.{below_from_ceil, piece_roots_of_units, root_of_short_content}
use Rattle.tor_plan.proofs.ProvedLaws.{runs_are}
use Rattle.tor_v1.specs.Piece.{piece_sums}
use Rattle.tor_v1.proofs.ProvedLaws.{piece_sums-nil, sums_of_joined}
use Rattle.tor_sums.specs.Fault.{first_of}
use Rattle.tor_sums.specs.steps.Each.{OweEach}

-- ---- one by one

pub owe_range : {U A : Type 0} (owes : U → A → List ℕ → Type 0) (f : ℕ → U) (g : ℕ → A) (h : ℕ → List ℕ) (a n : ℕ)
    → ((k : ℕ) → a ≤ k → k < a + n → owes (f k) (g k) (h k))
    → OweEach owes (map f (range_with_len a n)) (map g (range_with_len a n)) (flat_map h (range_with_len a n))
unfolding OweEach
owe_range owes f g h a zero each = refl
owe_range owes f g h a (suc n) each = (
  h a,
  flat_map h (range_with_len (a + 1) n),
  each a (omega arith) (omega arith),
  owe_range owes f g h (a + 1) n (λ k from to. each k (omega (arith, from)) (omega (arith, to))),
  refl,
)

pub first_same : {X B : Type 0} (f g : X → Option B) (r : ℕ → X) (a n : ℕ)
    → ((k : ℕ) → a ≤ k → k < a + n → f (r k) ≡ g (r k))
    → first_of f (map r (range_with_len a n)) ≡ first_of g (map r (range_with_len a n))
unfolding first_of
first_same f g r a zero same = refl
first_same f g r a (suc n) same =
    ap₂ (λ x y. option_or x y) (same a (omega arith) (omega arith))
    (first_same f g r (a + 1) n (λ k from to. same k (omega (arith, from)) (omega (arith, to))))

flat_same : {X Y : Type 0} (f : X → List Y) (r : ℕ → X) (h : ℕ → List Y) (a n : ℕ)
    → ((k : ℕ) → a ≤ k → k < a + n → f (r k) ≡ h k)
    → flat_map f (map r (range_with_len a n)) ≡ flat_map h (range_with_len a n)
flat_same f r h a zero same = refl
flat_same f r h a (suc n) same =
    ap₂ (λ xs ys. xs ++ ys) (same a (omega arith) (omega arith))
    (flat_same f r h (a + 1) n (λ k from to. same k (omega (arith, from)) (omega (arith, to))))

flat_ones : {X Y : Type 0} (f : X → List Y) (r : ℕ → X) (g : ℕ → Y) (a n : ℕ)
    → ((k : ℕ) → a ≤ k → k < a + n → f (r k) ≡ g k ∷ [])
    → flat_map f (map r (range_with_len a n)) ≡ map g (range_with_len a n)
flat_ones f r g a zero same = refl
flat_ones f r g a (suc n) same =
    ap₂ (λ xs ys. xs ++ ys) (same a (omega arith) (omega arith))
    (flat_ones f r g (a + 1) n (λ k from to. same k (omega (arith, from)) (omega (arith, to))))

abbrev nothing : ℕ → List ℕ
nothing k = []

pub flat_none : (ks : List ℕ) → [] ≡ flat_map nothing ks
flat_none [] = refl
flat_none (k ∷ ks) = flat_none ks

pub same_each : {X : Type 0} (x : X) (a n : ℕ) → replicate n x ≡ map (λ k. x) (range_with_len a n)
same_each x a zero = refl
same_each x a (suc n) = ap (λ xs. x ∷ xs) (same_each x (a + 1) n)

pub map_twice : {X Y Z : Type 0} (f : Y → Z) (g : X → Y) (xs : List X) → map f (map g xs) ≡ map (λ x. f (g x)) xs
map_twice f g [] = refl
map_twice f g (x ∷ xs) = ap (λ ys. f (g x) ∷ ys) (map_twice f g xs)

-- ---- runs of bytes

pub run_length : (p k : ℕ) (xs : List ℕ) → length (run_at p xs k) ≡ min (length xs - k * p) p
run_length p k xs = omega (arith, length-take p (drop (k * p) xs), length-drop (k * p) xs)

-- the roots of the pieces of a content, and the SHA-1s
module _ (p : ℕ) (content : List ℕ) (some : 0 < p) where
  within : (k : ℕ) → k < div_ceil (length content) p → 0 < length (run_at p content k)
  within k less = omega (arith, run_length p k content, below_from_ceil (length content) p k some less, some)

  short : (k : ℕ) → length (run_at p content k) ≤ p
  short k = omega (arith, run_length p k content)

  pub roots_by_run : IsPieceLength p → piece_roots content p
      ≡ map (λ k. padded_subtree (piece_level p) 0 (leaves (run_at p content k)))
      (range_with_len 0 (div_ceil (length content) p))
  roots_by_run allowed =
      sym (piece_roots_of_units content p 1 allowed (omega arith))
      ∙ ap (λ size. flat_map (λ unit. piece_roots unit p) (map (run_at size content)
      (range_with_len 0 (div_ceil (length content) size)))) (let e : 1 * p ≡ p = omega arith in e)
      ∙ flat_ones (λ unit. piece_roots unit p) (run_at p content)
      (λ k. padded_subtree (piece_level p) 0 (leaves (run_at p content k))) 0 (div_ceil (length content) p)
      (λ k from to. root_of_short_content (run_at p content k) p allowed (within k (omega (arith, to))) (short k))

  runs_of_sums : flat_map (piece_sums p) (map (run_at p content) (range_with_len 0 (div_ceil (length content) p)))
      ≡ piece_sums p content
  runs_of_sums =
      runs_are (piece_sums p) (run_at p content) (λ n. piece_sums p (take n content)) (length content) p some
      (λ k less.
      let next : min (k * p + p) (length content) ≡ min (length content) ((k + 1) * p) = omega arith in
      sym (sums_of_joined p k (take (k * p) content) (run_at p content k) some
      (length-take-le (k * p) content (omega (arith, less))))
      ∙ ap (piece_sums p) (sym (take-add (k * p) p content) ∙ sym (take_min (k * p + p) content)
      ∙ ap (λ n. take n content) next))
      (piece_sums-nil p some)
      ∙ ap (piece_sums p) (take_all (length content) content (omega arith))

  pub sums_by_run : piece_sums p content
      ≡ flat_map (λ k. piece_sums p (run_at p content k)) (range_with_len 0 (div_ceil (length content) p))
  sums_by_run =
      sym runs_of_sums
      ∙ flat_same (piece_sums p) (run_at p content) (λ k. piece_sums p (run_at p content k)) 0
      (div_ceil (length content) p) (λ k from to. refl)
