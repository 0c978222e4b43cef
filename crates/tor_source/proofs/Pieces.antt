-- A listing's first piece, and the pieces of the rest.
use Rattle.std.proofs.Common.{◌≡◌, ℕ, suc, ◌-◌, ◌<◌, ◌==◌, ◌⊎◌, inl, inr, nat_lt, Bool, true, false, cond, Option, Some}
use Rattle.std.proofs.Common.{None, IfSome, List, [], ◌∷◌, ◌++◌, length, take, refl, sym, ap, ◌∙◌, arith, append-nil}
use Rattle.std.proofs.Common.{append_assoc}
use Rattle.std.specs.Prelude.{slice_index, ⊤}
use Rattle.std.proofs.lemmas.Bool.{lt-ltb}
use Rattle.std.specs.Io.KnownBytes.{IsAtEnd}
use Rattle.std.specs.Io.BufRead.{DropsThrough, drop_through, first_piece, strip_last, take_through}
use Rattle.std.specs.List.{filter}
use Rattle.tor_source.specs.steps.Listing.{is_listed, names_in, pieces}

cond_cons : {X : Type 0} (b : Bool) (x : X) (ys zs : List X) → cond b (x ∷ ys) (x ∷ zs) ≡ x ∷ cond b ys zs
cond_cons true x ys zs = refl
cond_cons false x ys zs = refl

strip_cons : (x : ℕ) (xs : List ℕ) → (x == 0) ≡ false → strip_last 0 (x ∷ xs) ≡ x ∷ strip_last 0 xs
strip_cons x [] e = rw e refl
strip_cons x (y ∷ xs) e =
    let longer : length (x ∷ y ∷ xs) - 1 ≡ suc (length xs) = omega arith in
    let long : length (y ∷ xs) - 1 ≡ length xs = omega arith in
    let some : nat_lt 0 (length (x ∷ y ∷ xs)) ≡ true = lt-ltb 0 (length (x ∷ y ∷ xs)) (omega arith) in
    let also : nat_lt 0 (length (y ∷ xs)) ≡ true = lt-ltb 0 (length (y ∷ xs)) (omega arith) in
    rw (longer, long, some, also)
    (cond_cons (slice_index (y ∷ xs) (length xs) == 0) x (take (length xs) (y ∷ xs)) (y ∷ xs))

-- the first piece, and those of what follows its zero byte; or it is the only one
abbrev Parts : List ℕ → Type 0
Parts xs = (pieces xs ≡ first_piece 0 xs ∷ pieces (drop_through 0 xs)) ⊎
    ((pieces xs ≡ first_piece 0 xs ∷ []) × (drop_through 0 xs ≡ []))

parts : (xs : List ℕ) → Parts xs
parts [] = inr (refl, refl)
parts (x ∷ xs) = by_test (parts xs) (x == 0) refl
  where
    by_test : Parts xs → (b : Bool) → (x == 0) ≡ b → Parts (x ∷ xs)
    by_test more true e = inl (rw (e, e) refl)
    by_test more false e =
        let stripped = strip_cons x (take_through 0 xs) e in
        elim more [
          | inl more ↦ inl (rw (e, stripped, more) refl)
          | inr last ↦ inr (rw (e, stripped, last.0) refl, rw (e, last.1) refl)
        ]

pub names_first : (xs : List ℕ) → names_in xs ≡ filter is_listed (first_piece 0 xs ∷ []) ++ names_in (drop_through 0 xs)
names_first xs = elim (parts xs) [
  | inl more ↦ rw more (filter_cons is_listed (first_piece 0 xs) (pieces (drop_through 0 xs)))
  | inr last ↦ rw (last.0, last.1) (sym (append-nil (filter is_listed (first_piece 0 xs ∷ []))))
]
  where
    filter_cons : (p : List ℕ → Bool) (x : List ℕ) (xs : List (List ℕ))
        → filter p (x ∷ xs) ≡ filter p (x ∷ []) ++ filter p xs
    filter_cons p x xs = by_test (p x)
      where
        by_test : (b : Bool) → cond b (x ∷ filter p xs) (filter p xs) ≡ cond b (x ∷ []) [] ++ filter p xs
        by_test true = refl
        by_test false = refl

-- these are the names of what was read of a listing that is known, and so is what is left of it
abbrev pub HasRead : Option (List ℕ) → Option (List ℕ) → List (List ℕ) → Type 0
HasRead None left names = ⊤
HasRead (Some listing) None names = ⊥
HasRead (Some listing) (Some rest) names = names_in listing ≡ names ++ names_in rest

pub read_none : (known left : Option (List ℕ)) → left ≡ known → HasRead known left []
read_none known left same = rw same (itself known)
  where
    itself : (known : Option (List ℕ)) → HasRead known known []
    itself None = tt
    itself (Some listing) = refl

-- one more piece
pub read_more : (known old new : Option (List ℕ)) (names : List (List ℕ)) (piece : List ℕ) (byte : ℕ) → byte ≡ 0
    → HasRead known old names → IfSome old (λ xs. (0 < length xs) × (piece ≡ first_piece byte xs))
    → DropsThrough old new byte → HasRead known new (names ++ filter is_listed (piece ∷ []))
read_more None old new names piece byte zero read is rest = tt
read_more (Some listing) None new names piece byte zero read is rest = absurd read
read_more (Some listing) (Some xs) new names piece byte zero read is rest =
    rw (rest, zero, is.1, zero)
    (read ∙ ap (λ more. names ++ more) (names_first xs) ∙ sym
    (append_assoc names (filter is_listed (first_piece 0 xs ∷ [])) (names_in (drop_through 0 xs))))

pub read_all : (known left : Option (List ℕ)) (names : List (List ℕ)) → HasRead known left names → IsAtEnd left
    → IfSome known (λ listing. names ≡ names_in listing)
read_all None left names read end = tt
read_all (Some listing) None names read end = absurd read
read_all (Some listing) (Some xs) names read end =
    sym (read ∙ ap (λ rest. names ++ names_in rest) end ∙ append-nil names)
