-- What is known of each of a list, and of one more; and what of any source may be answered.
use Rattle.std.proofs.Common.{◌≡◌, ◌<◌, ◌⊎◌, ℕ, zero, suc, List, [], ◌∷◌, ◌++◌, length, get_or, arith, Option, None}
use Rattle.std.proofs.Common.{Some, inl, inr, subst, sym}
use Rattle.std.specs.Prelude.{Err, IfErr, Ok, Result}
use Rattle.tor_source.specs.Answers.{Answers}
use Rattle.tor_sums.specs.Given.{HasTold, IsGivenNotMissing, IsGivenPieces, IsGivenRead}
use Rattle.tor_sums.specs.steps.Given.{IsGivenKnown, IsGivenLength}
use Rattle.tor_sums.specs.declared.errors.EngineError.{EngineError}
use Rattle.tor_sums.specs.declared.errors.EngineError.TheVariants.{Changed, Missing, Read, Resources, StreamTooLong}

-- each of a list by its index, and one more
pub each_more : {A : Type 0} (P : ℕ → A → Type 0) (xs : List A) (x d : A)
    → ((k : ℕ) → k < length xs → P k (get_or xs k d)) → P (length xs) x
    → (k : ℕ) → k < length (xs ++ x ∷ []) → P k (get_or (xs ++ x ∷ []) k d)
each_more P [] x d each last zero less = last
each_more P [] x d each last (suc k) less = absurd (omega (arith, less))
each_more P (y ∷ xs) x d each last zero less = each zero (omega arith)
each_more P (y ∷ xs) x d each last (suc k) less =
    each_more (λ n. P (suc n)) xs x d (λ n there. each (suc n) (omega (arith, there))) last k (omega (arith, less))

-- an error of which something holds by each of some choices
pub err_all : {T E A : Type 0} (result : Result T E) (I : A → Type 0) (P : A → E → Type 0)
    → ((a : A) → I a → IfErr result (P a)) → IfErr result (λ error. (a : A) → I a → P a error)
err_all (Ok one) I P each = tt
err_all (Err error) I P each = each

-- what is given where bytes are read is given of files of these lengths
pub not_missing : {F : Type 0} (answers : Answers F) (lengths : List ℕ) (error : EngineError F)
    → IsGivenRead answers lengths error → IsGivenNotMissing answers lengths error
not_missing answers lengths (Read file None fault) given = absurd given.0
not_missing answers lengths (Read file (Some start) fault) given = (given.0.0, given.1)
not_missing answers lengths (Changed file) given = (inr given.0, given.1)
not_missing answers lengths (Missing file) given = absurd given.0
not_missing answers lengths Resources given = tt
not_missing answers lengths (StreamTooLong file) given = absurd given

-- an error that asking for the lengths may give, hashing the pieces may give too
length_given_all : {F : Type 0} (answers : Answers F) (count : ℕ) (error : EngineError F)
    → IsGivenLength answers count error → IsGivenPieces answers count error
length_given_all answers count (Read file None fault) given = given
length_given_all answers count (Read file (Some start) fault) given = absurd given
length_given_all answers count (Changed file) given = absurd given
length_given_all answers count (Missing file) given = absurd given
length_given_all answers count Resources given = tt
length_given_all answers count (StreamTooLong file) given = absurd given

pub length_given : {F : Type 0} (answers : Answers F) (count : ℕ) (error : EngineError F)
    → (error ≡ Resources) ⊎ IsGivenLength answers count error → IsGivenPieces answers count error
length_given answers count error given = elim given [
  | inl memory ↦ subst (λ e. IsGivenPieces answers count e) (sym memory) tt
  | inr length ↦ length_given_all answers count error length
]

-- and one that is given of files of which these sizes were told
pub known_given : {F : Type 0} (answers : Answers F) (sizes : List (Option ℕ)) (count : ℕ) (error : EngineError F)
    → length sizes ≡ count → HasTold answers sizes → IsGivenKnown answers sizes error
    → IsGivenPieces answers count error
known_given answers sizes count (Read file start fault) long told given =
    (given.0, subst (λ n. file < n) long given.1)
known_given answers sizes count (Changed file) long told given =
    ((get_or sizes file None, told file given.1, given.0), subst (λ n. file < n) long given.1)
known_given answers sizes count (Missing file) long told given = absurd given.0
known_given answers sizes count Resources long told given = tt
known_given answers sizes count (StreamTooLong file) long told given = absurd given
