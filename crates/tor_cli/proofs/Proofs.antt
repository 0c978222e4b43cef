-- Why a piece has no proof.
use Rattle.std.proofs.Common.{◌≡◌, ◌∙◌, refl, sym, ap, subst, ℕ, List, Option, None, Some}
use Rattle.std.specs.Option.{ForSome}
use Rattle.std.specs.Prelude.{IfErr, IsSomeAnd, Result, Ok, Err}
use Rattle.tor_check.specs.PieceProofs.{piece_refusal}
use Rattle.tor_check.specs.Valid.{IsTold}
use Rattle.tor_check.specs.declared.piece_proofs.ProveError.{ProveError}
use Rattle.tor_check.specs.declared.piece_proofs.ProveError.TheVariants as pieces
use Rattle.tor_spec.specs.valid.View.{View}
use Rattle.tor_cli.specs.proof.Proving.{IsNotProved}
use Rattle.tor_cli.specs.Status.{of_piece_error}

abbrev fault_in : {A : Type 0} → Result A ProveError → ProveError → ProveError
fault_in (Ok answer) other = other
fault_in (Err error) other = error

module _ (file index : ℕ) (bytes : List ℕ) (view : View) (told : IsTold bytes view) where
  -- the refusal is of the tree that the torrent is
  refused : (error : ProveError) → piece_refusal view file index ≡ Some error
      → IsNotProved file index bytes (of_piece_error error)
  refused pieces.Index is =
      (told.0, told.1, subst (λ v. piece_refusal v file index ≡ Some pieces.Index) told.2 is)
  refused pieces.NoTree is =
      (told.0, told.1, subst (λ v. piece_refusal v file index ≡ Some pieces.NoTree) told.2 is)
  refused pieces.Memory is = tt

  by_refusal : {A : Type 0} (found : Option ProveError) → piece_refusal view file index ≡ found
      → (result : Result A ProveError) (error : ProveError) → result ≡ Err error
      → ForSome found (λ fault. result ≡ Err fault) → (found ≡ None → IfErr result (λ fault. fault ≡ pieces.Memory))
      → IsNotProved file index bytes (of_piece_error error)
  by_refusal None is result error failed failing memory =
      let wanting : error ≡ pieces.Memory =
      subst (λ r. IfErr r (λ fault. fault ≡ pieces.Memory)) failed (memory refl) in
      rw wanting tt
  by_refusal (Some fault) is result error failed failing memory =
      let same : error ≡ fault = ap (λ r. fault_in r fault) (sym failed ∙ failing fault refl) in
      refused error (is ∙ ap Some (sym same))

  pub not_proved : {A : Type 0} (result : Result A ProveError) (error : ProveError) → result ≡ Err error
      → ForSome (piece_refusal view file index) (λ fault. result ≡ Err fault)
      → (piece_refusal view file index ≡ None → IfErr result (λ fault. fault ≡ pieces.Memory))
      → IsNotProved file index bytes (of_piece_error error)
  not_proved result error failed failing memory =
      by_refusal (piece_refusal view file index) refl result error failed failing memory

-- where there is an answer there is no refusal
pub none_refused : {A : Type 0} (found : Option ProveError) (result : Result A ProveError) (answer : A)
    → result ≡ Ok answer → ForSome found (λ fault. result ≡ Err fault) → found ≡ None
none_refused None result answer is failing = refl
none_refused (Some fault) result answer is failing = let bad : Ok answer ≡ Err fault = sym is ∙ failing fault refl in cc

pub weaker : {A : Type 0} (found : Option A) (P Q : A → Type 0) → ((x : A) → P x → Q x) → IsSomeAnd found P
    → IsSomeAnd found Q
weaker None P Q by is = is
weaker (Some x) P Q by is = by x is
