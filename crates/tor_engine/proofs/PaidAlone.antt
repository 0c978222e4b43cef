-- A piece or a unit by itself gets all that its worker owes.
use Rattle.std.proofs.Common.{◌≡◌, ◌++◌, ℕ, List, [], ◌∷◌, Option, ap, append-nil, is_some, refl, subst, sym}
use Rattle.std.proofs.Common.{◌∙◌}
use Rattle.tor_plan.specs.PlanFacts.{PlanFacts}
use Rattle.tor_plan.specs.declared.units.PlanUnit.{PlanUnit}
use Rattle.tor_source.specs.Source.{SourceFacts}
use Rattle.tor_sums.specs.steps.Each.{OweEach}
use Rattle.tor_engine.specs.declared.pieces.piece_hash.FoundPiece.{FoundPiece}
use Rattle.tor_engine.specs.declared.pieces.piece_hash.FoundPiece.TheVariants.{Hashed, Missing, Unsummed}
use Rattle.tor_engine.specs.steps.Pieces.{hashes_in, owed_to_piece, paid_piece}
use Rattle.tor_engine.specs.steps.Unsummed.{FindsPiece}

pub owe_one : {U A : Type 0} (owes : U → A → List ℕ → Type 0) (unit : U) (one : A) (owed : List ℕ)
    → OweEach owes (unit ∷ []) (one ∷ []) owed → owes unit one owed
unfolding OweEach
owe_one owes unit one owed each =
    let all : each.0 ≡ owed = sym (append-nil each.0) ∙ ap (λ xs. each.0 ++ xs) (sym each.3) ∙ each.4 in
    subst (λ (own : List ℕ). owes unit one own) all each.2

nothing_left : (found : FoundPiece) (own : List ℕ) → owed_to_piece (paid_piece found own) ≡ 0
nothing_left Missing own = refl
nothing_left (Hashed hashes) own = refl
nothing_left (Unsummed v2) own = refl

paid_once : (found : FoundPiece) (own : List ℕ) → paid_piece (paid_piece found own) [] ≡ paid_piece found own
paid_once Missing own = refl
paid_once (Hashed hashes) own = refl
paid_once (Unsummed v2) own = refl

same_there : (found : FoundPiece) (own : List ℕ)
    → is_some (hashes_in (paid_piece found own)) ≡ is_some (hashes_in found)
same_there Missing own = refl
same_there (Hashed hashes) own = refl
same_there (Unsummed v2) own = refl

-- a piece that got its own, of which nothing is owed any more
pub piece_alone : {F : Type 0} (is_steady : SourceFacts F → Type 0) (plan : PlanFacts) (told : List (Option ℕ))
    (piece : PlanUnit) (found : FoundPiece) (own : List ℕ) → FindsPiece is_steady plan told piece found own
    → FindsPiece is_steady plan told piece (paid_piece found own) []
piece_alone is_steady plan told piece found own finds = record {
  steady = λ facts steady are. ap hashes_in (paid_once found own) ∙ finds.steady facts steady are;
  there = same_there found own ∙ finds.there;
  long = nothing_left found own;
}
