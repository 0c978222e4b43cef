-- The lines of siblings.
use Rattle.std.proofs.Common.{◌≡◌, ℕ, ◌+◌, ◌<◌, List, [], ◌∷◌, ◌++◌, length, take, get_or, sym, ap, subst, ◌∙◌, arith}
use Rattle.std.proofs.Common.{append_assoc}
use Rattle.std.specs.Prelude.{flat_map}
use Rattle.std.specs.List.{All}
use Rattle.std.proofs.lemmas.List.{flat_map_more, take_more}
use Rattle.std.proofs.lemmas.List.Elements.{All-append, All-cons, All-nil}
use Rattle.tor_cli.specs.proof.ProofText.{IsHash, sibling_line}

pub some_line : (sibling : List ℕ) → 0 < length (sibling_line sibling)
some_line sibling = omega arith

-- one more line was written
pub one_written : (head old new : List ℕ) (siblings : List (List ℕ)) (i : ℕ) → i < length siblings
    → old ≡ head ++ flat_map sibling_line (take i siblings) → new ≡ old ++ sibling_line (get_or siblings i [])
    → new ≡ head ++ flat_map sibling_line (take (i + 1) siblings)
one_written head old new siblings i within so_far line =
    let sibling = get_or siblings i [] in
    let first = flat_map sibling_line (take i siblings) in
    line
    ∙ ap (λ (xs : List ℕ). xs ++ sibling_line sibling) so_far
    ∙ append_assoc head first (sibling_line sibling)
    ∙ ap (λ (xs : List ℕ). head ++ xs)
    (flat_map_more sibling_line [] (take i siblings) sibling
    ∙ ap (λ hashes. flat_map sibling_line hashes) (sym (take_more siblings i [] within)))

-- and is of a hash
pub one_hash : (siblings : List (List ℕ)) (i : ℕ) → i < length siblings → All IsHash (take i siblings)
    → IsHash (get_or siblings i []) → All IsHash (take (i + 1) siblings)
one_hash siblings i within so_far is =
    subst (λ hashes. All IsHash hashes) (sym (take_more siblings i [] within))
    (All-append IsHash (take i siblings) (get_or siblings i [] ∷ []) so_far
    (All-cons IsHash (get_or siblings i []) [] is (All-nil IsHash)))
