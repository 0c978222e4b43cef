-- What is refused of a tree is refused of its bytes.
use Rattle.tor_check.proofs.Names.{◌≡◌, ◌∙◌, ◌++◌, ℕ, List, [], ap, inl, inr, refl, subst, sym, none-some}
use Rattle.tor_check.proofs.Names.{no_spelling_begins_another, Data, IsLawful, spelling, refusal_for, IsFirst}
use Rattle.tor_check.proofs.Names.{IsRefused, IsRefusedFor, Refusal, Memory, Condition, IsValid, refusal_of}
use Rattle.tor_check.proofs.Stages.{found}
use Rattle.tor_spec.specs.valid.Conditions as conditions

-- the refusal of a condition is answered as such
of_condition : (bytes : List ℕ) (condition : Condition) → IsRefused bytes (refusal_for condition)
    → IsRefusedFor bytes (refusal_for condition)
of_condition bytes conditions.RootShape refused = refused
of_condition bytes conditions.InfoShape refused = refused
of_condition bytes conditions.MetaVersion refused = refused
of_condition bytes conditions.PieceLength refused = refused
of_condition bytes conditions.Name refused = refused
of_condition bytes conditions.LengthAndFiles refused = refused
of_condition bytes conditions.FileShape refused = refused
of_condition bytes conditions.FileLength refused = refused
of_condition bytes conditions.Duplicate refused = refused
of_condition bytes conditions.FileAndFolder refused = refused
of_condition bytes conditions.NoFiles refused = refused
of_condition bytes conditions.TooLarge refused = refused
of_condition bytes conditions.Symlink refused = refused
of_condition bytes conditions.PiecesLength refused = refused
of_condition bytes conditions.MixedNode refused = refused
of_condition bytes conditions.RootHash refused = refused
of_condition bytes conditions.LayersAbsent refused = refused
of_condition bytes conditions.LayerAbsent refused = refused
of_condition bytes conditions.LayerLength refused = refused
of_condition bytes conditions.LayerRoot refused = refused
of_condition bytes conditions.FilesDiffer refused = refused
of_condition bytes conditions.Alignment refused = refused
of_condition bytes conditions.AttrDiffer refused = refused

pub refused_for : (bytes : List ℕ) (root : Data) (refusal : Refusal) → IsLawful root → bytes ≡ spelling root
    → IsFirst (refusal_of root) refusal → IsRefusedFor bytes refusal
refused_for bytes root refusal lawful spelled (inl memory) = subst (λ r. IsRefusedFor bytes r) (sym memory) tt
refused_for bytes root refusal lawful spelled (inr e) =
    let known = found (refusal_of root) refusal e in
    let refused : IsRefused bytes (refusal_for known.0) =
    record { root = root; lawful = lawful; spelled = spelled; condition = known.0; first = known.1; named = refl } in
    subst (λ r. IsRefusedFor bytes r) known.2 (of_condition bytes known.0 refused)

-- of a tree that valid bytes spell memory alone is refused
pub memory_alone : (bytes : List ℕ) (root : Data) (refusal : Refusal) → IsLawful root → bytes ≡ spelling root
    → IsFirst (refusal_of root) refusal → IsValid bytes → refusal ≡ Memory
memory_alone bytes root refusal lawful spelled (inl memory) valid = memory
memory_alone bytes root refusal lawful spelled (inr e) valid =
    let known = found (refusal_of root) refusal e in
    let text : spelling root ++ [] ≡ spelling valid.0 ++ [] =
    ap (λ text. text ++ []) (sym spelled ∙ valid.1.spelled) in
    let same : root ≡ valid.0 =
    (no_spelling_begins_another root valid.0 [] [] lawful valid.1.lawful text).0 in
    absurd (none-some known.0 (sym valid.1.accepted ∙ ap refusal_of (sym same) ∙ known.1))
