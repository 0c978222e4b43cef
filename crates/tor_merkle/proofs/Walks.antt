-- The step by which a walk makes a struct of one field that takes no memory. Assumes `Logic`.
use Rattle.tor_merkle.proofs.Names.{List, [], ◌∷◌, refl, Ura, Val, vstruct, vcons, vnil, Logic, Goal, Step, step, Item}
use Rattle.tor_merkle.proofs.Names.{‵, ◌$◌, move, fjoin, fpack, feq_i, RattleType, Valss, nothing, Struct, within}

abbrev pub none : Val
none = vstruct vnil

abbrev pub one : Val → Val
one v = vstruct (vcons v vnil)

-- a struct by its field alone: what it owns does not read its name
abbrev pub of_one : RattleType → RattleType
of_one R = Struct (record { name = []; args = []; types = []; fields = R ∷ [] })

pub one_made : {M : Type 1} {𝓤 : Ura M} {𝓛 : Logic 𝓤} {K : Type 0} {Γ : List (Item 𝓤)} {G : Goal 𝓤 𝓛.H}
    → K → (R : RattleType) (x : R.Denot) (v : Val)
    → Step K 𝓛 (‵ ((of_one R).own_val (x, tt) (one v ∷ [])) ∷ Γ) G (‵ (R.own_val x (v ∷ [])) ∷ Γ) G
one_made t R x v = step (λ s.
    nothing t $ move t (1 ∷ 0 ∷ []) $ fjoin t $ feq_i t (List Val) (one v ∷ []) (one v ∷ []) refl $ fjoin t $
    fpack t (Valss (R ∷ []))
    (within (record { name = []; args = []; types = []; fields = R ∷ [] }) (x, tt) (one v ∷ []))
    (v ∷ [], tt) $ s)
