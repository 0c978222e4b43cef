-- The names of a path with `/` between them, and the first of them found again.
use Rattle.std.proofs.Common.{◌≡◌, ◌<◌, ◌≤◌, ◌+◌, ℕ, zero, suc, List, [], ◌∷◌, ◌++◌, append_assoc, get_or, length, take}
use Rattle.std.proofs.Common.{refl, ap, sym, ◌∙◌, arith}
use Rattle.std.proofs.lemmas.List.{length-take-le, take_more}
use Rattle.tor_meta.specs.PlanText.{path_text}
use Rattle.tor_tree.specs.Name.{slash}

-- one name more
pub joined_more : (names : List (List ℕ)) (name : List ℕ) → 0 < length names
    → path_text (names ++ name ∷ []) ≡ (path_text names ++ slash ∷ []) ++ name
joined_more [] name some = absurd (omega (arith, some))
joined_more (one ∷ []) name some = sym (append_assoc one (slash ∷ []) name)
joined_more (one ∷ next ∷ names) name some =
    ap (λ (bytes : List ℕ). one ++ (slash ∷ bytes)) (joined_more (next ∷ names) name (omega arith))
    ∙ sym (append_assoc one (slash ∷ (path_text (next ∷ names) ++ slash ∷ [])) name)
    ∙ ap (λ (bytes : List ℕ). bytes ++ name) (sym (append_assoc one (slash ∷ path_text (next ∷ names)) (slash ∷ [])))

pub first_more : (names : List (List ℕ)) (n : ℕ) (d : List ℕ) → n < length names → n ≤ 0
    → path_text (take (n + 1) names) ≡ path_text (take n names) ++ get_or names n d
first_more [] n d there none = absurd (omega (arith, there))
first_more (name ∷ names) zero d there none = refl
first_more (name ∷ names) (suc n) d there none = absurd (omega (arith, none))

pub more_taken : (names : List (List ℕ)) (n : ℕ) (d : List ℕ) → n < length names → 0 < n
    → path_text (take (n + 1) names) ≡ (path_text (take n names) ++ slash ∷ []) ++ get_or names n d
more_taken names n d there some =
    ap path_text (take_more names n d there)
    ∙ joined_more (take n names) (get_or names n d) (omega (arith, some, there, length-take-le n names (omega (arith, there))))
