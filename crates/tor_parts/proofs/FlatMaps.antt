-- Lists that are joined as they come.
use Rattle.std.proofs.Common.{◌≡◌, ◌<◌, ℕ, ◌+◌, List, [], ◌∷◌, ◌++◌, append-nil, ap, ap₂, get_or, length, sym, take}
use Rattle.std.proofs.Common.{◌∙◌}
use Rattle.std.proofs.lemmas.Grind.{flat_map-append}
use Rattle.std.proofs.lemmas.List.{take_more}
use Rattle.std.specs.List.{flat_map}

pub joined_more : {X A : Type 0} (f : X → List A) (xs : List X) (i : ℕ) (d : X) (old : List A) → i < length xs
    → old ≡ flat_map f (take i xs) → old ++ f (get_or xs i d) ≡ flat_map f (take (i + 1) xs)
joined_more f xs i d old within before =
    ap₂ (λ ys zs. ys ++ zs) before (sym (append-nil (f (get_or xs i d))))
    ∙ sym (flat_map-append f (take i xs) (get_or xs i d ∷ []))
    ∙ ap (flat_map f) (sym (take_more xs i d within))
