-- What becomes of files that are looked for one by one.
use Rattle.std.specs.Prelude.{◌≡◌, ◌⊎◌, ℕ, List, [], ◌∷◌}
use Rattle.tor_source.specs.Places.{names_bytes}
use Rattle.tor_source.specs.declared.refused.Refused.{Refused}

-- the bytes of the path of what was refused
abbrev pub path_of : Refused → List ℕ
path_of one = one.path.items

-- of these files each in its turn was taken, or refused: these are the paths of those that were taken, and the bytes of
-- the paths of the others (profile)
abbrev pub AreParted : List (List (List ℕ)) → List (List (List ℕ)) → List (List ℕ) → Type 0
AreParted [] taken refused = (taken ≡ []) × (refused ≡ [])
AreParted (file ∷ files) taken refused =
    ((rest : List (List (List ℕ))) × (taken ≡ file ∷ rest) × AreParted files rest refused)
    ⊎ ((rest : List (List ℕ)) × (refused ≡ names_bytes file ∷ rest) × AreParted files taken rest)
