-- Files that are taken or refused in their turn.
use Rattle.std.proofs.Common.{◌≡◌, ◌+◌, ◌<◌, ◌∷◌, ◌⊎◌, [], List, ℕ, ap, arith, inl, inr, length, refl, subst, sym}
use Rattle.std.specs.List.{AllByRecursion}
use Rattle.std.specs.List.Sorted.{IsStrictlySortedBy}
use Rattle.std.specs.declared.cmp.Ordering.TheVariants.{Less}
use Rattle.tor_source.specs.Named.{AreParted}
use Rattle.tor_tree.specs.Path.{path_cmp}

-- what is so of all files is so of those that are taken
each_taken : (P : List (List ℕ) → Type 0) (files taken : List (List (List ℕ))) (refused : List (List ℕ))
    → AreParted files taken refused → AllByRecursion P files → AllByRecursion P taken
each_taken P [] taken refused parts each = subst (AllByRecursion P) (sym parts.0) tt
each_taken P (file ∷ files) taken refused (inl (rest, same, parts)) each =
    subst (AllByRecursion P) (sym same) (each.0, each_taken P files rest refused parts each.1)
each_taken P (file ∷ files) taken refused (inr (rest, same, parts)) each =
    each_taken P files taken rest parts each.1

-- so they rise as all do
pub taken_rise : (files taken : List (List (List ℕ))) (refused : List (List ℕ)) → AreParted files taken refused
    → IsStrictlySortedBy path_cmp files → IsStrictlySortedBy path_cmp taken
unfolding IsStrictlySortedBy
taken_rise [] taken refused parts rise = subst (IsStrictlySortedBy path_cmp) (sym parts.0) tt
taken_rise (file ∷ files) taken refused (inl (rest, same, parts)) rise =
    subst (IsStrictlySortedBy path_cmp) (sym same) (
      each_taken (λ path. path_cmp file path ≡ Less) files rest refused parts rise.0,
      taken_rise files rest refused parts rise.1,
    )
taken_rise (file ∷ files) taken refused (inr (rest, same, parts)) rise =
    taken_rise files taken rest parts rise.1

-- each is taken or refused
counted : (files taken : List (List (List ℕ))) (refused : List (List ℕ)) → AreParted files taken refused
    → length taken + length refused ≡ length files
counted [] taken refused parts = rw (parts.0, parts.1) refl
counted (file ∷ files) taken refused (inl (rest, same, parts)) =
    let one = ap length same in
    omega (arith, one, counted files rest refused parts)
counted (file ∷ files) taken refused (inr (rest, same, parts)) =
    let one = ap length same in
    omega (arith, one, counted files taken rest parts)

-- so where one is refused, fewer are taken than there are
pub less_taken : (files taken : List (List (List ℕ))) (refused : List (List ℕ)) → AreParted files taken refused
    → 0 < length refused → length taken < length files
less_taken files taken refused parts some = omega (arith, some, counted files taken refused parts)
