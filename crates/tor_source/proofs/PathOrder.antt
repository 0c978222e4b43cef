-- The order of paths, for the walk: a folder comes before what is in it, and all that is below one of its names before
-- its later names.
use Rattle.std.proofs.Common.{◌≡◌, ℕ, List, [], ◌∷◌, ◌++◌, Less, refl}
use Rattle.std.specs.Cmp.Lexicographic.{nat_list_cmp_total}
use Rattle.std.proofs.lemmas.Cmp.{lists_total, tied_itself}
use Rattle.std.proofs.lemmas.List.Elements.{All-weaker}
use Rattle.tor_tree.specs.Path.{name_cmp, path_cmp}
use Rattle.tor_source.specs.steps.Order.{AreBefore, IsPast}

pub past_next : (names : List (List ℕ)) (name later : List ℕ) → name_cmp name later ≡ Less
    → IsPast (names ++ name ∷ []) (names ++ later ∷ [])
past_next [] name later less more = rw less refl
past_next (x ∷ names) name later less more =
    rw (tied_itself nat_list_cmp_total x) (past_next names name later less more)

longer : (names : List (List ℕ)) (name : List ℕ) → path_cmp names (names ++ name ∷ []) ≡ Less
longer [] name = refl
longer (x ∷ names) name = rw (tied_itself nat_list_cmp_total x) (longer names name)

pub before_longer : (names : List (List ℕ)) (name : List ℕ) (paths : List (List (List ℕ))) → AreBefore names paths
    → AreBefore (names ++ name ∷ []) paths
before_longer names name paths before =
    All-weaker (λ path. path_cmp path names ≡ Less) (λ path. path_cmp path (names ++ name ∷ []) ≡ Less)
    (λ path less. (lists_total nat_list_cmp_total).trans path names (names ++ name ∷ []) less (longer names name))
    paths before
