-- Lists of paths in order: a path that is there twice, or is inside another, is beside it.
use Rattle.tor_tree.proofs.Cited.{◌≡◌, ℕ, ◌+◌, ◌<◌, true, false, ◌⊎◌, inl, inr, List, [], length, get_or, count_by}
use Rattle.tor_tree.proofs.Cited.{nat_lt, Less, Equal, ap, ◌∙◌, arith, IsTotalOrder, lists_total, lists_ties}
use Rattle.tor_tree.proofs.Cited.{nat_list_cmp_total, texts_ties, eq_by_cmp, is_eq, AllAdjacentBelow, starts_with}
use Rattle.tor_tree.proofs.Cited.{list_any, IsStrictlySortedBy, le-ltb, lt-ltb, ltb-true, and_parts, and_from}
use Rattle.tor_tree.proofs.Cited.{both_ways, false_from_ne_true, cases_order, tied_itself, list_any_none, list_any_at}
use Rattle.tor_tree.proofs.Cited.{get_or_default, Less-from_sorted, paths_repeat, paths_nest, is_inside, name_cmp}
use Rattle.tor_tree.proofs.Cited.{name_eq, path_cmp, path_eq}
use Rattle.tor_tree.proofs.Inside.{after_beginning, longer_than_beginning, beginning_between}
use Rattle.tor_tree.proofs.Rising.{count_at_most_one, count_of_neighbours}

pub path_order : IsTotalOrder path_cmp
path_order = lists_total nat_list_cmp_total

pub path_ties : (x y : List (List ℕ)) → path_eq x y ≡ eq_by_cmp path_cmp x y
path_ties = lists_ties name_cmp texts_ties

-- no path of a rising list is there twice
pub repeat_none : (paths : List (List (List ℕ))) → IsStrictlySortedBy path_cmp paths → paths_repeat paths ≡ false
repeat_none paths rising =
    list_any_none (λ path. nat_lt 1 (count_by (path_eq path) paths)) paths
    (λ k d _. le-ltb 1 _ (count_at_most_one path_order path_ties (get_or paths k d) paths rising))

pub repeat_found : (paths : List (List (List ℕ))) (k : ℕ) → k + 1 < length paths
    → path_cmp (get_or paths k []) (get_or paths (k + 1) []) ≡ Equal → paths_repeat paths ≡ true
repeat_found paths k lt same =
    let path = get_or paths k [] in
    let here = path_ties path path ∙ ap is_eq (tied_itself path_order path) in
    let next = path_ties path (get_or paths (k + 1) []) ∙ ap is_eq same in
    list_any_at (λ p. nat_lt 1 (count_by (path_eq p) paths)) paths k [] (omega arith)
    (lt-ltb 1 _ (count_of_neighbours (path_eq path) paths k [] lt here next))

-- a path inside another comes after it
pub inside_after : (folder path : List (List ℕ)) → is_inside folder path ≡ true → path_cmp folder path ≡ Less
inside_after folder path inside =
    let parts = and_parts (starts_with name_eq path folder) (nat_lt (length folder) (length path)) inside in
    after_beginning nat_list_cmp_total texts_ties folder path parts.0 (ltb-true _ _ parts.1)

never_below_itself : (path : List (List ℕ)) → path_cmp path path ≡ Less → ⊥
never_below_itself path below = let tied = tied_itself path_order path in cc

-- where no path of a rising list begins the next, a later one is not inside it
not_inside_later : (paths : List (List (List ℕ))) → IsStrictlySortedBy path_cmp paths
    → AllAdjacentBelow (λ x y. starts_with name_eq y x ≡ false) paths (length paths) → (i j : ℕ) → i < j
    → j < length paths → starts_with name_eq (get_or paths j []) (get_or paths i []) ≡ true → ⊥
not_inside_later paths rising apart i j lt within starts = by_indices (cases_order (i + 1) j)
  where
    by_indices : (i + 1 ≡ j) ⊎ ((i + 1 < j) ⊎ (j < i + 1)) → ⊥
    by_indices (inl e) = both_ways _ (apart i [] (omega arith)) (rw (← e) at starts)
    by_indices (inr (inl further)) =
        let first = Less-from_sorted path_cmp paths i (i + 1) [] rising (omega arith) (omega arith) in
        let second = Less-from_sorted path_cmp paths (i + 1) j [] rising further within in
        both_ways _ (apart i [] (omega arith)) (beginning_between nat_list_cmp_total texts_ties (get_or paths i [])
        (get_or paths (i + 1) []) (get_or paths j []) first second starts)
    by_indices (inr (inr before)) = absurd (omega arith)

not_inside : (paths : List (List (List ℕ))) → IsStrictlySortedBy path_cmp paths
    → AllAdjacentBelow (λ x y. starts_with name_eq y x ≡ false) paths (length paths) → (i j : ℕ) → i < length paths
    → j < length paths → is_inside (get_or paths i []) (get_or paths j []) ≡ true → ⊥
not_inside paths rising apart i j in_i in_j inside = by_indices (cases_order i j)
  where
    by_indices : (i ≡ j) ⊎ ((i < j) ⊎ (j < i)) → ⊥
    by_indices (inl e) =
        never_below_itself (get_or paths j []) (rw e at (inside_after (get_or paths i []) (get_or paths j []) inside))
    by_indices (inr (inl before)) =
        not_inside_later paths rising apart i j before in_j
        (and_parts _ (nat_lt (length (get_or paths i [])) (length (get_or paths j []))) inside).0
    by_indices (inr (inr after)) =
        let below = Less-from_sorted path_cmp paths j i [] rising after in_i in
        let above = inside_after (get_or paths i []) (get_or paths j []) inside in
        never_below_itself (get_or paths j []) (path_order.trans _ (get_or paths i []) _ below above)

pub nest_none : (paths : List (List (List ℕ))) → IsStrictlySortedBy path_cmp paths
    → AllAdjacentBelow (λ x y. starts_with name_eq y x ≡ false) paths (length paths) → paths_nest paths ≡ false
nest_none paths rising apart =
    list_any_none (λ folder. list_any (is_inside folder) paths) paths
    (λ i d in_i. list_any_none (is_inside (get_or paths i d)) paths
    (λ j e in_j. false_from_ne_true _
    (λ inside. not_inside paths rising apart i j in_i in_j
    (rw (get_or_default paths i d [] in_i, get_or_default paths j e [] in_j) at inside))))

pub nest_found : (paths : List (List (List ℕ))) (k : ℕ) → IsStrictlySortedBy path_cmp paths → k + 1 < length paths
    → starts_with name_eq (get_or paths (k + 1) []) (get_or paths k []) ≡ true → paths_nest paths ≡ true
nest_found paths k rising lt starts =
    let folder = get_or paths k [] in
    let path = get_or paths (k + 1) [] in
    let below = Less-from_sorted path_cmp paths k (k + 1) [] rising (omega arith) lt in
    let longer = longer_than_beginning nat_list_cmp_total texts_ties folder path starts below in
    list_any_at (λ f. list_any (is_inside f) paths) paths k [] (omega arith)
    (list_any_at (is_inside folder) paths (k + 1) [] lt (and_from _ _ starts (lt-ltb _ _ longer)))
