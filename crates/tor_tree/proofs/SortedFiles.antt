-- What comparing each file of a sorted list with the next tells of the whole list.
use Rattle.tor_tree.proofs.Cited.{◌≡◌, ℕ, ◌+◌, ◌<◌, Bool, true, false, not, List, [], ◌∷◌, length, get_or, Ordering}
use Rattle.tor_tree.proofs.Cited.{Less, Equal, Greater, refl, sym, ap, ◌∙◌, arith, IsTrue, is_lt, ordering_reverse}
use Rattle.tor_tree.proofs.Cited.{IsAllAdjacentAnswer, starts_with, IsSortedByKey, not-true, not-false, get_or-map}
use Rattle.tor_tree.proofs.Cited.{length-map, paths_of, paths_repeat, paths_nest, IsInPathOrder, name_eq, path_cmp}
use Rattle.tor_tree.proofs.PathLists.{path_order, repeat_none, repeat_found, nest_none, nest_found}
use Rattle.tor_tree.proofs.Rising.{rising_from_neighbours}

below_is : (o : Ordering) → true ≡ is_lt o → o ≡ Less
below_is Less h = refl
below_is Equal h = cc
below_is Greater h = cc

-- neither is below the other
tied : (o : Ordering) → false ≡ is_lt o → is_lt (ordering_reverse o) ≡ false → o ≡ Equal
tied Less p q = cc
tied Equal p q = refl
tied Greater p q = cc

-- some element of a list that has one
element : {Y : Type 0} (ys : List Y) (k : ℕ) → k < length ys → Y
element [] k lt = absurd (omega arith)
element (y ∷ ys) k lt = y

module _ {X : Type 0} where
  path_at : (files : List (List (List ℕ) × X)) (k : ℕ) (d : List (List ℕ) × X) → k < length files
      → get_or (paths_of files) k [] ≡ (get_or files k d).0
  path_at files k d lt = get_or-map (λ file. file.0) files k d [] lt

  pub rising_answer : (files : List (List (List ℕ) × X)) (answer : Bool)
      → IsAllAdjacentAnswer (λ x y b. b ≡ is_lt (path_cmp x.0 y.0)) files answer → IsTrue answer → IsInPathOrder files
  rising_answer files true each t =
      rising_from_neighbours path_order (λ file. file.0) files (λ k d lt. below_is _ (each k d lt))
  rising_answer files false each t = cc

  pub repeat_answer : (files : List (List (List ℕ) × X)) (answer : Bool) → IsSortedByKey (λ file. file.0) path_cmp files
      → IsAllAdjacentAnswer (λ x y b. b ≡ is_lt (path_cmp x.0 y.0)) files answer
      → answer ≡ not (paths_repeat (paths_of files))
  repeat_answer files true sorted each =
      sym (ap not (repeat_none (paths_of files) (rising_answer files true each refl)))
  repeat_answer files false sorted some =
      let k = some.0 in
      let d = element files (k + 1) some.1 in
      let file = get_or files k d in
      let next = get_or files (k + 1) d in
      let not_above : is_lt (ordering_reverse (path_cmp file.0 next.0)) ≡ false =
      ap is_lt (sym (path_order.antisymm next.0 file.0)) ∙ sorted k d (omega arith) some.1 in
      let same = tied (path_cmp file.0 next.0) (some.2 d) not_above in
      let at_paths : path_cmp (get_or (paths_of files) k []) (get_or (paths_of files) (k + 1) []) ≡ Equal =
      rw (path_at files k d (omega arith), path_at files (k + 1) d some.1) same in
      sym (ap not (repeat_found (paths_of files) k (rw length-map some.1) at_paths))

  pub nest_answer : (files : List (List (List ℕ) × X)) (answer : Bool) → IsInPathOrder files
      → IsAllAdjacentAnswer (λ x y b. b ≡ not (starts_with name_eq y.0 x.0)) files answer
      → not answer ≡ paths_nest (paths_of files)
  nest_answer files true rising each =
      sym (nest_none (paths_of files) rising
      (λ k d lt.
      let within : k + 1 < length files = rw length-map at lt in
      let e = element files (k + 1) within in
      rw (get_or-map (λ file. file.0) files (k + 1) e d within, get_or-map (λ file. file.0) files k e d (omega arith))
      (not-true _ (sym (each k e within)))))
  nest_answer files false rising some =
      let k = some.0 in
      let d = element files (k + 1) some.1 in
      sym (nest_found (paths_of files) k rising (rw length-map some.1)
      (rw (path_at files (k + 1) d some.1, path_at files k d (omega arith)) (not-false _ (sym (some.2 d)))))
