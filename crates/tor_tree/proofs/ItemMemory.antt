-- What a file tree is refused for before memory is taken.
use Rattle.tor_tree.proofs.Cited.{◌≡◌, ◌<◌, false, Some, List, [], ◌∷◌, Vec, Global, ℕ, length, pair}
use Rattle.tor_tree.proofs.Cited.{dictionary, arith, refl, rules, tree_fault, takes_memory_in, view, pairs_view, Item}
use Rattle.tor_tree.proofs.Cited.{Dict}
use Rattle.tor_tree.proofs.Cited.{the_lemmas}
use Rattle.tor_tree.specs.declared.tree_file.TreeFault.TheVariants as faults

pub dictionary_of_item : (pairs : Vec (Vec ℕ Global × Item) Global)
    → view (Dict pairs) ≡ dictionary (pairs_view pairs.items)
dictionary_of_item pairs = search (rules, the_lemmas)

-- some pair, and the first has not its shape
pub shape_told : (pairs : List (Vec ℕ Global × Item)) → 0 < length pairs
    → takes_memory_in (pairs_view pairs) ≡ false → tree_fault (dictionary (pairs_view pairs)) ≡ Some faults.Shape
shape_told [] some none = absurd (omega (arith, some))
shape_told (p ∷ pairs) some none = by_key p.0.items none
  where
    by_key : (key : List ℕ) → takes_memory_in (pair key (view p.1) (pairs_view pairs)) ≡ false
        → tree_fault (dictionary (pair key (view p.1) (pairs_view pairs))) ≡ Some faults.Shape
    by_key [] none = rw none refl
    by_key (c ∷ cs) none = rw none refl
