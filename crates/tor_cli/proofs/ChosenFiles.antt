-- The files that a list chooses, in order.
use Rattle.std.proofs.Common.{◌≡◌, ◌∙◌, ◌∷◌, [], List, ℕ, Option, Some, ap₂, get_or, map, refl, subst}
use Rattle.std.proofs.lemmas.List.{length-map}
use Rattle.std.proofs.lemmas.List.Elements.{All-head, All-tail}
use Rattle.std.specs.List.{All}
use Rattle.std.specs.List.Sorted.{IsPermutation}
use Rattle.tor_tree.proofs.ProvedLaws.{at_indices}
use Rattle.tor_tree.specs.FileList.{paths_of}
use Rattle.tor_tree.specs.PathList.{AreIndexedPaths, indices_of}
use Rattle.tor_source.specs.declared.input.InputFault.{InputFault}
use Rattle.tor_source.specs.declared.input.InputFault.TheVariants as inputs
use Rattle.tor_cli.specs.Status.{of_input_fault}
use Rattle.tor_cli.specs.make.ChosenFiles.{IsNoChoice, IsUnread}

-- a list that was not read chooses no files
pub not_read : (word : List ℕ) (reader reader' : Option (List ℕ)) (fault : InputFault)
    → IsUnread word reader reader' fault → IsNoChoice (Some word) reader reader' (of_input_fault fault)
not_read word reader reader' (inputs.Read fault) why = why
not_read word reader reader' inputs.TooLong why = why
not_read word reader reader' inputs.Memory why = tt

stand_there : (paths : List (List (List ℕ))) (entries : List (List (List ℕ) × ℕ))
    → All (λ entry. get_or paths entry.1 [] ≡ entry.0) entries
    → map (λ index. get_or paths index []) (indices_of entries) ≡ paths_of entries
stand_there paths [] found = refl
stand_there paths (entry ∷ entries) found =
    ap₂ (λ (path : List (List ℕ)) (others : List (List (List ℕ))). path ∷ others)
    (All-head (λ entry. get_or paths entry.1 [] ≡ entry.0) entry entries found)
    (stand_there paths entries (All-tail (λ entry. get_or paths entry.1 [] ≡ entry.0) entry entries found))

-- the paths of the entries are those that were handed in
pub of_entries : (paths : List (List (List ℕ))) (entries : List (List (List ℕ) × ℕ)) → AreIndexedPaths paths entries
    → IsPermutation paths (paths_of entries)
of_entries paths entries indexed =
    subst (λ (others : List (List (List ℕ))). IsPermutation paths others) (stand_there paths entries indexed.found)
    (at_indices paths [] (indices_of entries) indexed.indices
    (length-map entries (λ entry. entry.1) ∙ indexed.one_each))
