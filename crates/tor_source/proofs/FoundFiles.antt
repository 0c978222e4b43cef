-- The files that were found: what a step of the walk keeps of them.
use Rattle.std.proofs.Common.{◌≡◌, ℕ, ◌≤◌, List, [], ◌∷◌, ◌++◌, length, map, vec_len, Ordering, Less, refl, sym}
use Rattle.std.specs.List.{AllByRecursion}
use Rattle.std.specs.List.Sorted.{IsStrictlySortedBy}
use Rattle.std.proofs.lemmas.List.{length_push}
use Rattle.std.proofs.lemmas.List.Elements.{All-nil, All-push, recursion_from_All}
use Rattle.tor_tree.specs.Path.{path_cmp}
use Rattle.tor_source.proofs.Waiting.{next_before}
use Rattle.tor_source.specs.steps.Order.{HasFound, HasRefused, HasTaken, IsEntered, path_in}
use Rattle.tor_source.specs.declared.folder.found.FoundFiles.{FoundFiles}
use Rattle.tor_source.specs.declared.refused.Refusal.{Refusal}
use Rattle.tor_source.specs.declared.folder.walk.WaitingName.{WaitingName}
use Rattle.tor_tree.specs.declared.paths.TheConstants.{MAX_NAMES}

-- a list that rises, without its last element
pub rising_front : {K : Type 0} (R : K → K → Ordering) (xs : List K) (y : K) → IsStrictlySortedBy R (xs ++ y ∷ [])
    → IsStrictlySortedBy R xs × AllByRecursion (λ x. R x y ≡ Less) xs
unfolding IsStrictlySortedBy
rising_front R [] y h = (tt, tt)
rising_front {K} R (x ∷ xs) y h =
    let rest = rising_front R xs y h.1 in
    let parts = split (λ z. R x z ≡ Less) xs h.0 in
    ((parts.0, rest.0), (parts.1, rest.1))
  where
    split : (P : K → Type 0) (zs : List K) → AllByRecursion P (zs ++ y ∷ []) → AllByRecursion P zs × P y
    split P [] g = (tt, g.0)
    split P (z ∷ zs) g = let later = split P zs g.1 in ((g.0, later.0), later.1)

all_push : {X : Type 0} (P : X → Type 0) (xs : List X) (y : X) → AllByRecursion P xs → P y
    → AllByRecursion P (xs ++ y ∷ [])
all_push P [] y h p = (p, tt)
all_push P (x ∷ xs) y h p = (h.0, all_push P xs y h.1 p)

rising_push : {K : Type 0} (R : K → K → Ordering) (xs : List K) (y : K) → IsStrictlySortedBy R xs
    → AllByRecursion (λ x. R x y ≡ Less) xs → IsStrictlySortedBy R (xs ++ y ∷ [])
unfolding IsStrictlySortedBy
rising_push R [] y h below = (tt, tt)
rising_push R (x ∷ xs) y h below = (all_push (λ z. R x z ≡ Less) xs y h.0 below.0, rising_push R xs y h.1 below.1)

-- a file was added
pub has_taken : (old new : FoundFiles) (names : List (List ℕ)) (entries : List WaitingName) → HasTaken old names new
    → HasFound old → IsEntered old.paths.items names entries → length names ≤ MAX_NAMES → HasFound new
has_taken old new names entries taken found entered short = record {
  rising = rw taken.path
      (rising_push path_cmp old.paths.items names found.rising
      (recursion_from_All (λ earlier. path_cmp earlier names ≡ Less) old.paths.items
      (next_before old.paths.items (map (path_in names) entries) names entered.paths)));
  short = rw taken.path (All-push (λ path. length path ≤ MAX_NAMES) old.paths.items names found.short short);
  told = rw (taken.path, taken.told, found.told) (sym (length_push old.paths.items names));
}

-- something was refused
pub has_refused : (old new : FoundFiles) (path : List ℕ) (refusal : Refusal) → HasRefused old path refusal new
    → HasFound old → HasFound new
has_refused old new path refusal refused found = record {
  rising = rw refused.paths found.rising;
  short = rw refused.paths found.short;
  told = rw (refused.told, refused.paths) found.told;
}

-- nothing was found yet
pub found_none : (found : FoundFiles) → found.paths.items ≡ [] → vec_len found.listed.lengths ≡ 0 → HasFound found
unfolding IsStrictlySortedBy
found_none found paths told = record {
  rising = rw paths tt;
  short = rw paths (All-nil (λ path. length path ≤ MAX_NAMES));
  told = rw (told, paths) refl;
}
