-- Files that are looked for one by one: one more is taken or refused.
use Rattle.std.proofs.Common.{◌≡◌, ℕ, ◌+◌, ◌<◌, ◌≤◌, List, [], ◌∷◌, ◌++◌, length, map, take}
use Rattle.std.proofs.Common.{get_or, refl, sym, ap, inl, inr}
use Rattle.std.proofs.Common.{Bool, true, false, not, add-one, vec_len}
use Rattle.std.proofs.Math.Seq.{take-suc}
use Rattle.std.proofs.lemmas.List.{length_push, map_push}
use Rattle.std.proofs.lemmas.List.Elements.{All-nil, All-push}
use Rattle.tor_tree.specs.Path.{name_eq}
use Rattle.tor_source.proofs.SameNames.{same_bytes}
use Rattle.tor_source.specs.Named.{AreParted, path_of}
use Rattle.tor_source.specs.Places.{names_bytes}
use Rattle.tor_source.specs.declared.folder.found.FoundFiles.{FoundFiles}
use Rattle.tor_source.specs.declared.refused.Refusal.{Refusal}
use Rattle.tor_source.specs.declared.refused.Refused.{Refused}
use Rattle.tor_source.specs.steps.Named.{HasLookedFor}
use Rattle.tor_source.specs.steps.Order.{HasRefused, HasTaken, told_of}
use Rattle.tor_tree.specs.declared.paths.TheConstants.{MAX_NAMES}

parted_taken : (files taken : List (List (List ℕ))) (refused : List (List ℕ)) (file : List (List ℕ))
    → AreParted files taken refused → AreParted (files ++ file ∷ []) (taken ++ file ∷ []) refused
parted_taken [] taken refused file (none, rest) = inl ([], rw none refl, (refl, rest))
parted_taken (one ∷ files) taken refused file (inl (rest, is, h)) =
    inl (rest ++ file ∷ [], rw is refl, parted_taken files rest refused file h)
parted_taken (one ∷ files) taken refused file (inr (rest, is, h)) =
    inr (rest, is, parted_taken files taken rest file h)

parted_refused : (files taken : List (List (List ℕ))) (refused : List (List ℕ)) (file : List (List ℕ))
    → AreParted files taken refused → AreParted (files ++ file ∷ []) taken (refused ++ names_bytes file ∷ [])
parted_refused [] taken refused file (rest, none) = inr ([], rw none refl, (rest, refl))
parted_refused (one ∷ files) taken refused file (inl (rest, is, h)) =
    inl (rest, is, parted_refused files rest refused file h)
parted_refused (one ∷ files) taken refused file (inr (rest, is, h)) =
    inr (rest ++ names_bytes file ∷ [], rw is refl, parted_refused files taken rest file h)

parted_all : (files taken : List (List (List ℕ))) → AreParted files taken [] → taken ≡ files
parted_all [] taken (none, is) = none
parted_all (file ∷ files) taken (inl (rest, is, h)) = rw (is, parted_all files rest h) refl
parted_all (file ∷ files) taken (inr (rest, is, h)) = cc

-- nothing was refused, so all were taken
pub all_taken : (files taken : List (List (List ℕ))) (refused : List Refused) → refused ≡ []
    → AreParted files taken (map path_of refused) → taken ≡ files
all_taken files taken refused none h = parted_all files taken (rw none at h)

paths_told : (refused : List Refused) → map path_of refused ≡ map (λ one. one.0) (map told_of refused)
paths_told [] = refl
paths_told (one ∷ refused) = ap (λ rest. one.path.items ∷ rest) (paths_told refused)

path_more : (old new : List Refused) (path : List ℕ) (refusal : Refusal)
    → map told_of new ≡ map told_of old ++ (path, refusal) ∷ [] → map path_of new ≡ map path_of old ++ path ∷ []
path_more old new path refusal more =
    rw (paths_told new, more, map_push (λ one. one.0) (map told_of old) (path, refusal), ← paths_told old) refl

-- the next file was taken
pub looked_taken : (files : List (List (List ℕ))) (old new : FoundFiles) (file : List (List ℕ)) → HasTaken old file new
    → length file ≤ MAX_NAMES → HasLookedFor files old → HasLookedFor (files ++ file ∷ []) new
looked_taken files old new file taken short h = record {
  parted = rw (taken.path, taken.refused)
      (parted_taken files old.paths.items (map path_of old.refused.items) file h.parted);
  short = rw taken.path (All-push (λ path. length path ≤ MAX_NAMES) old.paths.items file h.short short);
  told = rw (taken.path, taken.told, h.told) (sym (length_push old.paths.items file));
}

-- or refused
pub looked_refused : (files : List (List (List ℕ))) (old new : FoundFiles) (file : List (List ℕ)) (refusal : Refusal)
    → HasRefused old (names_bytes file) refusal new → HasLookedFor files old → HasLookedFor (files ++ file ∷ []) new
looked_refused files old new file refusal refused h = record {
  parted = rw (
    refused.paths,
    path_more old.refused.items new.refused.items (names_bytes file) refusal refused.refused,
  ) (parted_refused files old.paths.items (map path_of old.refused.items) file h.parted);
  short = rw refused.paths h.short;
  told = rw (refused.told, refused.paths) h.told;
}

-- none was looked for yet
pub looked_none : (found : FoundFiles) → found.paths.items ≡ [] → vec_len found.listed.lengths ≡ 0
    → found.refused.items ≡ [] → HasLookedFor [] found
looked_none found paths told refused = record {
  parted = rw (paths, refused) (refl, refl);
  short = rw paths (All-nil (λ path. length path ≤ MAX_NAMES));
  told = rw (told, paths) refl;
}

-- the same names at the beginning of two paths, and one more
pub same_more : (one other : List (List ℕ)) (k : ℕ) (name next : List ℕ) → k < length one → k < length other
    → take k one ≡ take k other → name ≡ get_or one k name → next ≡ get_or other k next
    → not (name_eq name next) ≡ false → take (k + 1) one ≡ take (k + 1) other
same_more one other k name next inside within same at_one at_other equal =
    let is : name ≡ next = same_bytes name next (not_false (name_eq name next) equal) in
    rw (add-one, take-suc one k name inside, take-suc other k next within, same, ← at_one, ← at_other, is) refl
  where
    not_false : (b : Bool) → not b ≡ false → b ≡ true
    not_false true e = refl
    not_false false e = cc
