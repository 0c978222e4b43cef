-- Whether a path is one of known ones, as a search by halving finds it, and which are none of them.
use Rattle.std.proofs.Common.{◌≡◌, ℕ, ◌<◌, List, [], ◌∷◌, ◌++◌, map, length, get_or, Bool, true, false, not, ◌&&◌}
use Rattle.std.proofs.Common.{cond, Ordering, Less, Equal, Greater, Result, Ok, Err, refl, sym, subst, ap, ap₂, ◌∙◌, arith}
use Rattle.std.proofs.Common.{inl, inr, Vec, Global}
use Rattle.std.specs.Prelude.{vec_items}
use Rattle.std.specs.Cmp.Lexicographic.{nat_list_cmp_total, texts_ties}
use Rattle.std.specs.List.{filter, list_any}
use Rattle.std.specs.List.Sorted.{IsBinarySearchResult, IsPermutation, IsSearchInRange, IsSorted}
use Rattle.std.specs.Ordering.{is_eq}
use Rattle.std.specs.Result.{is_ok}
use Rattle.std.specs.Str.{bytes_eq}
use Rattle.std.proofs.lemmas.Bool.{cases_lt}
use Rattle.std.proofs.lemmas.List.{get_or-map, length-map}
use Rattle.std.proofs.lemmas.List.Elements.{filter-append}
use Rattle.std.proofs.lemmas.List.Folds.{list_any_at, list_any_none}
use Rattle.std.proofs.lemmas.List.Sorted.{IsPermutation-map, list_any-IsPermutation, searchable_from_sorted}
use Rattle.tor_source.specs.Extra.{extra_paths, is_below_pad, is_extra, is_one_of}
use Rattle.tor_source.specs.Places.{names_bytes}
use Rattle.tor_tree.specs.Path.{name_cmp}

abbrev Text : Type 0
Text = Vec ℕ Global

module _ (texts : List Text) (some : Text) (path : List ℕ) where
  abbrev test : List ℕ → Bool
  test one = bytes_eq one path

  abbrev known : List (List ℕ)
  known = map vec_items texts

  there : (k : ℕ) → k < length texts → name_cmp (get_or texts k some).items path ≡ Equal → list_any test known ≡ true
  there k lt equal =
      list_any_at test known k [] (omega (arith, lt, length-map texts (vec_items {X = ℕ} {Z = Global})))
      (ap test (get_or-map vec_items texts k some [] lt)
      ∙ texts_ties (get_or texts k some).items path
      ∙ ap is_eq equal)

  apart : (k : ℕ) (o : Ordering) → is_eq o ≡ false → k < length texts → name_cmp (get_or texts k some).items path ≡ o
      → (d : List ℕ) → test (get_or known k d) ≡ false
  apart k o other lt is d =
      ap test (get_or-map vec_items texts k some d lt)
      ∙ texts_ties (get_or texts k some).items path
      ∙ ap is_eq is
      ∙ other

  not_there : (k : ℕ) → IsSorted (λ one next. name_cmp one.items next.items) texts
      → IsBinarySearchResult (λ (one : Text). name_cmp one.items path) texts (Err k) → list_any test known ≡ false
  not_there k sorted parted =
      let parts = parted (searchable_from_sorted nat_list_cmp_total vec_items texts path sorted) in
      list_any_none test known (λ i d lt.
      let below : i < length texts = omega (arith, lt, length-map texts (vec_items {X = ℕ} {Z = Global})) in
      elim (cases_lt i k) [
        | inl before ↦ apart i Less refl below (parts.0 i some (omega (arith, below)) before) d
        | inr after ↦ apart i Greater refl below (parts.1 i some after below) d
      ])

-- a search tells whether the path is one of them
pub known_is : (texts : List Text) (path : List ℕ) (r : Result ℕ ℕ) → IsSearchInRange r (length texts)
    → IsSorted (λ one next. name_cmp one.items next.items) texts
    → IsBinarySearchResult (λ (one : Text). name_cmp one.items path) texts r
    → is_ok r ≡ is_one_of (map vec_items texts) path
known_is [] path (Ok k) within sorted found = absurd (omega (arith, within))
known_is [] path (Err k) within sorted found = refl
known_is (text ∷ texts) path (Ok k) within sorted found = sym (there (text ∷ texts) text path k within (found text))
known_is (text ∷ texts) path (Err k) within sorted found = sym (not_there (text ∷ texts) text path k sorted found)

same_filter : {X : Type 0} (p q : X → Bool) → ((x : X) → p x ≡ q x) → (xs : List X) → filter p xs ≡ filter q xs
same_filter p q same [] = refl
same_filter {X} p q same (x ∷ xs) =
    ap₂ (λ (kept : Bool) (rest : List X). cond kept (x ∷ rest) rest) (same x) (same_filter p q same xs)

-- the order of the known paths does not matter
same_extra : (known sorted : List (List ℕ)) → IsPermutation known sorted → (paths : List (List ℕ))
    → filter (is_extra sorted) paths ≡ filter (is_extra known) paths
same_extra known sorted moved paths =
    same_filter (is_extra sorted) (is_extra known) (λ path.
    ap (λ t. not t && not (is_below_pad path))
    (sym (list_any-IsPermutation (λ (one : List ℕ). bytes_eq one path) known sorted moved))) paths

-- what was added from both sides is all that is extra
pub all_extra : (taken : List (List (List ℕ))) (refused : List (List ℕ)) (known : List (List (List ℕ)))
    → (texts sorted extra files more result : List Text) → map vec_items texts ≡ map names_bytes known
    → IsPermutation texts sorted → extra ≡ []
    → map vec_items files ≡ map vec_items extra ++ filter (is_extra (map vec_items sorted)) (map names_bytes taken)
    → map vec_items more ≡ map vec_items files ++ filter (is_extra (map vec_items sorted)) refused
    → IsPermutation more result → IsPermutation (extra_paths taken refused known) (map vec_items result)
all_extra taken refused known texts sorted extra files more result are moved none first second ordered =
    let own = map names_bytes known in
    let now : List (List ℕ) = map vec_items sorted in
    let known_moved : IsPermutation own now =
    subst (λ all. IsPermutation all now) are (IsPermutation-map vec_items texts sorted moved) in
    let named = map names_bytes taken in
    let files_are : map vec_items files ≡ filter (is_extra own) named =
    first
    ∙ ap (λ (old : List Text). map vec_items old ++ filter (is_extra now) named) none
    ∙ nil_append (filter (is_extra now) named)
    ∙ same_extra own now known_moved named in
    let all : map vec_items more ≡ extra_paths taken refused known =
    second
    ∙ ap₂ (λ (one other : List (List ℕ)). one ++ other) files_are (same_extra own now known_moved refused)
    ∙ sym (filter-append (is_extra own) named refused) in
    subst (λ paths. IsPermutation paths (map vec_items result)) all (IsPermutation-map vec_items more result ordered)
  where
    nil_append : (xs : List (List ℕ)) → [] ++ xs ≡ xs
    nil_append xs = refl
