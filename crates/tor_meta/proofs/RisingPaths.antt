-- Paths that rise, and that putting them in order leaves them where they are.
use Rattle.std.proofs.Common.{◌≡◌, ℕ, zero, suc, ◌+◌, ◌<◌, ◌≤◌, ◌&&◌, Bool, true, false, List, [], ◌∷◌, length}
use Rattle.std.proofs.Common.{get_or}
use Rattle.std.proofs.Common.{arith, refl, sym, ap, ap₂, subst, ◌∙◌, inl, inr, zero-add}
use Rattle.std.specs.List.{AllByRecursion, IsAllAdjacentAnswer, enumerate_from, range_with_len}
use Rattle.std.specs.List.Sorted.{IsStrictlySortedBy}
use Rattle.std.specs.Ordering.{is_lt}
use Rattle.std.specs.declared.cmp.Ordering.{Ordering}
use Rattle.std.specs.declared.cmp.Ordering.TheVariants.{Less, Equal, Greater}
use Rattle.std.proofs.lemmas.Bool.{and_from, and_parts, cases_order}
use Rattle.std.proofs.lemmas.Cmp.{tied_itself}
use Rattle.std.proofs.lemmas.List.{ext_get_or, get_or-map, length-map}
use Rattle.std.proofs.lemmas.List.Elements.{recursion_from_All}
use Rattle.std.proofs.lemmas.List.FromFn.{get_or-enumerate_from, get_or-range_with_len, length-enumerate_from}
use Rattle.std.proofs.lemmas.Map.Keys.{Less-from_sorted}
use Rattle.tor_meta.specs.MakeStreams.{are_rising}
use Rattle.tor_meta.proofs.SourceFiles.{AreWithin, Entries, entries_within}
use Rattle.tor_tree.specs.FileList.{IsInPathOrder, paths_of}
use Rattle.tor_tree.specs.Path.{path_cmp}
use Rattle.tor_tree.specs.PathList.{AreIndexedPaths, indices_of, with_indices}
use Rattle.tor_tree.proofs.ProvedLaws.{paths_in_order}

abbrev Paths : Type 0
Paths = List (List (List ℕ))

-- ---- what comparing each path with the next tells

is_below : (o : Ordering) → is_lt o ≡ true → o ≡ Less
is_below Less h = refl
is_below Equal h = cc
is_below Greater h = cc

all_rise : (paths : Paths)
    → ((k : ℕ) → suc k < length paths → is_lt (path_cmp (get_or paths k []) (get_or paths (suc k) [])) ≡ true)
    → are_rising paths ≡ true
all_rise [] each = refl
all_rise (path ∷ []) each = refl
all_rise (path ∷ next ∷ paths) each =
    and_from (is_lt (path_cmp path next)) (are_rising (next ∷ paths)) (each zero (omega arith))
    (all_rise (next ∷ paths) (λ k less. each (suc k) (omega (arith, less))))

one_falls : (paths : Paths) (k : ℕ) → suc k < length paths
    → is_lt (path_cmp (get_or paths k []) (get_or paths (suc k) [])) ≡ false → are_rising paths ≡ false
one_falls [] k less falls = absurd (omega (arith, less))
one_falls (path ∷ []) k less falls = absurd (omega (arith, less))
one_falls (path ∷ next ∷ paths) zero less falls = rw falls refl
one_falls (path ∷ next ∷ paths) (suc k) less falls =
    let later = one_falls (next ∷ paths) k (omega (arith, less)) falls in
    and_false (is_lt (path_cmp path next)) (are_rising (next ∷ paths)) later
  where
    and_false : (a b : Bool) → b ≡ false → (a && b) ≡ false
    and_false true b h = h
    and_false false b h = refl

pub rising_answer : (paths : Paths) (answer : Bool)
    → IsAllAdjacentAnswer (λ x y b. b ≡ is_lt (path_cmp x y)) paths answer → answer ≡ are_rising paths
rising_answer paths true each =
    sym (all_rise paths (λ k less.
    let next : k + 1 ≡ suc k = omega arith in
    subst (λ (n : ℕ). is_lt (path_cmp (get_or paths k []) (get_or paths n [])) ≡ true) next
    (sym (each k [] (omega (arith, less))))))
rising_answer paths false some =
    let k = some.0 in
    let next : k + 1 ≡ suc k = omega arith in
    sym (one_falls paths k (omega (arith, some.1))
    (subst (λ (n : ℕ). is_lt (path_cmp (get_or paths k []) (get_or paths n [])) ≡ false) next (sym (some.2 []))))

-- ---- each path is below all later ones

below_later : (path next : List (List ℕ)) (paths : Paths) → path_cmp path next ≡ Less
    → AllByRecursion (λ later. path_cmp next later ≡ Less) paths
    → AllByRecursion (λ later. path_cmp path later ≡ Less) paths
below_later path next [] less each = tt
below_later path next (later ∷ paths) less each =
    (paths_in_order.trans path next later less each.0, below_later path next paths less each.1)

pub sorted_from_rising : (paths : Paths) → are_rising paths ≡ true → IsStrictlySortedBy path_cmp paths
unfolding IsStrictlySortedBy
sorted_from_rising [] h = tt
sorted_from_rising (path ∷ []) h = (tt, tt)
sorted_from_rising (path ∷ next ∷ paths) h =
    let parts = and_parts (is_lt (path_cmp path next)) (are_rising (next ∷ paths)) h in
    let less = is_below (path_cmp path next) parts.0 in
    let rest = sorted_from_rising (next ∷ paths) parts.1 in
    ((less, below_later path next paths less rest.0), rest)

-- ---- numbers that strictly rise, and are below as many as they are

abbrev Rise : ℕ → List ℕ → Type 0
Rise a [] = Unit {0}
Rise a (x ∷ xs) = (a ≤ x) × Rise (suc x) xs

room : (a n : ℕ) (xs : List ℕ) → a ≤ n → Rise a xs → AllByRecursion (λ x. x < n) xs → a + length xs ≤ n
room a n [] le up all = omega (arith, le)
room a n (x ∷ xs) le up all = omega (arith, up.0, room (suc x) n xs (omega (arith, all.0)) up.1 all.1)

is_range : (a n : ℕ) (xs : List ℕ) → n ≡ a + length xs → Rise a xs → AllByRecursion (λ x. x < n) xs
    → xs ≡ range_with_len a (length xs)
is_range a n [] long up all = refl
is_range a n (x ∷ xs) long up all =
    let first : x ≡ a =
    omega (arith, up.0, long, room (suc x) n xs (omega (arith, all.0)) up.1 all.1) in
    let next : suc x ≡ a + 1 = omega (arith, first) in
    ap₂ (λ y ys. y ∷ ys) first
    (is_range (a + 1) n xs (omega (arith, long)) (subst (λ (m : ℕ). Rise m xs) next up.1) all.1)

-- ---- the indices of paths that rise

never_below_itself : (path : List (List ℕ)) → path_cmp path path ≡ Less → ⊥
never_below_itself path below = let tied = tied_itself paths_in_order path in cc

module _ (paths : Paths) (rising : IsStrictlySortedBy path_cmp paths) where
  later_index : (entry next : List (List ℕ) × ℕ) → get_or paths entry.1 [] ≡ entry.0 → get_or paths next.1 [] ≡ next.0
      → entry.1 < length paths → path_cmp entry.0 next.0 ≡ Less → entry.1 < next.1
  later_index entry next here there within less = elim (cases_order entry.1 next.1) [
    | inl same ↦ absurd (never_below_itself entry.0
        (subst (λ (path : List (List ℕ)). path_cmp entry.0 path ≡ Less)
        (sym there ∙ ap (λ k. get_or paths k []) (sym same) ∙ here) less))
    | inr (inl before) ↦ before
    | inr (inr after) ↦
        let above = Less-from_sorted path_cmp paths next.1 entry.1 [] rising after within in
        let back : path_cmp next.0 entry.0 ≡ Less = rw (← here, ← there) above in
        absurd (never_below_itself entry.0 (paths_in_order.trans entry.0 next.0 entry.0 less back))
  ]

  abbrev AreFound : Entries → Type 0
  AreFound entries = AllByRecursion (λ entry. get_or paths entry.1 [] ≡ entry.0) entries

  rise_after : (entry : List (List ℕ) × ℕ) (entries : Entries) → AreFound (entry ∷ entries)
      → AreWithin (length paths) (entry ∷ entries) → IsStrictlySortedBy path_cmp (paths_of (entry ∷ entries))
      → Rise (suc entry.1) (indices_of entries)
  unfolding IsStrictlySortedBy
  rise_after entry [] found within sorted = tt
  rise_after entry (next ∷ entries) found within sorted =
      let more = later_index entry next found.0 found.1.0 within.0 sorted.0.0 in
      (omega (arith, more), rise_after next entries found.1 within.1 sorted.1)

  rise_all : (entries : Entries) → AreFound entries → AreWithin (length paths) entries
      → IsStrictlySortedBy path_cmp (paths_of entries) → Rise zero (indices_of entries)
  rise_all [] found within sorted = tt
  rise_all (entry ∷ entries) found within sorted = (omega arith, rise_after entry entries found within sorted)

within_indices : (n : ℕ) (entries : Entries) → AreWithin n entries
    → AllByRecursion (λ index. index < n) (indices_of entries)
within_indices n [] within = tt
within_indices n (entry ∷ entries) within = (within.0, within_indices n entries within.1)

-- paths that rise are put in the order in which they were
pub stay_in_order : (paths : Paths) (entries : Entries) → are_rising paths ≡ true → AreIndexedPaths paths entries
    → IsInPathOrder entries → entries ≡ with_indices paths
stay_in_order paths entries rise indexed in_order =
    let n = length paths in
    let rising = sorted_from_rising paths rise in
    let within = entries_within n entries indexed.indices indexed.one_each in
    let found = recursion_from_All _ entries indexed.found in
    let long : length (indices_of entries) ≡ n = length-map entries (λ entry. entry.1) ∙ indexed.one_each in
    let range : indices_of entries ≡ range_with_len 0 (length (indices_of entries)) =
    is_range 0 n (indices_of entries) (omega (arith, long)) (rise_all paths rising entries found within in_order)
    (within_indices n entries within) in
    let counted = length-enumerate_from 0 paths in
    let many : length entries ≡ length (with_indices paths) =
    indexed.one_each ∙ sym (length-map (enumerate_from 0 paths) (λ p. (p.1, p.0)) ∙ counted) in
    ext_get_or ([], 0) entries (with_indices paths) many (λ k less.
    let inside : k < n = omega (arith, less, indexed.one_each) in
    let number : (get_or entries k ([], 0)).1 ≡ k =
    sym (get_or-map (λ (entry : List (List ℕ) × ℕ). entry.1) entries k ([], 0) 0 less)
    ∙ ap (λ ks. get_or ks k 0) range
    ∙ get_or-range_with_len 0 (length (indices_of entries)) k 0 (omega (arith, inside, long)) ∙ zero-add k in
    let path : get_or paths k [] ≡ (get_or entries k ([], 0)).0 =
    ap (λ j. get_or paths j []) (sym number) ∙ indexed.found k ([], 0) less in
    let there : get_or (with_indices paths) k ([], 0) ≡ (get_or paths k [], k) =
    get_or-map (λ (p : ℕ × List (List ℕ)). (p.1, p.0)) (enumerate_from 0 paths) k (0, []) ([], 0)
    (omega (arith, inside, counted))
    ∙ ap (λ (p : ℕ × List (List ℕ)). (p.1, p.0)) (get_or-enumerate_from 0 paths k (0, []) inside)
    ∙ ap (λ j. (get_or paths k [], j)) (zero-add k) in
    ap₂ (λ p j. (p, j)) (sym path) number ∙ sym there)
