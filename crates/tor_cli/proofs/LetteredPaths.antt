-- Letters that are put on paths, which rise, at the places where they are found.
use Rattle.std.proofs.Common.{◌≡◌, ℕ, zero, suc, ◌+◌, ◌<◌, ◌≤◌, true, false, Bool, List, [], ◌∷◌, length, map}
use Rattle.std.proofs.Common.{arith, refl, sym, ap, ap₂, subst, inl, inr, ◌-◌, ◌∙◌, drop, get_or, drop-cons}
use Rattle.std.specs.Prelude.{slice_set, if◌then◌else◌}
use Rattle.std.specs.Cmp.{IsTotalOrder}
use Rattle.std.specs.Cmp.Lexicographic.{lists_total, lists_ties, nat_list_cmp_total, same_text, texts_ties}
use Rattle.std.specs.List.{All, Contains, zip}
use Rattle.std.specs.List.Sorted.{IsStrictlySortedBy, IsNonDecreasingBy, IsPartitionPoint}
use Rattle.std.specs.Ordering.{eq_by_cmp, is_eq, is_lt, ordering_index, ordering_reverse}
use Rattle.std.specs.declared.cmp.Ordering.TheVariants.{Less, Equal, Greater}
use Rattle.std.proofs.lemmas.Bool.{and_parts, cases_order}
use Rattle.std.proofs.lemmas.Cmp.{tied_itself}
use Rattle.std.proofs.Math.Seq.{drop-length}
use Rattle.std.proofs.lemmas.List.{get_or_default}
use Rattle.std.proofs.lemmas.List.Elements.{All-cons, All-head, All-nil, All-tail, All-get_or}
use Rattle.std.proofs.lemmas.List.Sorted.{searchable_from_sorted}
use Rattle.std.proofs.lemmas.Map.Keys.{Less-from_sorted, sorted_tail}
use Rattle.std.proofs.lemmas.Map.Views.{All-after_first}
use Rattle.tor_meta.specs.Contents.{without_letters}
use Rattle.tor_tree.specs.FileList.{paths_of}
use Rattle.tor_tree.specs.Path.{name_cmp, name_eq, path_cmp, path_eq}
use Rattle.tor_tree.specs.Letters.{no_letters}
use Rattle.tor_cli.specs.make.Attrs.{AreAmong, AreLetteredBy, letters_in, lettered}
use Rattle.tor_cli.specs.Place.{AreFound}
use Rattle.tor_cli.specs.make.AttrsText.{AreLettered, attrs_text}
use Rattle.tor_tree.specs.declared.attr.Attr.{Attr}

abbrev Path : Type 0
Path = List (List ℕ)

path_order : IsTotalOrder path_cmp
path_order = lists_total nat_list_cmp_total

path_ties : (x y : Path) → path_eq x y ≡ eq_by_cmp path_cmp x y
path_ties = lists_ties name_cmp texts_ties

same_path : (x y : Path) → path_eq x y ≡ true → x ≡ y
same_path [] [] e = refl
same_path [] (name ∷ y) e = absurd cc
same_path (name ∷ x) [] e = absurd cc
same_path (name ∷ x) (other ∷ y) e =
    let parts = and_parts (name_eq name other) (path_eq x y) e in
    ap₂ (λ (n : List ℕ) (ns : Path). n ∷ ns) (same_text name other (sym parts.0)) (same_path x y parts.1)

pub tied : (x y : Path) → path_cmp x y ≡ Equal → x ≡ y
tied x y e = same_path x y (path_ties x y ∙ ap is_eq e)

eq_itself : (x : Path) → path_eq x x ≡ true
eq_itself x = path_ties x x ∙ ap is_eq (tied_itself path_order x)

eq_below : (x y : Path) → path_cmp x y ≡ Less → path_eq x y ≡ false
eq_below x y less = path_ties x y ∙ ap is_eq less

eq_above : (x y : Path) → path_cmp y x ≡ Less → path_eq x y ≡ false
eq_above x y less = path_ties x y ∙ ap is_eq (path_order.antisymm x y ∙ ap ordering_reverse less)

-- all but one keep what they have
kept_by : (a : Attr) (f : Path → Attr) (path : Path) (paths : List Path) → All (λ q. path_eq path q ≡ false) paths
    → map (λ q. if path_eq path q then a else f q) paths ≡ map f paths
kept_by a f path [] other = refl
kept_by a f path (q ∷ paths) other =
    ap₂ (λ (x : Attr) (xs : List Attr). x ∷ xs)
    (ap (λ (t : Bool). if t then a else f q) (All-head (λ q. path_eq path q ≡ false) q paths other))
    (kept_by a f path paths (All-tail (λ q. path_eq path q ≡ false) q paths other))

others : (path : Path) (paths : List Path) → All (λ q. path_cmp path q ≡ Less) paths
    → All (λ q. path_eq path q ≡ false) paths
others path [] below = All-nil (λ q. path_eq path q ≡ false)
others path (q ∷ paths) below =
    All-cons (λ q. path_eq path q ≡ false) q paths (eq_below path q (All-head (λ q. path_cmp path q ≡ Less) q paths
    below))
    (others path paths (All-tail (λ q. path_cmp path q ≡ Less) q paths below))

-- letters put where their path is
pub put_there : (a : Attr) (f : Path → Attr) (paths : List Path) (place : ℕ) → IsStrictlySortedBy path_cmp paths
    → place < length paths
    → slice_set (map f paths) place a ≡ map (λ q. if path_eq (get_or paths place []) q then a else f q) paths
put_there a f [] place rising within = absurd (omega (arith, within))
put_there a f (p ∷ paths) zero rising within =
    rw (eq_itself p) (ap (λ (xs : List Attr). a ∷ xs)
    (sym (kept_by a f p paths (others p paths (All-after_first path_cmp p paths rising)))))
put_there a f (p ∷ paths) (suc place) rising within =
    let below = All-get_or (λ q. path_cmp p q ≡ Less) paths place [] (omega (arith, within))
    (All-after_first path_cmp p paths rising) in
    rw (eq_above (get_or paths place []) p below)
    (ap (λ (xs : List Attr). f p ∷ xs)
    (put_there a f paths place (sorted_tail path_cmp p paths rising) (omega (arith, within))))

-- what rises can be searched
pub searchable : (paths : List Path) (path : Path) → IsStrictlySortedBy path_cmp paths
    → IsNonDecreasingBy (λ y. ordering_index (path_cmp y path)) paths
searchable paths path rising =
    searchable_from_sorted path_order (λ y. y) paths path
    (λ k d from less.
    let below = Less-from_sorted path_cmp paths k (k + 1) d rising (omega arith) less in
    ap is_lt (path_order.antisymm (get_or paths (k + 1) d) (get_or paths k d) ∙ ap ordering_reverse below))

-- each path with its letters
pub zipped : (f : Path → Attr) (paths : List Path) → zip paths (map f paths) ≡ map (λ path. (path, f path)) paths
zipped f [] = refl
zipped f (path ∷ paths) = ap (λ (files : List (Path × Attr)). (path, f path) ∷ files) (zipped f paths)

-- a path that a search does not find is not there
pub absent : (paths : List Path) (path : Path) (i : ℕ) → IsStrictlySortedBy path_cmp paths
    → (IsNonDecreasingBy (λ y. ordering_index (path_cmp y path)) paths
    → IsPartitionPoint (λ y. path_cmp y path ≡ Less) (λ y. path_cmp y path ≡ Greater) paths i)
    → Contains paths path → ⊥
absent paths path i rising found there =
    let point = found (searchable paths path rising) in
    let x = there.0 in
    let itself : path_cmp (get_or paths x path) path ≡ Equal =
    ap (λ (p : Path). path_cmp p path) there.2 ∙ tied_itself path_order path in
    elim (cases_order x i) [
      | inl same ↦ let bad = sym itself ∙ point.1 x path (omega arith) there.1 in cc
      | inr other ↦ elim other [
        | inl less ↦ let bad = sym itself ∙ point.0 x path (omega arith) less in cc
        | inr more ↦ let bad = sym itself ∙ point.1 x path (omega arith) there.1 in cc
      ]
    ]

-- what is left of a list, with one more before it
before_left : (named : List (Path × Attr)) (left : ℕ) (file : Path × Attr) → 0 < left → left ≤ length named
    → file ≡ get_or named (left - 1) file → drop (left - 1) named ≡ file ∷ drop left named
before_left named left file some within at =
    let next : suc (left - 1) ≡ left = omega arith in
    drop-cons named (left - 1) file (omega arith)
    ∙ ap₂ (λ (f : Path × Attr) (fs : List (Path × Attr)). f ∷ fs) (sym at)
    (ap (λ (n : ℕ). drop n named) next)

-- the letters by the last ones of a list
pub record ArePut (paths : List Path) (named : List (Path × Attr)) (attrs : List Attr) : Type 0 where
  pub each : attrs ≡ map (letters_in named) paths
  pub among : AreAmong paths named

-- one more of the list
pub one_more : (paths : List Path) (named : List (Path × Attr)) (left place : ℕ) (file : Path × Attr) (attrs : List
    Attr)
    → IsStrictlySortedBy path_cmp paths → 0 < left → left ≤ length named → place < length paths
    → path_cmp (get_or paths place []) file.0 ≡ Equal → file ≡ get_or named (left - 1) file
    → ArePut paths (drop left named) attrs → ArePut paths (drop (left - 1) named) (slice_set attrs place file.1)
one_more paths named left place file attrs rising some within there found at put =
    let same = tied (get_or paths place []) file.0 found in
    let whole = before_left named left file some within at in
    subst (λ (ns : List (Path × Attr)). ArePut paths ns (slice_set attrs place file.1)) (sym whole)
    record {
      each =
          ap (λ (xs : List Attr). slice_set xs place file.1) put.each
          ∙ put_there file.1 (letters_in (drop left named)) paths place rising there
          ∙ ap (λ (p : Path). map (λ q. if path_eq p q then file.1 else letters_in (drop left named) q) paths) same;
      among =
          All-cons (λ (f : Path × Attr). Contains paths f.0) file (drop left named)
          (place, there, get_or_default paths place file.0 [] there ∙ same) put.among;
    }

-- before the first of them nothing is put
pub none_put : (paths : List Path) (named : List (Path × Attr)) (attrs : List Attr)
    → attrs ≡ map (λ path. no_letters) paths → ArePut paths (drop (length named) named) attrs
none_put paths named attrs none =
    subst (λ (ns : List (Path × Attr)). ArePut paths ns attrs) (sym (drop-length named))
    record { each = none; among = All-nil (λ (f : Path × Attr). Contains paths f.0) }

-- and after the last all are
pub all_put : (paths : List Path) (named : List (Path × Attr)) (left : ℕ) (attrs : List Attr) → left ≤ 0
    → ArePut paths (drop left named) attrs → ArePut paths named attrs
all_put paths named left attrs none put =
    let start : left ≡ 0 = omega arith in
    subst (λ (n : ℕ). ArePut paths (drop n named) attrs) start put

-- one of the list is among what all of it is among
pub listed : (paths : List Path) (named : List (Path × Attr)) (left : ℕ) (file : Path × Attr) → 0 < left
    → left ≤ length named → file ≡ get_or named (left - 1) file → AreAmong paths named → Contains paths file.0
listed paths named left file some within at among =
    subst (λ (f : Path × Attr). Contains paths f.0) (sym at)
    (All-get_or (λ (f : Path × Attr). Contains paths f.0) named (left - 1) file (omega arith) among)

pub paths_lettered : (named : List (Path × Attr)) (paths : List Path) → paths_of (lettered named paths) ≡ paths
paths_lettered named [] = refl
paths_lettered named (path ∷ paths) = ap (λ (ps : List Path). path ∷ ps) (paths_lettered named paths)

-- what is read is the list, by which the files have their letters
pub lettered_by : (bytes : List ℕ) (named files : List (Path × Attr)) (paths : List Path) → AreLettered named
    → attrs_text named ≡ bytes → AreAmong paths named → files ≡ lettered named paths
    → (paths_of files ≡ paths) × AreLetteredBy bytes files
lettered_by bytes named files paths are spelled among each =
    let same : paths_of files ≡ paths = ap paths_of each ∙ paths_lettered named paths in (
      same,
      record {
        named = named;
        are = are;
        spelled = spelled;
        among = subst (λ (ps : List Path). AreAmong ps named) (sym same) among;
        each = each ∙ ap (lettered named) (sym same);
      },
    )

-- without a list none has letters
pub none_lettered : (files : List (Path × Attr)) (attrs : List Attr) (paths : List Path)
    → attrs ≡ map (λ path. no_letters) paths → files ≡ zip paths attrs
    → (paths_of files ≡ paths) × (files ≡ without_letters (paths_of files))
none_lettered files attrs paths none are =
    let all : files ≡ without_letters paths = are ∙ ap (zip paths) none ∙ zipped (λ path. no_letters) paths in
    let same : paths_of files ≡ paths = ap paths_of all ∙ paths_lettered [] paths in
    (same, all ∙ ap without_letters (sym same))

-- the paths at a place rise
pub found_rise : (name : List ℕ) (single : Bool) (paths : List Path) → AreFound name single paths
    → IsStrictlySortedBy path_cmp paths
unfolding IsStrictlySortedBy
found_rise name true paths one = subst (IsStrictlySortedBy path_cmp) (sym one) (tt, tt)
found_rise name false paths (rising, short) = rising
