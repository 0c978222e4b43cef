-- What is known of the files of a list, and the facts that sums tell of them.
use Rattle.std.proofs.Common.{◌≡◌, ℕ, ◌+◌, ◌<◌, ◌≤◌, ◌^◌, Bool, true, false, cond, List, []}
use Rattle.std.proofs.Common.{◌∷◌, length, map, nat_lt, Option, None, Some, sum_by, refl, sym, ap, ◌∙◌, arith}
use Rattle.std.specs.Int.{next_multiple_of}
use Rattle.std.specs.List.{All, AllByRecursion, list_any, zip}
use Rattle.std.specs.Option.{option_or}
use Rattle.std.proofs.lemmas.Bool.{ltb-false, or_parts}
use Rattle.std.proofs.lemmas.List.{length-map}
use Rattle.std.proofs.lemmas.List.Elements.{All-from_recursion}
use Rattle.std.proofs.lemmas.List.Sums.{sum_by-cons}
use Rattle.std.proofs.lemmas.Slice.Zip.{AllZip-long}
use Rattle.tor_meta.specs.Head.{settings_of}
use Rattle.tor_sums.specs.Sums.{lists_of}
use Rattle.tor_meta.specs.steps.Sums.{AreFactsOf, HaveTrees, IsJudged}
use Rattle.tor_meta.specs.declared.head.Head.{Head}
use Rattle.tor_sums.specs.declared.sums.Sums.{Sums}
use Rattle.tor_spec.specs.Facts.{Facts, attrs_in, listed, layers_in, roots_in}
use Rattle.tor_spec.specs.InfoDictionary.{total_size}
use Rattle.tor_spec.specs.Makeable.{AreMakeable}
use Rattle.tor_tree.specs.Kinds.{has_v2}
use Rattle.tor_tree.specs.FileList.{IsFileList, LetteredFiles, lengths_fault, lengths_of, lengths_too_large}
use Rattle.tor_tree.specs.FileList.{paths_fault}
use Rattle.tor_tree.specs.FileList.{paths_of}
use Rattle.tor_tree.specs.Path.{HasNames}
use Rattle.tor_tree.specs.TidyTree.{HasItsRoot}
use Rattle.tor_tree.specs.declared.attr.Attr.{Attr}
use Rattle.tor_tree.specs.declared.lists.ListError.{ListError}
use Rattle.tor_merkle.specs.declared.TheConstants.{MAX_LENGTH}
use Rattle.tor_tree.specs.declared.lists.TheConstants.{MAX_TOTAL, ROUNDING}
use Rattle.tor_tree.proofs.ProvedLaws.{paths_have_names}

second_none : {X : Type 0} (a b : Option X) → option_or a b ≡ None → b ≡ None
second_none None b h = h
second_none (Some x) b h = cc

not_large : (b : Bool) (fault : ListError) → cond b (Some fault) None ≡ None → b ≡ false
not_large true fault h = cc
not_large false fault h = refl

none_over : (lengths : List ℕ) → list_any (nat_lt MAX_LENGTH) lengths ≡ false
    → AllByRecursion (λ n. n ≤ MAX_LENGTH) lengths
none_over [] h = tt
none_over (n ∷ ns) h =
    let parts = or_parts (nat_lt MAX_LENGTH n) (list_any (nat_lt MAX_LENGTH) ns) h in
    (ltb-false MAX_LENGTH n parts.0, none_over ns parts.1)

rounds_up : (ns : List ℕ) → sum_by (λ n. n) ns ≤ sum_by (λ n. next_multiple_of n ROUNDING) ns
rounds_up [] = omega arith
rounds_up (n ∷ ns) =
    omega
    (arith, sum_by-cons (λ (m : ℕ). m) n ns, sum_by-cons (λ (m : ℕ). next_multiple_of m ROUNDING) n ns, rounds_up ns)

abbrev LengthsAreSmall : List ℕ → Type 0
LengthsAreSmall lengths = AllByRecursion (λ n. n ≤ MAX_LENGTH) lengths × (sum_by (λ n. n) lengths ≤ MAX_TOTAL)

small_lengths : (lengths : List ℕ) → lengths_fault lengths ≡ None → LengthsAreSmall lengths
small_lengths lengths h =
    let parts =
    or_parts (list_any (nat_lt MAX_LENGTH) lengths)
    (nat_lt MAX_TOTAL (sum_by (λ n. next_multiple_of n ROUNDING) lengths))
    (not_large (lengths_too_large lengths) _ h) in
    (none_over lengths parts.0, omega (arith, rounds_up lengths, ltb-false MAX_TOTAL _ parts.1))

of_list : (files : List (List (List ℕ) × ℕ)) → IsFileList files → LengthsAreSmall (lengths_of files)
of_list files h =
    small_lengths (lengths_of files)
    (second_none (paths_fault (paths_of files)) (lengths_fault (lengths_of files)) h.faultless)

-- no file of a list is longer than 63 bits tell
pub small_files : (files : List (List (List ℕ) × ℕ)) → IsFileList files → All (λ file. file.1 < 2 ^ 63) files
small_files files h = All-from_recursion _ files (each files (of_list files h).0)
  where
    each : (fs : List (List (List ℕ) × ℕ)) → AllByRecursion (λ n. n ≤ MAX_LENGTH) (lengths_of fs)
        → AllByRecursion (λ file. file.1 < 2 ^ 63) fs
    each [] h = tt
    each (f ∷ fs) h = (omega (arith, h.0), each fs h.1)

total-listed : (facts : List Facts) → total_size facts ≡ sum_by (λ n. n) (lengths_of (listed facts))
total-listed [] = refl
total-listed (f ∷ fs) = sum_by-cons (λ (file : Facts). file.size) f fs ∙ ap (λ n. f.size + n) (total-listed fs)
    ∙ sym (sum_by-cons (λ (n : ℕ). n) f.size (lengths_of (listed fs)))

pub small_total : (files : List (List (List ℕ) × ℕ)) (facts : List Facts) → IsFileList files → listed facts ≡ files
    → total_size facts < 2 ^ 63
small_total files facts h is_listed =
    omega (arith, (of_list files h).1, total-listed facts ∙ ap (λ fs. sum_by (λ n. n) (lengths_of fs)) is_listed)

-- how many bytes one file has
pub one_size : (facts : List Facts) (file : List (List ℕ) × ℕ) → listed facts ≡ file ∷ [] → total_size facts ≡ file.1
one_size facts file is_listed = total-listed facts ∙ ap (λ fs. sum_by (λ n. n) (lengths_of fs)) is_listed ∙ only file.1
  where
    only : (n : ℕ) → sum_by (λ m. m) (n ∷ []) ≡ n
    only n = omega (arith, sum_by-cons (λ (m : ℕ). m) n [])

pub named : (files : List (List (List ℕ) × ℕ)) → IsFileList files → All (λ file. HasNames file.0) files
named files h = λ k d lt. paths_have_names _ (h.named k d lt)

-- the facts of a list of files, with their letters, roots and layers
abbrev facts_from : List (List (List ℕ) × ℕ) → List Attr → List (Option (List ℕ)) → List (List (List ℕ)) → List Facts
facts_from files attrs roots layers =
    map (λ f. record { path = f.0.0; size = f.0.1; root = f.1.1.0; layer = f.1.1.1; attr = f.1.0 })
    (zip files (zip attrs (zip roots layers)))

-- facts of files, with letters, roots and layers for each
record AreFrom (files : List (List (List ℕ) × ℕ)) (attrs : List Attr) (roots : List (Option (List ℕ)))
    (layers : List (List (List ℕ))) : Type 0 where
  listed : listed (facts_from files attrs roots layers) ≡ files
  lettered : attrs_in (facts_from files attrs roots layers) ≡ attrs
  rooted : roots_in (facts_from files attrs roots layers) ≡ roots
  layered : layers_in (facts_from files attrs roots layers) ≡ layers

from_listed : (files : List (List (List ℕ) × ℕ)) (attrs : List Attr) (roots : List (Option (List ℕ)))
    (layers : List (List (List ℕ))) → length attrs ≡ length files → length roots ≡ length files
    → length layers ≡ length files → AreFrom files attrs roots layers
from_listed [] [] [] [] a e h = record { listed = refl; lettered = refl; rooted = refl; layered = refl }
from_listed [] (attr ∷ attrs) roots layers a e h = absurd (omega arith)
from_listed [] [] (root ∷ roots) layers a e h = absurd (omega arith)
from_listed [] [] [] (layer ∷ layers) a e h = absurd (omega arith)
from_listed (file ∷ files) [] roots layers a e h = absurd (omega arith)
from_listed (file ∷ files) (attr ∷ attrs) [] layers a e h = absurd (omega arith)
from_listed (file ∷ files) (attr ∷ attrs) (root ∷ roots) [] a e h = absurd (omega arith)
from_listed (file ∷ files) (attr ∷ attrs) (root ∷ roots) (layer ∷ layers) a e h =
    let rest = from_listed files attrs roots layers (omega arith) (omega arith) (omega arith) in
    record {
      listed = ap (λ fs. file ∷ fs) rest.listed;
      lettered = ap (λ (xs : List Attr). attr ∷ xs) rest.lettered;
      rooted = ap (λ rs. root ∷ rs) rest.rooted;
      layered = ap (λ ls. layer ∷ ls) rest.layered;
    }

bare : (files : List (List (List ℕ) × ℕ)) (attrs : List Attr) → List Facts
bare files attrs =
    map (λ file. record { path = file.0.0; size = file.0.1; root = None; layer = []; attr = file.1 }) (zip files attrs)

bare_listed : (files : List (List (List ℕ) × ℕ)) (attrs : List Attr) → length attrs ≡ length files
    → (listed (bare files attrs) ≡ files) × (attrs_in (bare files attrs) ≡ attrs)
unfolding bare
bare_listed [] [] a = (refl, refl)
bare_listed [] (attr ∷ attrs) a = absurd (omega arith)
bare_listed (file ∷ files) [] a = absurd (omega arith)
bare_listed (file ∷ files) (attr ∷ attrs) a =
    let rest = bare_listed files attrs (omega arith) in
    (ap (λ fs. file ∷ fs) rest.0, ap (λ (xs : List Attr). attr ∷ xs) rest.1)

-- sums tell facts of the files
pub facts_there : (head : Head) (list : LetteredFiles) (sums : Sums) → length list.attrs ≡ length list.files
    → HaveTrees head list.files sums → (facts : List Facts) × AreFactsOf head list sums facts
facts_there head list sums many trees = by_kind (has_v2 head.kind) refl
  where
    by_kind : (b : Bool) → has_v2 head.kind ≡ b → (facts : List Facts) × AreFactsOf head list sums facts
    by_kind true e =
        let long = AllZip-long HasItsRoot list.files sums.roots.items (trees.rooted e) in
        let count : length (lists_of sums.layers.items) ≡ length list.files = simp length-map (trees.layered e) in
        let told = from_listed list.files list.attrs sums.roots.items (lists_of sums.layers.items) many long count in (
          facts_from list.files list.attrs sums.roots.items (lists_of sums.layers.items),
          record {
            is_listed = told.listed;
            is_lettered = told.lettered;
            is_rooted = λ _. told.rooted;
            is_layered = λ _. told.layered;
          },
        )
    by_kind false e =
        let told = bare_listed list.files list.attrs many in (
          bare list.files list.attrs,
          record { is_listed = told.0; is_lettered = told.1; is_rooted = λ f. cc; is_layered = λ f. cc },
        )

-- a torrent may tell the facts
pub makeable : (head : Head) (list : LetteredFiles) (sums : Sums) (facts : List Facts)
    → IsJudged head list.files
    → HaveTrees head list.files sums → AreFactsOf head list sums facts → AreMakeable (settings_of head) facts
makeable head list sums facts judged trees told = record {
  piece_length = judged.piece_length;
  in_order = rw told.is_listed judged.is_list.in_order;
  named = rw told.is_listed (named list.files judged.is_list);
  short = rw told.is_listed judged.short;
  rooted = λ e. rw (told.is_listed, told.is_rooted e) (trees.rooted e);
  small = small_total list.files facts judged.is_list told.is_listed;
}
