-- Files that were put into the order of their paths, each with its index among those handed in.
use Rattle.std.proofs.Common.{◌≡◌, ℕ, zero, suc, ◌<◌, Vec, Global, List, [], ◌∷◌, length}
use Rattle.std.proofs.Common.{get_or, map, Option, None, Some, refl, sym, ap, ◌∙◌, arith}
use Rattle.std.specs.List.{All, AllByRecursion, range_with_len}
use Rattle.std.specs.List.Sorted.{IsPermutation}
use Rattle.std.specs.Option.{option_or}
use Rattle.std.proofs.lemmas.List.{length-map}
use Rattle.std.proofs.lemmas.List.Elements.{All-from_recursion, recursion_from_All}
use Rattle.std.proofs.lemmas.List.Sorted.{All-permutation}
use Rattle.std.proofs.lemmas.List.FromFn.{get_or-range_with_len, length-range_with_len}
use Rattle.tor_meta.specs.Contents.{files_in}
use Rattle.tor_meta.specs.steps.Contents.{contents_at, files_of}
use Rattle.tor_spec.specs.Facts.{File}
use Rattle.tor_tree.specs.FileList.{lengths_of, paths_of, without_letters}
use Rattle.tor_tree.specs.Letters.{no_letters}
use Rattle.tor_tree.specs.declared.attr.Attr.{Attr}
use Rattle.tor_tree.specs.PathList.{AreIndices, AreIndexedPaths, indices_of}
use Rattle.tor_tree.proofs.ProvedLaws.{at_indices}

-- the lengths at the indices are those of the contents there
pub length_at : (contents : List (Vec ℕ Global)) (k : ℕ)
    → length (get_or (map (λ content. content.items) contents) k [])
    ≡ get_or (map (λ content. length content.items) contents) k 0
length_at [] k = refl
length_at (content ∷ contents) zero = refl
length_at (content ∷ contents) (suc k) = length_at contents k

pub lengths_at : (contents : List (Vec ℕ Global)) (entries : List (List (List ℕ) × ℕ))
    → map length (contents_at contents (indices_of entries))
    ≡ lengths_of
    (map (λ entry. (entry.0, get_or (map (λ content. length content.items) contents) entry.1 0)) entries)
lengths_at contents [] = refl
lengths_at contents (entry ∷ entries) = rw (length_at contents entry.1, lengths_at contents entries) refl

-- each index is that of one who was handed in
pub indices_within : (n : ℕ) (indices : List ℕ) → AreIndices indices → length indices ≡ n
    → All (λ index. index < n) indices
indices_within n indices are count =
    All-permutation (λ index. index < n) (range_with_len 0 (length indices)) indices are (λ k d lt. within k d lt)
  where
    within : (k d : ℕ) → k < length (range_with_len 0 (length indices))
        → get_or (range_with_len 0 (length indices)) k d < n
    within k d lt =
        let inside : k < length indices = omega (arith, length-range_with_len 0 (length indices)) in
        rw (get_or-range_with_len 0 (length indices) k d inside) (omega arith)

-- the file at an index
file_at : (files : List (List (List ℕ) × Vec ℕ Global)) (k : ℕ) (d : File) → k < length files
    → get_or (files_in files) k d ≡ record {
      path = get_or (map (λ file. file.0) files) k [];
      content = get_or (map (λ content. content.items) (map (λ file. file.1) files)) k [];
      attr = no_letters;
    }
file_at [] k d lt = absurd (omega arith)
file_at (file ∷ files) zero d lt = refl
file_at (file ∷ files) (suc k) d lt = file_at files k d (omega arith)

-- the files of the list with their contents are those at the indices
pub files_at : (files : List (List (List ℕ) × Vec ℕ Global)) (d : File) (entries : List (List (List ℕ) × ℕ))
    → AllByRecursion (λ entry. get_or (map (λ file. file.0) files) entry.1 [] ≡ entry.0) entries
    → AllByRecursion (λ entry. entry.1 < length files) entries
    → files_of (without_letters
    (map (λ entry. (entry.0, get_or (map (λ content. length content.items) (map (λ file. file.1) files)) entry.1 0))
    entries)) (contents_at (map (λ file. file.1) files) (indices_of entries))
    ≡ map (λ index. get_or (files_in files) index d) (indices_of entries)
files_at files d [] found within = refl
files_at files d (entry ∷ entries) found within =
    rw (file_at files entry.1 d within.0, found.0, files_at files d entries found.1 within.1) refl

within_entries : (n : ℕ) (entries : List (List (List ℕ) × ℕ)) → All (λ index. index < n) (indices_of entries)
    → All (λ (entry : List (List ℕ) × ℕ). entry.1 < n) entries
within_entries n entries h = All-from_recursion _ entries (each entries (recursion_from_All _ (indices_of entries) h))
  where
    each : (es : List (List (List ℕ) × ℕ)) → AllByRecursion (λ index. index < n) (indices_of es)
        → AllByRecursion (λ (entry : List (List ℕ) × ℕ). entry.1 < n) es
    each [] h = tt
    each (e ∷ es) h = (h.0, each es h.1)

-- in other words, they are those that were handed in
pub files_moved : (files : List (List (List ℕ) × Vec ℕ Global)) (entries : List (List (List ℕ) × ℕ))
    → AreIndexedPaths (map (λ file. file.0) files) entries
    → IsPermutation (files_in files)
    (files_of (without_letters
    (map (λ entry. (entry.0, get_or (map (λ content. length content.items) (map (λ file. file.1) files)) entry.1 0))
    entries)) (contents_at (map (λ file. file.1) files) (indices_of entries)))
files_moved files entries indexed =
    let none : File = record { path = []; content = []; attr = no_letters } in
    let paths = map (λ (file : List (List ℕ) × Vec ℕ Global). file.0) files in
    let handed : length entries ≡ length files = rw length-map at indexed.one_each in
    let count : length (indices_of entries) ≡ length files = rw length-map handed in
    let within : All (λ (entry : List (List ℕ) × ℕ). entry.1 < length files) entries =
    within_entries (length files) entries (indices_within (length files) (indices_of entries) indexed.indices count) in
    let same =
    files_at files none entries (recursion_from_All _ entries indexed.found) (recursion_from_All _ entries within) in
    rw same (at_indices (files_in files) none (indices_of entries) indexed.indices (count ∙ sym (simp length-map)))

pub paths_moved : (lengths : ℕ → ℕ) (contents : ℕ → List ℕ) (attrs : List Attr) (entries : List (List (List ℕ) × ℕ))
    → length attrs ≡ length entries
    → map (λ (file : File). file.path)
    (files_of (record { files = map (λ entry. (entry.0, lengths entry.1)) entries; attrs = attrs })
    (map contents (indices_of entries)))
    ≡ paths_of entries
paths_moved lengths contents attrs [] many = refl
paths_moved lengths contents [] (entry ∷ entries) many = absurd (omega (arith, many))
paths_moved lengths contents (attr ∷ attrs) (entry ∷ entries) many =
    ap (λ ps. entry.0 ∷ ps) (paths_moved lengths contents attrs entries (omega (arith, many)))

-- the paths and the lengths of the files that were handed in
pub handed_paths : (files : List (List (List ℕ) × Vec ℕ Global))
    → map (λ (file : File). file.path) (files_in files) ≡ map (λ file. file.0) files
handed_paths [] = refl
handed_paths (file ∷ files) = ap (λ ps. file.0 ∷ ps) (handed_paths files)

pub handed_lengths : (files : List (List (List ℕ) × Vec ℕ Global))
    → map (λ (file : File). length file.content) (files_in files)
    ≡ map (λ content. length content.items) (map (λ file. file.1) files)
handed_lengths [] = refl
handed_lengths (file ∷ files) = ap (λ ns. length file.1.items ∷ ns) (handed_lengths files)

pub or_first : {X : Type 0} (a b : Option X) (x : X) → a ≡ Some x → option_or a b ≡ Some x
or_first None b x h = cc
or_first (Some y) b x h = h

pub or_second : {X : Type 0} (a b c : Option X) → a ≡ None → b ≡ c → option_or a b ≡ c
or_second None b c h k = k
or_second (Some y) b c h k = cc
