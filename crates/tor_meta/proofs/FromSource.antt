-- A maker's answer over a source, of the files that were handed in.
use Rattle.std.proofs.Common.{◌≡◌, ℕ, zero, suc, ◌+◌, ◌<◌, List as ListOf, [], ◌∷◌, length}
use Rattle.std.proofs.Common.{get_or, map, None, unwrap_or, refl, sym, ap, ap₂, subst, ◌∙◌}
use Rattle.std.proofs.Common.{arith, zero-add, Some}
use Rattle.std.specs.List.{AllByRecursion, enumerate_from, range_with_len}
use Rattle.std.specs.List.Sorted.{IsPermutation, IsStrictlySortedBy}
use Rattle.std.proofs.lemmas.List.{get_or-map, length-map}
use Rattle.std.proofs.lemmas.List.Elements.{recursion_from_All}
use Rattle.std.proofs.lemmas.List.FromFn.{get_or-enumerate_from, length-enumerate_from}
use Rattle.tor_sums.specs.Contents.{contents_in}
use Rattle.tor_source.specs.Answers.{Answers}
use Rattle.tor_sums.specs.Given.{HasToldLengths}
use Rattle.tor_meta.specs.Contents.{files_with, IsMadeOf, IsMadeOfSome}
use Rattle.tor_meta.specs.Make.{IsMadeOfTold, content_at, files_of_source, lettered, letters_at, listed_files}
use Rattle.tor_meta.specs.steps.Contents.{files_of}
use Rattle.tor_meta.specs.steps.IndexedFiles.{facts_at}
use Rattle.tor_source.specs.Source.{SourceFacts}
use Rattle.tor_spec.specs.Facts.{File}
use Rattle.tor_spec.specs.Metainfo.{metainfo}
use Rattle.tor_spec.specs.Settings.{Settings}
use Rattle.tor_tree.specs.FileList.{LetteredFiles, lengths_of, paths_of}
use Rattle.tor_tree.specs.Letters.{no_letters}
use Rattle.tor_tree.specs.declared.attr.Attr.{Attr}
use Rattle.tor_tree.specs.Path.{path_cmp}
use Rattle.tor_tree.specs.PathList.{AreIndexedPaths, IsPathList, indices_of}
use Rattle.tor_tree.proofs.ProvedLaws.{at_indices}
use Rattle.tor_meta.proofs.Indexed.{paths_moved}
use Rattle.tor_meta.proofs.SourceFiles.{AreWithin, Entries, entries_within, told_of_listed}

-- a function of the numbers that is one of what stands there
by_index : {A B : Type 0} (f : A → B) (h : ℕ → B) (indices : ListOf A) (a : ℕ) → ((k : ℕ) (d : A) →
    k < length indices → h (a + k) ≡ f (get_or indices k d)) →
    map h (range_with_len a (length indices)) ≡ map f indices
by_index f h [] a at = refl
by_index f h (index ∷ indices) a at =
    let here : a + 0 ≡ a = omega arith in
    let first : h a ≡ f index = subst (λ n. h n ≡ f index) here (at zero index (omega arith)) in
    let later = by_index f h indices (a + 1) (λ k d less.
    let next : a + suc k ≡ a + 1 + k = omega arith in
    subst (λ n. h n ≡ f (get_or indices k d)) next (at (suc k) d (omega arith))) in
    rw (first, later) refl

-- a list with the letters of the files at these indices
abbrev list_at : ListOf (ListOf (ListOf ℕ) × Attr) → ListOf (ListOf (ListOf ℕ) × ℕ) → ListOf ℕ → LetteredFiles
list_at files list indices = record { files = list; attrs = map (letters_at files) indices }

same_list : (list : LetteredFiles) (files : ListOf (ListOf (ListOf ℕ) × ℕ)) (attrs : ListOf Attr) → list.files ≡ files
    → list.attrs ≡ attrs → ◌≡◌ {A = LetteredFiles} list (record { files = files; attrs = attrs })
same_list list files attrs a b =
    ap₂ (λ (fs : ListOf (ListOf (ListOf ℕ) × ℕ)) (xs : ListOf Attr).
    let l : LetteredFiles = record { files = fs; attrs = xs } in l) a b

module _ {F : Type 0} (facts : SourceFacts F) where
  pub contents_moved : (indices : ListOf ℕ) →
      contents_in (facts_at indices facts) (length indices) ≡ map (content_at facts) indices
  contents_moved indices =
      by_index (content_at facts) (λ k. unwrap_or (get_or (map facts.contents indices) k None) []) indices 0
      (λ k d less. rw (zero-add k) (ap (λ content. unwrap_or content [])
      (get_or-map facts.contents indices k d None less)))

  module _ (files : ListOf (ListOf (ListOf ℕ) × Attr)) where
    sorted : Entries → ListOf File
    sorted entries =
        map (λ entry. record { path = entry.0; content = content_at facts entry.1; attr = letters_at files entry.1 })
        entries

    in_order : (entries : Entries) → files_of (list_at files (listed_files facts entries) (indices_of entries))
        (map (content_at facts) (indices_of entries)) ≡ sorted entries
    unfolding sorted
    in_order [] = refl
    in_order (entry ∷ entries) =
        ap
        (λ others. record { path = entry.0; content = content_at facts entry.1; attr = letters_at files entry.1 } ∷
        others)
        (in_order entries)

    file_there : (k : ℕ) (d : File) → k < length files → get_or (files_of_source facts files) k d
        ≡ record { path = get_or (paths_of files) k []; content = content_at facts k; attr = letters_at files k }
    file_there k d less =
        let inside : k < length (enumerate_from 0 files) = omega (arith, less, length-enumerate_from 0 files) in
        let path = get_or-map (λ (file : ListOf (ListOf ℕ) × Attr). file.0) files k ([], no_letters) [] less in
        get_or-map
        (λ (file : ℕ × (ListOf (ListOf ℕ) × Attr)).
        record { path = file.1.0; content = content_at facts file.0; attr = file.1.1 })
        (enumerate_from 0 files) k (0, ([], no_letters)) d inside
        ∙ rw (get_or-enumerate_from 0 files k (0, ([], no_letters)) less, zero-add k, path) refl

    files_there : (d : File) (entries : Entries) →
        AllByRecursion (λ entry. get_or (paths_of files) entry.1 [] ≡ entry.0) entries →
        AreWithin (length files) entries →
        map (λ index. get_or (files_of_source facts files) index d) (indices_of entries) ≡ sorted entries
    unfolding sorted
    files_there d [] found within = refl
    files_there d (entry ∷ entries) found within =
        rw (file_there entry.1 d within.0, found.0, files_there d entries found.1 within.1) refl

    pub made_of : (settings : Settings) (entries : Entries) (list : LetteredFiles) (indices : ListOf ℕ)
        (bytes : ListOf ℕ) → AreIndexedPaths (paths_of files) entries →
        IsPathList entries → list.files ≡ listed_files facts entries →
        list.attrs ≡ map (letters_at files) (indices_of entries) → indices ≡ indices_of entries →
        bytes ≡ metainfo settings (files_of list (contents_in (facts_at indices facts) (length list.files))) →
        IsMadeOf settings (files_of_source facts files) bytes
    made_of settings entries list indices bytes indexed lawful are_files are_letters are_indices made =
        let none : File = record { path = []; content = []; attr = no_letters } in
        let many : length entries ≡ length files = indexed.one_each ∙ length-map files (λ file. file.0) in
        let count : length list.files ≡ length (indices_of entries) = rw are_files (simp length-map refl) in
        let is : list ≡ list_at files (listed_files facts entries) (indices_of entries) =
        same_list list _ _ are_files are_letters in
        let sums : files_of list (contents_in (facts_at indices facts) (length list.files)) ≡ sorted entries =
        ap (λ n. files_of list (contents_in (facts_at indices facts) n)) count
        ∙ ap (λ ks. files_of list (contents_in (facts_at ks facts) (length (indices_of entries)))) are_indices
        ∙ ap (files_of list) (contents_moved (indices_of entries))
        ∙ ap (λ l. files_of l (map (content_at facts) (indices_of entries))) is
        ∙ in_order entries in
        let within = entries_within (length files) entries indexed.indices many in
        let there = files_there none entries (recursion_from_All _ entries indexed.found) within in
        let long : length (indices_of entries)
        ≡ length (files_of_source facts files) = simp length-map (many ∙ sym (length-enumerate_from 0 files)) in (
          sorted entries,
          rw (← there) (at_indices (files_of_source facts files) none (indices_of entries) indexed.indices long),
          rw (← in_order entries) (rw (paths_moved (λ k. length (content_at facts k)) (content_at facts)
              (map (letters_at files) (indices_of entries)) entries
              (length-map (indices_of entries) (letters_at files) ∙ length-map entries (λ entry. entry.1)))
              lawful.in_order),
          made ∙ ap (metainfo settings) sums,
        )

-- the files of a list, whatever numbers stand beside the paths
same_files : (files : ListOf (ListOf (ListOf ℕ) × Attr)) (lengths : ListOf ℕ) (entries : Entries)
    (contents : ListOf (ListOf ℕ))
    → files_of (list_at files (map (λ entry. (entry.0, get_or lengths entry.1 0)) entries) (indices_of entries))
    contents
    ≡ files_with (lettered files entries) contents
same_files files lengths [] [] = refl
same_files files lengths [] (content ∷ contents) = refl
same_files files lengths (entry ∷ entries) [] = refl
same_files files lengths (entry ∷ entries) (content ∷ contents) =
    ap (λ others. record { path = entry.0; content = content; attr = letters_at files entry.1 } ∷ others)
    (same_files files lengths entries contents)

-- they have the paths and letters of the list
pub pairs_with : (files : ListOf (ListOf (ListOf ℕ) × Attr)) (contents : ListOf (ListOf ℕ))
    → length contents ≡ length files
    → map (λ (file : File). (file.path, file.attr)) (files_with files contents) ≡ files
pairs_with [] [] same = refl
pairs_with [] (content ∷ contents) same = refl
pairs_with (file ∷ files) [] same = absurd (omega (arith, same))
pairs_with (file ∷ files) (content ∷ contents) same =
    ap (λ (fs : ListOf (ListOf (ListOf ℕ) × Attr)). file ∷ fs) (pairs_with files contents (omega (arith, same)))

pub paths_with : (files : ListOf (ListOf (ListOf ℕ) × Attr)) (contents : ListOf (ListOf ℕ))
    → length contents ≡ length files
    → map (λ (file : File). file.path) (files_with files contents) ≡ paths_of files
paths_with [] [] same = refl
paths_with [] (content ∷ contents) same = refl
paths_with (file ∷ files) [] same = absurd (omega (arith, same))
paths_with (file ∷ files) (content ∷ contents) same =
    ap (λ (ps : ListOf (ListOf (ListOf ℕ))). file.0 ∷ ps) (paths_with files contents (omega (arith, same)))

-- what stands at the indices of paths
files_found : (files : ListOf (ListOf (ListOf ℕ) × Attr)) (entries : Entries)
    → AllByRecursion (λ entry. get_or (paths_of files) entry.1 [] ≡ entry.0) entries
    → AreWithin (length files) entries
    → map (λ index. get_or files index ([], no_letters)) (indices_of entries) ≡ lettered files entries
files_found files [] found within = refl
files_found files (entry ∷ entries) found within =
    let path = sym (get_or-map (λ (file : ListOf (ListOf ℕ) × Attr). file.0) files entry.1 ([], no_letters) [] within.0)
    ∙ found.0 in
    ap₂ (λ (f : ListOf (ListOf ℕ) × Attr) (fs : ListOf (ListOf (ListOf ℕ) × Attr)). f ∷ fs)
    (ap (λ (p : ListOf (ListOf ℕ)). (p, letters_at files entry.1)) path) (files_found files entries found.1 within.1)

paths_found : (files : ListOf (ListOf (ListOf ℕ) × Attr)) (entries : Entries)
    → paths_of (lettered files entries) ≡ paths_of entries
paths_found files [] = refl
paths_found files (entry ∷ entries) = ap (λ (ps : ListOf (ListOf (ListOf ℕ))). entry.0 ∷ ps) (paths_found files entries)

module _ (settings : Settings) (files : ListOf (ListOf (ListOf ℕ) × Attr)) (lengths : ListOf ℕ) (entries : Entries)
    (list : LetteredFiles) (contents : ListOf (ListOf ℕ)) (bytes : ListOf ℕ)
    (indexed : AreIndexedPaths (paths_of files) entries) (lawful : IsPathList entries)
    (is : list.files ≡ map (λ entry. (entry.0, get_or lengths entry.1 0)) entries)
    (are_letters : list.attrs ≡ map (letters_at files) (indices_of entries))
    (fit : map length contents ≡ lengths_of list.files)
    (made : bytes ≡ metainfo settings (files_of list contents)) where
  one_each : length contents ≡ length entries
  one_each =
      sym (length-map contents length) ∙ ap length fit ∙ length-map list.files (λ file. file.1) ∙ ap length is
      ∙ length-map entries (λ entry. (entry.0, get_or lengths entry.1 0))

  as_lettered : files_of list contents ≡ files_with (lettered files entries) contents
  as_lettered =
      ap (λ l. files_of l contents) (same_list list _ _ is are_letters) ∙ same_files files lengths entries contents

  of_lettered : bytes ≡ metainfo settings (files_with (lettered files entries) contents)
  of_lettered = made ∙ ap (metainfo settings) as_lettered

  pub made_of_some : IsMadeOfSome settings files bytes
  made_of_some =
      let many : length entries ≡ length files = indexed.one_each ∙ length-map files (λ file. file.0) in
      let long : length contents ≡ length (lettered files entries) =
      one_each ∙ sym (length-map entries (λ entry. (entry.0, letters_at files entry.1))) in
      let within = entries_within (length files) entries indexed.indices many in
      let found = files_found files entries (recursion_from_All _ entries indexed.found) within in
      let held : length (indices_of entries) ≡ length files = length-map entries (λ entry. entry.1) ∙ many in (
        files_with (lettered files entries) contents,
        subst (IsPermutation files) (found ∙ sym (pairs_with (lettered files entries) contents long))
            (at_indices files ([], no_letters) (indices_of entries) indexed.indices held),
        subst (IsStrictlySortedBy path_cmp)
            (sym (paths_with (lettered files entries) contents long ∙ paths_found files entries)) lawful.in_order,
        of_lettered,
      )

  -- contents of these lengths are of the lengths that were told
  pub made_of_told : {F : Type 0} (answers : Answers F) → length lengths ≡ length entries
      → HasToldLengths answers lengths → IsMadeOfTold answers settings files bytes
  made_of_told answers many asked =
      let within = entries_within (length lengths) entries indexed.indices (sym many) in
      record {
        entries = entries;
        contents = contents;
        indexed = (indexed, lawful.in_order);
        one_each = one_each;
        are_told = λ k less.
            let there : k < length (indices_of entries) = omega (arith, less, length-map entries (λ entry. entry.1)) in
            let inside : k < length contents = omega (arith, less, one_each) in
            let same : get_or (lengths_of (map (λ entry. (entry.0, get_or lengths entry.1 0)) entries)) k 0
            ≡ length (get_or contents k []) =
            ap (λ files. get_or (lengths_of files) k 0) (sym is) ∙ ap (λ ns. get_or ns k 0) (sym fit)
            ∙ get_or-map length contents k [] 0 inside in
            subst (λ (n : ℕ). answers.told (get_or (indices_of entries) k 0) (Some n)) same
            (told_of_listed answers lengths entries within asked k there);
        made = of_lettered;
      }
