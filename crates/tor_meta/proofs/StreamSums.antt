-- What readers give, as a head and a list of files ask for it.
use Rattle.std.proofs.Common.{◌≡◌, ℕ, zero, suc, ◌+◌, ◌≤◌, List, [], ◌∷◌, length, map, get_or, Option, None}
use Rattle.std.proofs.Common.{Some, arith, refl, sym, ap, ap₂, subst, ◌∙◌, ◌⊎◌, inl, inr, IsTrue}
use Rattle.std.specs.Int.{is_power_of_two}
use Rattle.std.specs.List.Sorted.{IsPermutation, IsStrictlySortedBy}
use Rattle.std.proofs.lemmas.List.Sorted.{IsPermutation-refl}
use Rattle.std.specs.List.{AllZip, enumerate_from, zip}
use Rattle.std.proofs.lemmas.List.{length-map}
use Rattle.std.proofs.lemmas.Simd.{map-map}
use Rattle.std.proofs.lemmas.Slice.Zip.{AllZip-long, seconds-zip}
use Rattle.tor_streams.specs.Streams.{GiveContents}
use Rattle.tor_sums.specs.declared.sums.Sums.{Sums}
use Rattle.tor_merkle.specs.declared.TheConstants.{MAX_PIECE_LENGTH, MIN_PIECE_LENGTH}
use Rattle.tor_meta.specs.Contents.{IsMadeOfSome, files_with}
use Rattle.tor_meta.specs.steps.Contents.{files_of}
use Rattle.tor_meta.specs.MakeError.{of_contents_error}
use Rattle.tor_meta.specs.MakeStreams.{IsGivenByReaders}
use Rattle.tor_meta.specs.Head.{settings_of}
use Rattle.tor_meta.specs.Refusal.{paths_refusal}
use Rattle.tor_meta.specs.steps.Sums.{AreSumsOfSettings, IsJudged, SumUp}
use Rattle.tor_meta.specs.declared.head.Head.{Head}
use Rattle.tor_meta.specs.declared.refusals.ContentsError.{ContentsError}
use Rattle.tor_meta.specs.declared.refusals.ContentsError.TheVariants.{List as ContentsList, Memory}
use Rattle.tor_meta.proofs.FromSource.{pairs_with, paths_with}
use Rattle.tor_meta.proofs.Made.{judged_list}
use Rattle.tor_meta.proofs.SourceSums.{sums_of_files}
use Rattle.tor_plan.specs.PlanFacts.{IsPlanPieceLength}
use Rattle.tor_spec.specs.Metainfo.{metainfo}
use Rattle.tor_spec.specs.Settings.{Settings}
use Rattle.tor_tree.specs.FileList.{IsFileList, LetteredFiles, lengths_fault, lengths_of, paths_of}
use Rattle.tor_tree.specs.declared.attr.Attr.{Attr}
use Rattle.tor_tree.specs.Path.{path_cmp}
use Rattle.tor_tree.specs.PathList.{AreIndexedPaths, with_indices}
use Rattle.tor_tree.specs.declared.kinds.Kind.{Kind}
use Rattle.tor_tree.specs.declared.kinds.Kind.TheVariants.{V1, V2, Hybrid}
use Rattle.tor_tree.specs.declared.lists.ListError.TheVariants.{TooLarge}

abbrev Paths : Type 0
Paths = List (List (List ℕ))

abbrev Files : Type 0
Files = List (List (List ℕ) × Attr)

abbrev pub attrs_of : Files → List Attr
attrs_of files = map (λ file. file.1) files

-- sums of contents have their lengths
pub lengths_read : (settings : Settings) (contents : List (List ℕ)) (sums : Sums)
    → AreSumsOfSettings settings contents sums → sums.lengths.items ≡ map length contents
lengths_read settings contents sums up =
    (up (map (λ content. ([], length content)) contents)
    (sym (map-map (λ (file : List (List ℕ) × ℕ). file.1) (λ (content : List ℕ). ([], length content))
    contents))).lengths

-- the files of a list with the lengths of contents
pub files_listed : (files : Files) (contents : List (List ℕ)) → length contents ≡ length files
    → files_of (record { files = zip (paths_of files) (map length contents); attrs = attrs_of files }) contents
    ≡ files_with files contents
files_listed [] [] same = refl
files_listed [] (content ∷ contents) same = absurd (omega (arith, same))
files_listed (file ∷ files) [] same = absurd (omega (arith, same))
files_listed (file ∷ files) (content ∷ contents) same =
    ap (λ others. record { path = file.0; content = content; attr = file.1 } ∷ others)
    (files_listed files contents (omega (arith, same)))

-- what is put in the order of indices 0, 1, .. is paired in this order
pub paired : (paths : Paths) (lengths : List ℕ) → length lengths ≡ length paths
    → map (λ (entry : List (List ℕ) × ℕ). (entry.0, get_or lengths entry.1 0)) (with_indices paths) ≡ zip paths lengths
paired paths lengths same =
    map-map (λ (entry : List (List ℕ) × ℕ). (entry.0, get_or lengths entry.1 0)) (λ p. (p.1, p.0))
    (enumerate_from 0 paths)
    ∙ from 0 paths lengths lengths same (λ k. ap (λ j. get_or lengths j 0) (zero_plus k))
  where
    zero_plus : (k : ℕ) → 0 + k ≡ k
    zero_plus k = omega arith

    from : (a : ℕ) (ps : Paths) (ns all : List ℕ) → length ns ≡ length ps
        → ((k : ℕ) → get_or all (a + k) 0 ≡ get_or ns k 0)
        → map (λ (p : ℕ × List (List ℕ)). (p.1, get_or all p.0 0)) (enumerate_from a ps) ≡ zip ps ns
    from a [] ns all same at = refl
    from a (path ∷ ps) [] all same at = absurd (omega (arith, same))
    from a (path ∷ ps) (n ∷ ns) all same at =
        let here : a + 0 ≡ a = omega arith in
        let first : get_or all a 0 ≡ n = ap (λ j. get_or all j 0) (sym here) ∙ at zero in
        let rest = from (a + 1) ps ns all (omega (arith, same)) (λ k.
        let next : a + 1 + k ≡ a + suc k = omega arith in ap (λ j. get_or all j 0) next ∙ at (suc k)) in
        ap₂ (λ m files. (path, m) ∷ files) first rest

-- the sums of what readers give, for a list of the files that have it
pub sum_up : (head : Head) (paths : Paths) (contents : List (List ℕ)) (sums : Sums) → length contents ≡ length paths
    → IsJudged head (zip paths sums.lengths.items) → AreSumsOfSettings (settings_of head) contents sums
    → (map length contents ≡ lengths_of (zip paths sums.lengths.items))
    × SumUp head (zip paths sums.lengths.items) contents sums
sum_up head paths contents sums many judged up =
    let same = lengths_read (settings_of head) contents sums up in
    let long : length sums.lengths.items ≡ length paths = ap length same ∙ length-map contents length ∙ many in
    let fit : map length contents ≡ lengths_of (zip paths sums.lengths.items) =
    sym same ∙ sym (seconds-zip paths sums.lengths.items long) in (
      fit,
      sums_of_files head (zip paths sums.lengths.items) contents sums judged
          (up (zip paths sums.lengths.items) fit),
    )

pub known_long : {A B : Type 0} (R : A → B → Type 0) (xs : List A) (ys : List B) (n : ℕ) → length xs ≡ n
    → AllZip R xs ys → length ys ≡ n
known_long R xs ys n same each = AllZip-long R xs ys each ∙ same

-- all that the torrent of what was read is made of
pub record IsListed (head : Head) (named : Files) (list : LetteredFiles) (sums : Sums)
    (contents : List (List ℕ)) : Type 0 where
  pub judged : IsJudged head list.files
  pub fit : map length contents ≡ lengths_of list.files
  pub up : SumUp head list.files contents sums
  pub files : files_of list contents ≡ files_with named contents

module _ (head : Head) (files : Files) (list : LetteredFiles) (sums : Sums) (contents : List (List ℕ))
    (are : list.files ≡ zip (paths_of files) sums.lengths.items) (letters : list.attrs ≡ attrs_of files)
    (many : length contents ≡ length files) (up : AreSumsOfSettings (settings_of head) contents sums) where
  as_listed : files_of list contents ≡ files_with files contents
  as_listed =
      let read = lengths_read (settings_of head) contents sums up in
      ap₂ (λ (fs : List (List (List ℕ) × ℕ)) (xs : List Attr).
      let l : LetteredFiles = record { files = fs; attrs = xs } in files_of l contents)
      (are ∙ ap (zip (paths_of files)) read) letters
      ∙ files_listed files contents many

  -- a list that has these paths, lengths and letters has all that the torrent is made of
  pub summed_list : IsJudged head list.files → IsListed head files list sums contents
  summed_list judged =
      let long : length contents ≡ length (paths_of files) = many ∙ sym (length-map files (λ file. file.0)) in
      let both = sum_up head (paths_of files) contents sums long (subst (IsJudged head) are judged) up in
      let there = subst (λ (l : List (List (List ℕ) × ℕ)). (map length contents ≡ lengths_of l)
      × SumUp head l contents sums) (sym are) both in
      record { judged = judged; fit = there.0; up = there.1; files = as_listed }

pub listed : (head : Head) (settings : Settings) (files : Files) (entries : List (List (List ℕ) × ℕ))
    (list : LetteredFiles) (lengths : List ℕ) (sums : Sums) (contents : List (List ℕ)) → settings_of head ≡ settings
    → paths_refusal settings (paths_of files) ≡ None → AreIndexedPaths (paths_of files) entries
    → entries ≡ with_indices (paths_of files) → lengths ≡ sums.lengths.items
    → list.files ≡ zip (paths_of files) lengths → list.attrs ≡ attrs_of files → IsFileList list.files
    → length contents ≡ length files → AreSumsOfSettings settings contents sums
    → IsListed head files list sums contents
listed head settings files entries list lengths sums contents of_head accepted indexed same is are letters lawful many
    up =
    let paths = paths_of files in
    let up_head = subst (λ (s : Settings). AreSumsOfSettings s contents sums) (sym of_head) up in
    let long : length lengths ≡ length paths =
    ap length (is ∙ lengths_read (settings_of head) contents sums up_head)
    ∙ length-map contents length ∙ many ∙ sym (length-map files (λ file. file.0)) in
    let judged = judged_list head paths lengths entries list.files indexed
    (subst (λ (s : Settings). paths_refusal s paths ≡ None) (sym of_head) accepted)
    (are ∙ sym (paired paths lengths long)
    ∙ ap (λ es. map (λ (entry : List (List ℕ) × ℕ). (entry.0, get_or lengths entry.1 0)) es) (sym same)) lawful in
    summed_list head files list sums contents (are ∙ ap (zip paths) is) letters many up_head judged

-- lengths that are refused are those of what was given
pub given_large : (F : Type 0) (known : List (Option (List ℕ))) (contents : List (List ℕ)) (lengths : List ℕ)
    (refusal : ContentsError) → GiveContents known contents → lengths ≡ map length contents
    → (refusal ≡ Memory) ⊎ ((refusal ≡ ContentsList TooLarge) × (lengths_fault lengths ≡ Some TooLarge))
    → IsGivenByReaders {F = F} known (of_contents_error refusal)
given_large F known contents lengths refusal given are (inl memory) =
    subst (λ (e : ContentsError). IsGivenByReaders {F = F} known (of_contents_error e)) (sym memory) tt
given_large F known contents lengths refusal given are (inr (large, fault)) =
    subst (λ (e : ContentsError). IsGivenByReaders {F = F} known (of_contents_error e)) (sym large)
    (contents, given, ap lengths_fault (sym are) ∙ fault)

-- pieces of a torrent with a tree are those of one without
pub plan_pieces : (kind : Kind) (p : ℕ) → IsTrue (is_power_of_two p) × (MIN_PIECE_LENGTH ≤ p) × (p ≤ MAX_PIECE_LENGTH)
    → IsPlanPieceLength kind p
plan_pieces V1 p (power, least, most) = (omega (arith, least), omega (arith, most))
plan_pieces V2 p (power, least, most) = (power, omega (arith, least), omega (arith, most))
plan_pieces Hybrid p (power, least, most) = (power, omega (arith, least), omega (arith, most))

-- files whose paths rise stay in their order
pub made_in_order : (settings : Settings) (files : Files) (contents : List (List ℕ)) (bytes : List ℕ)
    → length contents ≡ length files → IsStrictlySortedBy path_cmp (paths_of files)
    → bytes ≡ metainfo settings (files_with files contents) → IsMadeOfSome settings files bytes
made_in_order settings files contents bytes many rising made = (
  files_with files contents,
  subst (IsPermutation files) (sym (pairs_with files contents many)) (IsPermutation-refl files),
  subst (IsStrictlySortedBy path_cmp) (sym (paths_with files contents many)) rising,
  made,
)
