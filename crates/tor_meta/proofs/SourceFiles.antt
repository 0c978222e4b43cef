-- The files of a source at the indices of a list of paths.
use Rattle.std.proofs.Common.{◌≡◌, ℕ, zero, suc, ◌<◌, Some, List, [], ◌∷◌, length, get_or, map}
use Rattle.std.proofs.Common.{refl, ap, ◌∙◌, arith, zero-add}
use Rattle.std.specs.List.{AllByRecursion}
use Rattle.std.proofs.lemmas.List.{get_or-map, length-map}
use Rattle.std.proofs.lemmas.List.Elements.{recursion_from_All}
use Rattle.std.proofs.lemmas.List.FromFn.{get_or-map-range_with_len, length-map-range_with_len}
use Rattle.tor_sums.specs.Contents.{contents_in}
use Rattle.tor_source.specs.Answers.{Answers}
use Rattle.tor_sums.specs.Given.{HasToldLengths}
use Rattle.tor_meta.specs.Make.{content_at, listed_files}
use Rattle.tor_meta.proofs.Indexed.{indices_within}
use Rattle.tor_source.specs.Source.{SourceFacts}
use Rattle.tor_tree.specs.FileList.{lengths_of}
use Rattle.tor_tree.specs.PathList.{AreIndices, indices_of}

abbrev pub Entries : Type 0
Entries = List (List (List ℕ) × ℕ)

abbrev pub AreWithin : ℕ → Entries → Type 0
AreWithin n entries = AllByRecursion (λ entry. entry.1 < n) entries

-- the indices of paths are those of the files
pub entries_within : (n : ℕ) (entries : Entries) → AreIndices (indices_of entries) → length entries ≡ n →
    AreWithin n entries
entries_within n entries indices count =
    each entries (recursion_from_All _ (indices_of entries)
    (indices_within n (indices_of entries) indices (simp length-map count)))
  where
    each : (es : Entries) → AllByRecursion (λ index. index < n) (indices_of es) → AreWithin n es
    each [] h = tt
    each (e ∷ es) h = (h.0, each es h.1)

-- lengths that were told of the files, in the order of the list
pub told_of_listed : {F : Type 0} (answers : Answers F) (lengths : List ℕ) (entries : Entries)
    → AreWithin (length lengths) entries → HasToldLengths answers lengths
    → (file : ℕ) → file < length (indices_of entries)
    → answers.told (get_or (indices_of entries) file 0)
    (Some (get_or (lengths_of (map (λ entry. (entry.0, get_or lengths entry.1 0)) entries)) file 0))
told_of_listed answers lengths [] within are file less = let none : ⊥ = omega (arith, less) in absurd none
told_of_listed answers lengths (entry ∷ entries) (here, rest) are zero less = are entry.1 here
told_of_listed answers lengths (entry ∷ entries) (here, rest) are (suc k) less =
    told_of_listed answers lengths entries rest are k (omega (arith, less))

module _ {F : Type 0} (facts : SourceFacts F) where
  length_there : (n k : ℕ) → k < n → get_or (map length (contents_in facts n)) k 0 ≡ length (content_at facts k)
  length_there n k less =
      let inside : k < length (contents_in facts n) = omega (arith, length-map-range_with_len (content_at facts) 0 n) in
      get_or-map length (contents_in facts n) k [] 0 inside
      ∙ ap length (get_or-map-range_with_len (content_at facts) 0 n k k [] less (zero-add k))

  -- lengths that were told in the order of the numbers, in that of the list
  pub listed_at : (n : ℕ) (entries : Entries) → AreWithin n entries →
      map (λ entry. (entry.0, get_or (map length (contents_in facts n)) entry.1 0)) entries ≡ listed_files facts entries
  listed_at n [] h = refl
  listed_at n (entry ∷ entries) h = rw (length_there n entry.1 h.0, listed_at n entries h.1) refl
