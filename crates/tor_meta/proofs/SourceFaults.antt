-- The first fault of a source's files, in the order of the list and under the numbers that were handed in.
use Rattle.std.proofs.Common.{◌≡◌, ◌⊎◌, inl, inr, ℕ, zero, suc, ◌+◌, ◌<◌, ◌≤◌, List as ListOf, [], ◌∷◌, length}
use Rattle.std.proofs.Common.{get_or, map, option_map, Option, None, Some, refl, sym, ap, ap₂, subst, ◌∙◌}
use Rattle.std.proofs.Common.{arith, zero-add, Bool, true, false, nat_lt, Result, Ok, Err}
use Rattle.std.specs.List.{All, AllByRecursion, range_with_len}
use Rattle.std.proofs.lemmas.Bool.{eq-eqb, ltb-false, ltb-true}
use Rattle.std.proofs.lemmas.List.{get_or-map, length-map}
use Rattle.std.proofs.lemmas.List.Elements.{recursion_from_All}
use Rattle.std.proofs.lemmas.List.FromFn.{get_or-range_with_len}
use Rattle.std.proofs.lemmas.List.FromFn.{length-range_with_len}
use Rattle.tor_sums.specs.Fault.{change_from, first_byte_fault, first_length_fault, first_of, length_fault}
use Rattle.tor_sums.specs.Fault.{unless_told}
use Rattle.tor_sums.specs.declared.errors.EngineError.{EngineError}
use Rattle.tor_sums.specs.declared.errors.EngineError.TheVariants.{Resources as NoResources}
use Rattle.tor_meta.specs.Make.{IsMakeFault, asked_fault, bytes_fault, content_at, listed_files, plan_fault}
use Rattle.tor_meta.specs.MakeError.{of_engine_error, out_of_resources}
use Rattle.tor_meta.specs.steps.IndexedFiles.{facts_at, renumbered}
use Rattle.tor_meta.specs.declared.make_error.MakeError.{MakeError}
use Rattle.tor_meta.specs.declared.order.Order.{Order}
use Rattle.tor_source.specs.Source.{SourceFacts, told_length}
use Rattle.tor_tree.specs.FileList.{lengths_of}
use Rattle.tor_tree.specs.PathList.{AreIndexedPaths, IsPathList, indices_of}
use Rattle.tor_meta.proofs.ByteFaults.{byte_fault_told}
use Rattle.tor_meta.proofs.Judged.{both_none}
use Rattle.tor_meta.proofs.Indexed.{or_second, indices_within}
use Rattle.tor_meta.proofs.SourceFiles.{Entries}
use Rattle.tor_meta.proofs.SourceSums.{mapped_none}
use Rattle.tor_meta.proofs.FromSource.{contents_moved}

-- no fault of the files in one order is one of them in another
none_of : {B : Type 0} (found : ℕ → Option B) (ks : ListOf ℕ) → AllByRecursion (λ k. found k ≡ None) ks →
    first_of found ks ≡ None
unfolding first_of
none_of found [] h = refl
none_of found (k ∷ ks) h = rw h.0 (none_of found ks h.1)

each_none : {B : Type 0} (found : ℕ → Option B) (a n k : ℕ) → a ≤ k → k < a + n →
    first_of found (range_with_len a n) ≡ None → found k ≡ None
unfolding first_of
each_none found a zero k low high h = absurd (omega (arith, low, high))
each_none found a (suc n) k low high h =
    let both = both_none (found a) (first_of found (range_with_len (a + 1) n)) h in
    either (nat_lt a k) refl both.0 (λ less. each_none found (a + 1) n k less (omega (arith, high)) both.1)
  where
    either : (b : Bool) → nat_lt a k ≡ b → found a ≡ None → (a + 1 ≤ k → found k ≡ None) → found k ≡ None
    either true less here later = later (omega (arith, ltb-true a k less))
    either false past here later =
        let same : a ≡ k = omega (arith, low, ltb-false a k past) in
        subst (λ j. found j ≡ None) same here

same_change : (k : ℕ) (lengths : ListOf ℕ) → change_from k lengths lengths ≡ None
unfolding change_from
same_change k [] = refl
same_change k (one ∷ lengths) = rw (eq-eqb one one refl) (same_change (k + 1) lengths)

told_none : {F : Type 0} (file other : ℕ) (told : Result (Option ℕ) F) → unless_told other told ≡ None →
    unless_told file told ≡ None
told_none file other (Err fault) h = cc
told_none file other (Ok None) h = cc
told_none file other (Ok (Some n)) h = refl

module _ {F : Type 0} (facts : SourceFacts F) where
  lengths_listed : (entries : Entries) →
      map length (map (content_at facts) (indices_of entries)) ≡ lengths_of (listed_files facts entries)
  lengths_listed [] = refl
  lengths_listed (entry ∷ entries) = ap (λ ns. length (content_at facts entry.1) ∷ ns) (lengths_listed entries)

  told_there : (n : ℕ) (indices : ListOf ℕ) → All (λ index. index < n) indices →
      first_of (length_fault facts) (range_with_len 0 n) ≡ None →
      (k : ℕ) → k < length indices → length_fault (facts_at indices facts) k ≡ None
  told_there n indices within none k less =
      rw (get_or-map facts.length_fault indices k 0 None less, get_or-map facts.contents indices k 0 None less)
      (told_none k (get_or indices k 0) (told_length facts (get_or indices k 0))
      (each_none (length_fault facts) 0 n (get_or indices k 0) (omega arith) (omega (arith, within k 0 less)) none))

  all_told : (n : ℕ) (indices : ListOf ℕ) → All (λ index. index < n) indices →
      first_of (length_fault facts) (range_with_len 0 n) ≡ None →
      first_of (length_fault (facts_at indices facts)) (range_with_len 0 (length indices)) ≡ None
  all_told n indices within none =
      none_of (length_fault (facts_at indices facts)) (range_with_len 0 (length indices))
      (recursion_from_All _ (range_with_len 0 (length indices)) (λ k d less.
      let inside : k < length indices = omega (arith, less, length-range_with_len 0 (length indices)) in
      rw (get_or-range_with_len 0 (length indices) k d inside, zero-add k) (told_there n indices within none k inside)))

  lengths_moved : (n : ℕ) (entries : Entries) → All (λ index. index < n) (indices_of entries) →
      first_of (length_fault facts) (range_with_len 0 n) ≡ None →
      first_length_fault (facts_at (indices_of entries) facts) (lengths_of (listed_files facts entries)) ≡ None
  lengths_moved n entries within none =
      let long : length (lengths_of (listed_files facts entries)) ≡ length (indices_of entries) =
      simp length-map refl in
      let contents = ap (map length) (contents_moved facts (indices_of entries)) ∙ lengths_listed entries in
      rw (
        long,
        all_told n (indices_of entries) within none,
        contents,
        same_change 0
            (lengths_of (listed_files facts entries)),
      ) refl

  -- the lengths that were told are those of the list, in its order
  pub lengths_told : (paths : ListOf (ListOf (ListOf ℕ))) (entries list : Entries) (indices : ListOf ℕ) →
      AreIndexedPaths paths entries → asked_fault facts (length entries) ≡ None → list ≡ listed_files facts entries →
      indices ≡ indices_of entries → first_length_fault (facts_at indices facts) (lengths_of list) ≡ None
  lengths_told paths entries list indices indexed asked are_files are_indices =
      let count : length (indices_of entries) ≡ length entries = simp length-map refl in
      let within = indices_within (length entries) (indices_of entries) indexed.indices count in
      ap₂ (λ ps files. first_length_fault (facts_at ps facts) (lengths_of files)) are_indices are_files
      ∙ lengths_moved (length entries) entries within (mapped_none of_engine_error _ (both_none _ _ asked).0)

  pub fault_told : (order : Order) (paths : ListOf (ListOf (ListOf ℕ))) (entries list : Entries)
      (indices : ListOf ℕ) (error : EngineError F) (e : MakeError F) →
      AreIndexedPaths paths entries → IsPathList entries → plan_fault facts order paths ≡ None →
      list ≡ listed_files facts entries → indices ≡ indices_of entries →
      e ≡ of_engine_error (renumbered indices error) →
      (error ≡ NoResources) ⊎ (first_byte_fault (facts_at indices facts) (lengths_of list) ≡ Some error) →
      (e ≡ out_of_resources) ⊎ IsMakeFault facts order paths (Some e)
  fault_told order paths entries list indices error e indexed lawful planned are_files are is (inl none) =
      inl (is ∙ rw none refl)
  fault_told order paths entries list indices error e indexed lawful planned are_files are_indices is (inr h) =
      let listed = sym (ap₂ (λ ps files. first_byte_fault (facts_at ps facts) (lengths_of files)) are_indices are_files)
      ∙ h in
      let told : bytes_fault facts entries ≡ Some e =
      sym (byte_fault_told facts entries)
      ∙ ap (option_map (λ fault. of_engine_error (renumbered (indices_of entries) fault))) listed
      ∙ ap Some (sym (is ∙ ap (λ ps. of_engine_error (renumbered ps error)) are_indices)) in
      inr (record {
        entries = entries;
        indexed = λ _. (indexed, lawful.in_order);
        is_first = or_second (plan_fault facts order paths) _ (Some e) planned told;
      })

  pub fault_none : (order : Order) (paths : ListOf (ListOf (ListOf ℕ))) (entries list : Entries)
      (indices : ListOf ℕ) → AreIndexedPaths paths entries → IsPathList entries
      → plan_fault facts order paths ≡ None → list ≡ listed_files facts entries → indices ≡ indices_of entries →
      first_byte_fault (facts_at indices facts) (lengths_of list) ≡ None → IsMakeFault facts order paths None
  fault_none order paths entries list indices indexed lawful planned are_files are_indices none =
      let told : bytes_fault facts entries ≡ None =
      sym (byte_fault_told facts entries)
      ∙ ap (option_map (λ fault. of_engine_error (renumbered (indices_of entries) fault)))
      (sym (ap₂ (λ ps files. first_byte_fault (facts_at ps facts) (lengths_of files)) are_indices are_files) ∙ none) in
      record {
        entries = entries;
        indexed = λ _. (indexed, lawful.in_order);
        is_first = or_second (plan_fault facts order paths) _ None planned told;
      }
