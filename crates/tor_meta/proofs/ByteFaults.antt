-- The first byte that fails, under the number of the list and under that which was handed in.
use Rattle.std.proofs.Common.{◌≡◌, ℕ, zero, suc, ◌+◌, ◌<◌, List as ListOf, [], ◌∷◌, length, get_or, map, option_map}
use Rattle.std.proofs.Common.{Option, None, Some, refl, ap, ap₂, subst, ◌∙◌, arith, zero-add}
use Rattle.std.specs.List.{enumerate_from, range_with_len}
use Rattle.std.specs.Option.{option_or}
use Rattle.std.proofs.lemmas.List.{get_or-map, length-map}
use Rattle.tor_sums.specs.Fault.{byte_fault, file_fault, first_byte_fault, first_of}
use Rattle.tor_sums.specs.declared.errors.EngineError.{EngineError}
use Rattle.tor_sums.specs.declared.errors.EngineError.TheVariants.{Read as EngineRead}
use Rattle.tor_meta.specs.Make.{byte_told, bytes_fault, content_at, listed_files}
use Rattle.tor_meta.specs.MakeError.{of_engine_error}
use Rattle.tor_meta.specs.steps.IndexedFiles.{facts_at, renumbered}
use Rattle.tor_meta.specs.declared.make_error.MakeError.{MakeError}
use Rattle.tor_meta.specs.declared.make_error.MakeError.TheVariants.{Hashing}
use Rattle.tor_meta.proofs.SourceFiles.{Entries}
use Rattle.tor_source.specs.Source.{SourceFacts}
use Rattle.tor_tree.specs.FileList.{lengths_of}
use Rattle.tor_tree.specs.PathList.{indices_of}

-- a function of what is the first, and the first of a function's values
first_after : {A B C : Type 0} (f : B → C) (found : A → Option B) (told : A → Option C) (xs : ListOf A)
    → ((x : A) → option_map f (found x) ≡ told x) → option_map f (first_of found xs) ≡ first_of told xs
unfolding first_of
first_after f found told [] same = refl
first_after f found told (x ∷ xs) same =
    of_either (found x) (first_of found xs) ∙ ap₂ (λ a b. option_or a b) (same x) (first_after f found told xs same)
  where
    of_either : (a b : Option _) → option_map f (option_or a b) ≡ option_or (option_map f a) (option_map f b)
    of_either None b = refl
    of_either (Some y) b = refl

-- elements by their indices
first_by_index : {A B C : Type 0} (found : ℕ → A → Option C) (told : B → Option C) (g : B → A) (a : ℕ) (xs : ListOf B)
    → ((k : ℕ) (d : B) → k < length xs → found (a + k) (g (get_or xs k d)) ≡ told (get_or xs k d))
    → first_of (λ p. found p.0 p.1) (enumerate_from a (map g xs)) ≡ first_of told xs
unfolding first_of
first_by_index found told g a [] same = refl
first_by_index found told g a (x ∷ xs) same =
    let here : a + 0 ≡ a = omega arith in
    ap₂ (λ p q. option_or p q) (subst (λ n. found n (g x) ≡ told x) here (same zero x (omega arith)))
    (first_by_index found told g (a + 1) xs (λ k d less.
    let next : a + suc k ≡ a + 1 + k = omega arith in
    subst (λ n. found n (g (get_or xs k d)) ≡ told (get_or xs k d)) next (same (suc k) d (omega arith))))

module _ {F : Type 0} (facts : SourceFacts F) (entries : Entries) where
  abbrev told_as : EngineError F → MakeError F
  told_as error = of_engine_error (renumbered (indices_of entries) error)

  renamed : (k n : ℕ) (offset : ℕ) (fault : Option F) → get_or (indices_of entries) k k ≡ n
      → option_map told_as (option_map (λ f. EngineRead k (Some offset) f) fault)
      ≡ option_map (λ f. Hashing (EngineRead n (Some offset) f)) fault
  renamed k n offset None is = refl
  renamed k n offset (Some f) is = ap (λ m. Some (Hashing (EngineRead m (Some offset) f))) is

  there : (k : ℕ) (d : ListOf (ListOf ℕ) × ℕ) (e : ℕ) → k < length entries
      → get_or (indices_of entries) k e ≡ (get_or entries k d).1
  there k d e less = get_or-map (λ (entry : ListOf (ListOf ℕ) × ℕ). entry.1) entries k d e less

  at_byte : (k : ℕ) (d : ListOf (ListOf ℕ) × ℕ) → k < length entries → (offset : ℕ)
      → option_map told_as (byte_fault (facts_at (indices_of entries) facts) k offset)
      ≡ byte_told facts (get_or entries k d).1 offset
  at_byte k d less offset =
      let inside : k < length (indices_of entries) = omega (arith, less, length-map entries (λ entry. entry.1)) in
      renamed k (get_or entries k d).1 offset _ (there k d k less)
      ∙ ap (option_map (λ f. Hashing (EngineRead (get_or entries k d).1 (Some offset) f)))
      (get_or-map (λ j. facts.byte_fault j offset) (indices_of entries) k 0 None inside
      ∙ ap (λ j. facts.byte_fault j offset) (there k d 0 less))

  lengths_listed : (es : Entries) → lengths_of (listed_files facts es)
      ≡ map (λ entry. length (content_at facts entry.1)) es
  lengths_listed [] = refl
  lengths_listed (entry ∷ es) = ap (λ ns. length (content_at facts entry.1) ∷ ns) (lengths_listed es)

  pub byte_fault_told : option_map told_as
      (first_byte_fault (facts_at (indices_of entries) facts) (lengths_of (listed_files facts entries)))
      ≡ bytes_fault facts entries
  byte_fault_told =
      let moved = facts_at (indices_of entries) facts in
      ap (λ lengths. option_map told_as (first_byte_fault moved lengths)) (lengths_listed entries)
      ∙ first_after told_as (λ file. file_fault moved file.0 file.1)
      (λ file. option_map told_as (file_fault moved file.0 file.1))
      (enumerate_from 0 (map (λ entry. length (content_at facts entry.1)) entries)) (λ file. refl)
      ∙ first_by_index (λ file count. option_map told_as (file_fault moved file count))
      (λ entry. first_of (byte_told facts entry.1) (range_with_len 0 (length (content_at facts entry.1))))
      (λ entry. length (content_at facts entry.1)) 0 entries
      (λ k d less.
      let entry = get_or entries k d in
      ap (λ n. option_map told_as (file_fault moved n (length (content_at facts entry.1)))) (zero-add k)
      ∙ first_after told_as (byte_fault moved k) (byte_told facts entry.1)
      (range_with_len 0 (length (content_at facts entry.1))) (at_byte k d less))
