-- Lengths that are asked of files that may be missing.
use Rattle.std.proofs.Common.{◌≡◌, ◌≢◌, ◌<◌, ◌≤◌, ℕ, ◌+◌, Bool, List, [], ◌∷◌, ◌++◌, length, map, take, Option, None}
use Rattle.std.proofs.Common.{Some, Ok, true, false, cond, eqb, get_or, option_map, zero-add, true≢false, refl}
use Rattle.std.proofs.Common.{ap, ap₂, sym}
use Rattle.std.proofs.Common.{◌∙◌, arith}
use Rattle.std.specs.List.{enumerate_from, range_with_len}
use Rattle.std.specs.Option.{option_eq}
use Rattle.std.proofs.lemmas.Bool.{eq-eqb, eqb-true}
use Rattle.std.proofs.lemmas.List.{take_all}
use Rattle.std.proofs.lemmas.List.FromFn.{get_or-enumerate_from, length-enumerate_from, map-range_with_len_more}
use Rattle.tor_source.specs.Source.{SourceFacts, told_length, unless_fault}
use Rattle.tor_sums.specs.Fault.{first_of}
use Rattle.tor_engine.specs.PieceFault.{asked_fault, first_asked_fault, lengths_told}
use Rattle.tor_sums.specs.declared.errors.EngineError.{EngineError}
use Rattle.tor_sums.specs.declared.errors.EngineError.TheVariants.{Changed, Read}
use Rattle.tor_engine.specs.steps.Asked.{again_fault, first_again_fault, unless_same}
use Rattle.tor_sums.proofs.FirstOf.{first_at, first_found, first_next, first_none, neither, or_none}

option_equal : (o : Option ℕ) → option_eq eqb o o ≡ true
option_equal None = refl
option_equal (Some n) = eq-eqb n n refl

option_same : (one other : Option ℕ) → option_eq eqb one other ≡ true → one ≡ other
option_same None None is = refl
option_same None (Some n) is = cc
option_same (Some n) None is = cc
option_same (Some n) (Some m) is = ap (λ k. Some k) (eqb-true n m is)

module _ {F : Type 0} (facts : SourceFacts F) where
  -- what an answer says of the length and of its fault
  told_is : (fault : Option F) (size known : Option ℕ) → unless_fault fault size ≡ Ok known
      → (fault ≡ None) × (size ≡ known)
  told_is None size known is = (refl, cc)
  told_is (Some fault) size known is = cc

  pub no_fault : (file : ℕ) (known : Option ℕ) → told_length facts file ≡ Ok known → asked_fault facts file ≡ None
  no_fault file known is =
      ap (option_map (λ fault. Read file None fault))
      (told_is (facts.length_fault file) (option_map length (facts.contents file)) known is).0

  -- one file more
  pub asked_more : (told : List (Option ℕ)) (file : ℕ) (known : Option ℕ) → told ≡ lengths_told facts file
      → told_length facts file ≡ Ok known → told ++ known ∷ [] ≡ lengths_told facts (file + 1)
  asked_more told file known before is =
      let size = (told_is (facts.length_fault file) (option_map length (facts.contents file)) known is).1 in
      ap (λ xs. xs ++ known ∷ []) before ∙ ap (λ x. lengths_told facts file ++ x ∷ []) (sym size)
      ∙ sym (map-range_with_len_more (λ k. option_map length (facts.contents k)) 0 file file (zero-add file))

  pub asked_none : (file : ℕ) (known : Option ℕ) → first_asked_fault facts file ≡ None
      → told_length facts file ≡ Ok known → first_asked_fault facts (file + 1) ≡ None
  asked_none file known before is =
      first_none (asked_fault facts) 0 file (file + 1) (omega arith) before
      (λ j low high. let here : j ≡ file = omega arith in rw here (no_fault file known is))

  -- the first that fails
  pub asked_first : (file count : ℕ) (error : EngineError F) → file < count → first_asked_fault facts file ≡ None
      → asked_fault facts file ≡ Some error → first_asked_fault facts count ≡ Some error
  asked_first file count error less before is =
      first_found (asked_fault facts) 0 file count file error less (zero-add file) before is

  -- ---- asked again

  told_as : (file : ℕ) (size now : Option ℕ) (b : Bool) → option_eq eqb now size ≡ b
      → unless_same {F = F} file size (Ok now) ≡ cond b None (Some (Changed file))
  told_as file size now b is = ap (λ b. cond b None (Some (Changed file))) is

  -- a file has no fault where the same is told, and only there
  same_told : (file : ℕ) (fault : Option F) (size now : Option ℕ) → option_map (λ f. Read file None f) fault ≡ None
      → size ≡ now → unless_same file size (unless_fault fault now) ≡ None
  same_told file None size now none same =
      told_as file size now true (ap (option_eq eqb now) same ∙ option_equal now)
  same_told file (Some fault) size now none same = cc

  told_same : (file : ℕ) (fault : Option F) (size now : Option ℕ)
      → unless_same file size (unless_fault fault now) ≡ None → size ≡ now
  told_same file None size now none = by_test (option_eq eqb now size) refl
    where
      by_test : (b : Bool) → option_eq eqb now size ≡ b → size ≡ now
      by_test true is = sym (option_same now size is)
      by_test false is = let no = sym (told_as file size now false is) ∙ none in cc
  told_same file (Some fault) size now none = cc

  same_from : (a : ℕ) (sizes : List (Option ℕ))
      → sizes ≡ map (λ file. option_map length (facts.contents file)) (range_with_len a (length sizes))
      → first_of (asked_fault facts) (range_with_len a (length sizes)) ≡ None
      → first_of (again_fault facts) (enumerate_from a sizes) ≡ None
  unfolding first_of
  same_from a [] same none = refl
  same_from a (size ∷ sizes) same none =
      let both = neither (asked_fault facts a) (first_of (asked_fault facts) (range_with_len (a + 1) (length sizes)))
      none in
      let here : size ≡ option_map length (facts.contents a) = cc in
      let rest : sizes
      ≡ map (λ file. option_map length (facts.contents file)) (range_with_len (a + 1) (length sizes)) = cc in
      or_none (again_fault facts (a, size)) (first_of (again_fault facts) (enumerate_from (a + 1) sizes))
      (same_told a (facts.length_fault a) size (option_map length (facts.contents a)) both.0 here)
      ∙ same_from (a + 1) sizes rest both.1

  from_same : (a : ℕ) (sizes : List (Option ℕ)) → first_of (again_fault facts) (enumerate_from a sizes) ≡ None
      → sizes ≡ map (λ file. option_map length (facts.contents file)) (range_with_len a (length sizes))
  unfolding first_of
  from_same a [] none = refl
  from_same a (size ∷ sizes) none =
      let both = neither (again_fault facts (a, size)) (first_of (again_fault facts) (enumerate_from (a + 1) sizes))
      none in
      ap₂ (λ x xs. x ∷ xs) (told_same a (facts.length_fault a) size (option_map length (facts.contents a)) both.0)
      (from_same (a + 1) sizes both.1)

  -- a steady source tells again what it told, and nothing else
  pub same_again : (sizes : List (Option ℕ)) (count : ℕ) → length sizes ≡ count → sizes ≡ lengths_told facts count
      → first_asked_fault facts count ≡ None → first_again_fault facts sizes ≡ None
  same_again sizes count long same none =
      same_from 0 sizes (same ∙ ap (lengths_told facts) (sym long)) (ap (first_asked_fault facts) long ∙ none)

  pub again_same : (sizes : List (Option ℕ)) (count : ℕ) → length sizes ≡ count
      → first_again_fault facts sizes ≡ None → sizes ≡ lengths_told facts count
  again_same sizes count long none = from_same 0 sizes none ∙ ap (lengths_told facts) long

  -- one file after the other
  module _ (sizes : List (Option ℕ)) (file : ℕ) (less : file < length sizes)
      (before : first_of (again_fault facts) (take file (enumerate_from 0 sizes)) ≡ None) where
    within : file < length (enumerate_from 0 sizes)
    within = omega (arith, less, length-enumerate_from 0 sizes)

    own : again_fault facts (get_or (enumerate_from 0 sizes) file (0, None))
        ≡ unless_same file (get_or sizes file None) (told_length facts file)
    own =
        ap (again_fault facts) (get_or-enumerate_from 0 sizes file (0, None) less)
        ∙ ap (λ k. again_fault facts (k, get_or sizes file None)) (zero-add file)

    pub same_more : (again : Option ℕ) → told_length facts file ≡ Ok again
        → option_eq eqb again (get_or sizes file None) ≡ true
        → first_of (again_fault facts) (take (file + 1) (enumerate_from 0 sizes)) ≡ None
    same_more again is same =
        first_next (again_fault facts) (enumerate_from 0 sizes) file (0, None) within before
        (own ∙ ap (unless_same file (get_or sizes file None)) is
        ∙ told_as file (get_or sizes file None) again true same)

    pub other_told : (again : Option ℕ) → told_length facts file ≡ Ok again
        → option_eq eqb again (get_or sizes file None) ≡ false
        → first_again_fault facts sizes ≡ Some (Changed file)
    other_told again is other =
        first_at (again_fault facts) (enumerate_from 0 sizes) file (0, None) (Changed file) within before
        (own ∙ ap (unless_same file (get_or sizes file None)) is
        ∙ told_as file (get_or sizes file None) again false other)

    pub fails_again : (error : EngineError F) → asked_fault facts file ≡ Some error
        → first_again_fault facts sizes ≡ Some error
    fails_again error is =
        first_at (again_fault facts) (enumerate_from 0 sizes) file (0, None) error within before
        (own ∙ failed (facts.length_fault file) is)
      where
        failed : (fault : Option F) → option_map (λ f. Read file None f) fault ≡ Some error
            → unless_same file (get_or sizes file None)
            (unless_fault fault (option_map length (facts.contents file))) ≡ Some error
        failed None never = cc
        failed (Some fault) same = same

  pub all_again : (sizes : List (Option ℕ)) (file : ℕ) → length sizes ≤ file
      → first_of (again_fault facts) (take file (enumerate_from 0 sizes)) ≡ None
      → first_again_fault facts sizes ≡ None
  all_again sizes file all none =
      ap (first_of (again_fault facts))
      (sym (take_all file (enumerate_from 0 sizes) (omega (arith, all, length-enumerate_from 0 sizes)))) ∙ none

-- another size is another
pub other_size : (one other : Option ℕ) → option_eq eqb one other ≡ false → one ≢ other
other_size one other is same =
    true≢false (sym (ap (option_eq eqb one) (sym same) ∙ option_equal one) ∙ is)
