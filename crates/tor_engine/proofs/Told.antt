-- Lengths that were told, file by file.
use Rattle.std.proofs.Common.{◌≡◌, ◌<◌, ℕ, ◌+◌, List, [], ◌∷◌, ◌++◌, Option, None, Some, Ok, length, map, refl, ap, sym}
use Rattle.std.proofs.Common.{◌∙◌, arith, option_map, unwrap_or, zero-add}
use Rattle.std.specs.List.{range_with_len}
use Rattle.std.proofs.lemmas.List.{map-append}
use Rattle.std.proofs.lemmas.List.FromFn.{map-range_with_len_more}
use Rattle.tor_source.specs.Source.{SourceFacts, told_length, unless_fault}
use Rattle.tor_sums.specs.Contents.{contents_in}
use Rattle.tor_sums.specs.Fault.{ToldLengths, first_of, length_fault, unless_told}
use Rattle.tor_sums.specs.declared.errors.EngineError.{EngineError}
use Rattle.tor_sums.proofs.FirstOf.{first_found, first_none}

module _ {F : Type 0} (facts : SourceFacts F) where
  pub told_none : ToldLengths facts 0 []
  unfolding first_of
  told_none = record { told = refl; faultless = refl }

  -- a length that was told is that of the content
  length_of : (fault : Option F) (content : Option (List ℕ)) (n : ℕ) →
      unless_fault fault (option_map length content) ≡ Ok (Some n) → length (unwrap_or content []) ≡ n
  length_of None None n is = cc
  length_of None (Some content) n is = cc
  length_of (Some fault) content n is = cc

  no_fault : (file n : ℕ) → told_length facts file ≡ Ok (Some n) → length_fault facts file ≡ None
  no_fault file n is = ap (unless_told file) is

  -- one file more
  pub told_more : (lengths : List ℕ) (file n : ℕ) → ToldLengths facts file lengths →
      told_length facts file ≡ Ok (Some n) → ToldLengths facts (file + 1) (lengths ++ n ∷ [])
  told_more lengths file n before is = record {
    told =
        let next = length_of (facts.length_fault file) (facts.contents file) n is in
        let more = map-range_with_len_more (λ k. unwrap_or (facts.contents k) []) 0 file file (zero-add file) in
        let all = ap (map length) more ∙ map-append length (contents_in facts file)
        (unwrap_or (facts.contents file) [] ∷ []) in
        rw before.told (rw (sym next) (sym all));
    faultless = first_none (length_fault facts) 0 file (file + 1) (omega arith) before.faultless
        (λ j low high. let here : j ≡ file = omega arith in rw here (no_fault file n is));
  }

  -- the first that fails
  pub told_fault : (lengths : List ℕ) (file count : ℕ) (error : EngineError F) → file < count →
      ToldLengths facts file lengths → length_fault facts file ≡ Some error →
      first_of (length_fault facts) (range_with_len 0 count) ≡ Some error
  told_fault lengths file count error less before is =
      first_found (length_fault facts) 0 file count file error less (zero-add file) before.faultless is
