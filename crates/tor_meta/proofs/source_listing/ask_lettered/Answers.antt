-- What was told of the lengths is of the files that were handed in.
use Rattle.std.proofs.Common.{◌≡◌, ◌⊎◌, ℕ, Bool, List, None, Option, Some, cond, false, inl, inr, length, map, arith}
use Rattle.std.proofs.Common.{ap, option_map, subst, sym, true, ◌∙◌, refl}
use Rattle.std.proofs.lemmas.Grind.{common_steps}
use Rattle.std.specs.List.{range_with_len}
use Rattle.tor_source.specs.Source.{SourceFacts}
use Rattle.tor_sums.specs.Contents.{contents_in}
use Rattle.tor_sums.specs.Fault.{IsFault, first_of, length_fault}
use Rattle.tor_sums.specs.declared.errors.EngineError.{EngineError}
use Rattle.tor_tree.specs.FileList.{lengths_fault, lengths_too_large}
use Rattle.tor_tree.specs.declared.lists.ListError.{ListError}
use Rattle.tor_tree.specs.declared.lists.ListError.TheVariants as fault
use Rattle.tor_meta.specs.ListRefusal.{of_list_error}
use Rattle.tor_meta.specs.declared.make_error.MakeError.{MakeError}
use Rattle.tor_meta.specs.declared.make_error.MakeError.TheVariants as makes
use Rattle.tor_sums.specs.Given.{HasToldLengths, IsGivenAsked}
use Rattle.tor_meta.specs.Make.{IsGivenTo, IsOwn, asked_fault, letters_at}
use Rattle.tor_meta.specs.MakeError.{of_contents_error, of_engine_error, out_of_resources}
use Rattle.tor_meta.specs.Planned.{IsFaultOfLengths}
use Rattle.tor_meta.proofs.FaultsOfLengths.{asked_of_lengths, listed_of_lengths}
use Rattle.tor_meta.proofs.FirstFaults.{own_hashing}
use Rattle.tor_meta.proofs.GivenFiles.{given_of_asked, given_of_lengths}
use Rattle.tor_meta.proofs.Indexed.{or_first, or_second}
use Rattle.tor_meta.proofs.SourceFiles.{entries_within, listed_at}
use Rattle.tor_engine.proofs.ProvedLaws.{stopped, stopped_by, stopped_match}
use Rattle.tor_meta.proofs.source_listing.ask_lettered.Goals as goal

pub returns-clause-files : goal.returns-clause-files
returns-clause-files g c = λ facts steady.
    let told = (c.in-Ok.ensures.steady facts steady).told in
    let within = entries_within _ c.args.paths c.entries.ensures.lawful.indices refl in
    ap (λ list. list.files) c.with_attrs.ensures ∙ ap (λ list. list.files) c.in-Ok-with_lengths.ensures.files
    ∙ rw (c.deref.ensures.value, told, c.entries.ensures.value) (listed_at facts _ c.args.paths within)

pub returns-clause-list : goal.returns-clause-list
returns-clause-list g c = (
  c.deref.result.now,
  ap length c.deref.ensures.value ∙ c.in-Ok.ensures.counted ∙ ap length c.entries.ensures.value,
  subst (λ (lengths : List ℕ). HasToldLengths (g.S.Source.answers c.args.source.now) lengths) (sym c.deref.ensures.value)
      c.in-Ok.ensures.told,
  ap (λ list. list.files) c.with_attrs.ensures ∙ ap (λ list. list.files) c.in-Ok-with_lengths.ensures.files,
)

pub returns-in-Err-clause-gave : goal.returns-in-Err-clause-gave
returns-in-Err-clause-gave g c =
    let answers = g.S.Source.answers c.args.source.now in
    let asked = subst (λ (n : ℕ). IsGivenAsked answers n c.in-Err.error) (ap length c.entries.ensures.value)
    c.in-Err.ensures.gave in
    subst (λ error. IsGivenTo answers (length c.args.paths) error) (sym c.from.ensures)
    (given_of_asked answers (length c.args.paths) c.in-Err.error asked)

pub returns-in-Err-with_lengths-clause-gave : goal.returns-in-Err-with_lengths-clause-gave
returns-in-Err-with_lengths-clause-gave g c =
    let answers = g.S.Source.answers c.args.source.now in
    let lengths = c.deref.result.now in
    let counted = ap length c.deref.ensures.value ∙ c.in-Ok.ensures.counted ∙ ap length c.entries.ensures.value in
    let are = subst (λ (lengths : List ℕ). HasToldLengths answers lengths) (sym c.deref.ensures.value)
    c.in-Ok.ensures.told in
    subst (λ error. IsGivenTo answers (length c.args.paths) error)
    (sym (c.from-in-Err-with_lengths-2.ensures ∙ ap of_contents_error c.from-in-Err-with_lengths.ensures))
    (given_of_lengths answers (length c.args.paths) lengths c.in-Err-with_lengths.fault counted are
    c.in-Err-with_lengths.ensures.refused)

pub returns-clause-fault : goal.returns-clause-fault
returns-clause-fault g c = λ facts steady.
    let asked = c.in-Ok.ensures.steady facts steady in
    let count = ap length c.entries.ensures.value in
    let lengths = c.deref.ensures.value ∙ asked.told in
    subst (λ (n : ℕ). asked_fault facts n ≡ None) count
    (rw (asked.faultless, ← lengths, c.in-Ok-with_lengths.ensures.accepted) refl)

pub returns-in-Err-clause-lengths : goal.returns-in-Err-clause-lengths
returns-in-Err-clause-lengths g c =
    subst IsFaultOfLengths (sym c.from.ensures)
    (asked_of_lengths (g.S.Source.answers c.args.source.now) _ c.in-Err.error c.in-Err.ensures.gave)

pub returns-in-Err-with_lengths-clause-lengths : goal.returns-in-Err-with_lengths-clause-lengths
returns-in-Err-with_lengths-clause-lengths g c =
    subst IsFaultOfLengths (sym (c.from-in-Err-with_lengths-2.ensures ∙ ap of_contents_error c.from-in-Err-with_lengths.ensures))
    (listed_of_lengths _ c.in-Err-with_lengths.fault)

pub returns-in-Err-clause-only : goal.returns-in-Err-clause-only
returns-in-Err-clause-only g c = λ first. own_hashing first c.from.result c.in-Err.error c.from.ensures

pub returns-clause-letters : goal.returns-clause-letters
returns-clause-letters g c =
    ap (λ list. list.attrs) c.with_attrs.ensures ∙ c.in_ok-attrs.ensures
    ∙ ap (map (letters_at c.args.files.now)) (c.deref-2.ensures.value ∙ c.in-Ok-with_lengths.ensures.indices)

-- where there is no memory for the letters
pub returns-in_err-attrs : goal.returns-in_err-attrs
returns-in_err-attrs g c =
    let r = c.from_residual.result in
    let is = c.from_residual.ensures.1 in record {
      list = stopped _ _ r is;
      letters = stopped _ _ r is;
      indices = stopped _ _ r is;
      files = λ facts steady. stopped _ _ r is;
      fault = λ facts steady. stopped_match _ _ _ r is (inl refl);
      only = λ first. stopped_by _ _ r is tt;
      gave = stopped_by _ _ r is tt;
      lengths = stopped_by _ _ r is tt;
    }

asked_told : {F : Type 0} (facts : SourceFacts F) (count : ℕ) (error : EngineError F) (e : MakeError F)
    → e ≡ of_engine_error error → IsFault (first_of (length_fault facts) (range_with_len 0 count)) error
    → (e ≡ out_of_resources) ⊎ (asked_fault facts count ≡ Some e)
asked_told facts count error e is (inl none) = inl (is ∙ ap of_engine_error none)
asked_told facts count error e is (inr told) =
    inr (or_first _ _ e (ap (option_map of_engine_error) told ∙ ap Some (sym is)))

pub returns-in-Err-clause-fault : goal.returns-in-Err-clause-fault
returns-in-Err-clause-fault g c = λ facts steady.
    subst (λ (n : ℕ). (c.from.result ≡ out_of_resources) ⊎ (asked_fault facts n ≡ Some c.from.result))
    (ap length c.entries.ensures.value)
    (asked_told facts _ c.in-Err.error c.from.result c.from.ensures (c.in-Err.ensures.steady facts steady))

-- lengths that were told are too large together, or there is no memory for the list
only_large : (b : Bool) (error : ListError) → cond b (Some fault.TooLarge) None ≡ Some error → error ≡ fault.TooLarge
only_large true error is = cc
only_large false error is = cc

large_told : {F : Type 0} (facts : SourceFacts F) (count n : ℕ) (lengths : List ℕ) (error : ListError) (e : MakeError F)
    → count ≡ n → e ≡ of_contents_error (of_list_error error)
    → first_of (length_fault facts) (range_with_len 0 count) ≡ None → lengths ≡ map length (contents_in facts count)
    → (lengths_fault lengths ≡ Some error) ⊎ (error ≡ fault.Memory)
    → (e ≡ out_of_resources) ⊎ (asked_fault facts n ≡ Some e)
large_told {F} facts count n lengths error e same is faultless told (inl refused) =
    let large = only_large (lengths_too_large lengths) error refused in
    let e_is = is ∙ ap (λ error. of_contents_error (of_list_error error)) large in
    inr (subst (λ n. asked_fault facts n ≡ Some e) same
    (or_second _ _ (Some e) (ap (option_map (of_engine_error {F = F})) faultless)
    (ap (option_map makes.List) (sym (ap lengths_fault told) ∙ refused ∙ ap Some large) ∙ ap Some (sym e_is))))
large_told facts count n lengths error e same is faultless told (inr none) =
    inl (is ∙ ap (λ error. of_contents_error (of_list_error error)) none)

own_list : {F : Type 0} (first : Option (MakeError F)) (lengths : List ℕ) (error : ListError)
    → (lengths_fault lengths ≡ Some error) ⊎ (error ≡ fault.Memory)
    → IsOwn first (of_contents_error (of_list_error error))
own_list first lengths error (inl is) = rw (only_large (lengths_too_large lengths) error is) tt
own_list first lengths error (inr none) = rw none tt

pub returns-in-Err-with_lengths-clause-fault : goal.returns-in-Err-with_lengths-clause-fault
returns-in-Err-with_lengths-clause-fault g c = λ facts steady.
    let asked = c.in-Ok.ensures.steady facts steady in
    large_told facts _ _ c.deref.result.now c.in-Err-with_lengths.fault c.from-in-Err-with_lengths-2.result
    (ap length c.entries.ensures.value)
    (c.from-in-Err-with_lengths-2.ensures ∙ ap of_contents_error c.from-in-Err-with_lengths.ensures) asked.faultless
    (c.deref.ensures.value ∙ asked.told) c.in-Err-with_lengths.ensures.refused

pub returns-in-Err-with_lengths-clause-only : goal.returns-in-Err-with_lengths-clause-only
returns-in-Err-with_lengths-clause-only g c = λ first.
    let is = c.from-in-Err-with_lengths-2.ensures ∙ ap of_contents_error c.from-in-Err-with_lengths.ensures in
    subst (IsOwn first) (sym is)
    (own_list first c.deref.result.now c.in-Err-with_lengths.fault c.in-Err-with_lengths.ensures.refused)

pub with_attrs-requires : goal.with_attrs-requires
with_attrs-requires g c = grind (arith, common_steps)
