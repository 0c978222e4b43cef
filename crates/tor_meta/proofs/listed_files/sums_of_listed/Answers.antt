-- the plan's sums are those that the head asks for
use Rattle.std.proofs.Common.{◌≡◌, ℕ, List, inl, inr, length, map, ap, subst, sym, ◌∙◌}
use Rattle.std.proofs.lemmas.List.{length-map}
use Rattle.tor_sums.specs.Contents.{contents_in}
use Rattle.tor_sums.specs.Fault.{first_byte_fault, first_length_fault}
use Rattle.tor_sums.specs.Given.{IsGivenNotMissing}
use Rattle.tor_meta.specs.steps.Sums.{SumUp}
use Rattle.tor_meta.proofs.SourceSums.{from_plan}
use Rattle.tor_tree.specs.FileList.{lengths_of}
use Rattle.tor_meta.proofs.listed_files.sums_of_listed.Goals as goal

pub returns-in-Err-clause-steady : goal.returns-in-Err-clause-steady
returns-in-Err-clause-steady g c = λ facts steady none.
    let lengths = c.in_ok-plan.ensures.is.lengths in
    elim (c.in-Err.ensures.summed facts steady (ap (first_length_fault facts) lengths ∙ none)) [
      | inl memory ↦ inl memory
      | inr fault ↦ inr (sym (ap (first_byte_fault facts) lengths) ∙ fault)
    ]

pub returns-clause-whole : goal.returns-clause-whole
returns-clause-whole g c =
    let whole = c.in-Ok.ensures.whole in
    let both = from_plan c.args.listing.now.head c.args.listing.now.list.files c.in-Ok.sums c.in_ok-plan.plan whole.0
    c.in_ok-plan.ensures.is
    whole.1 whole.2 in
    (whole.0, both.0, both.1)

pub returns-clause-steady : goal.returns-clause-steady
returns-clause-steady g c = λ facts steady none.
    let head = c.args.listing.now.head in
    let list = c.args.listing.now.list.files in
    let plan = c.in_ok-plan.plan in
    let is = c.in_ok-plan.ensures.is in
    let whole = c.in-Ok.ensures.whole in
    let told = c.in-Ok.ensures.summed facts steady (ap (first_length_fault facts) is.lengths ∙ none) in
    let fit = sym told.0.lengths ∙ whole.2.lengths ∙ whole.1 in
    let both = from_plan head list c.in-Ok.sums plan (contents_in facts (length plan.lengths)) is fit told.0 in
    let count : length plan.lengths ≡ length list = ap length is.lengths ∙ length-map list (λ file. file.1) in
    let there = subst (λ (n : ℕ). (map length (contents_in facts n) ≡ lengths_of list)
    × SumUp head list (contents_in facts n) c.in-Ok.sums) count both in
    (there.0, there.1, sym (ap (first_byte_fault facts) is.lengths) ∙ told.1)

pub returns-in-Err-clause-gave : goal.returns-in-Err-clause-gave
returns-in-Err-clause-gave g c =
    subst (λ (lengths : List ℕ). IsGivenNotMissing (g.S.Source.answers c.args.source.now) lengths c.in-Err.error)
    c.in_ok-plan.ensures.is.lengths c.in-Err.ensures.gave
