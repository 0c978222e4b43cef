-- the plan, what its pieces hash to as far as they can be read, and the lengths of its files
use Rattle.tor_recheck.proofs.Names.{arith, ones, refl}
use Rattle.tor_recheck.proofs.Names.{[], ◌++◌, ℕ, List, length, map, ap, subst, sym, ◌∙◌, AllByRecursion, flat_map}
use Rattle.tor_recheck.proofs.Names.{asked_fault, range_with_len, IsGivenPieces, pieces_of_plan, PlanFacts}
use Rattle.tor_recheck.proofs.Names.{◌≡◌, IsCut, IsGiven, View, of_engine_error}
use Rattle.tor_recheck.proofs.Names.{PlanUnit}
use Rattle.tor_engine.specs.Readable.{HasHashWithin, all_read_faults, error_of_fault, hash_if_readable, piece_faults}
use Rattle.tor_engine.specs.Readable.{read_faults, readable_hashes, seen_contents, seen_lengths}
use Rattle.tor_recheck.specs.Readable.{IsGivenFault, IsNoReadFault, contents_seen}
use Rattle.tor_recheck.specs.steps.Hashes.{cut_plan}
use Rattle.tor_sums.specs.steps.Each.{SumUpEach}
use Rattle.tor_view.proofs.ProvedLaws.{pieces_are_counted}
use Rattle.tor_recheck.proofs.ReadableBits.{all_more}
use Rattle.tor_recheck.proofs.RecheckFaults.{given_of, no_read_of}
use Rattle.tor_recheck.proofs.Rechecked.{count_is, pieces_are}
use Rattle.tor_recheck.proofs.rechecking_readable.readable_in.Goals as goal

-- sixteen pieces are a span
pub plan_of-requires : goal.plan_of-requires
unfolding ones
plan_of-requires g c = (refl, omega arith, omega arith)

-- the plan has the files of the torrent
count_of_plan : {plan : PlanFacts} (view : View) (cut : IsCut view) → plan ≡ cut_plan view
    → length plan.lengths ≡ length view.files
count_of_plan view cut planned = ap (λ (p : PlanFacts). length p.lengths) planned ∙ count_is view [] cut

pub returns-in-Ok-clause-hashed : goal.returns-in-Ok-clause-hashed
returns-in-Ok-clause-hashed g c = λ how facts steady.
    let view = c.args.torrent.now in
    let cut = c.in_ok-plan.ensures.cut in
    let planned = c.in_ok-plan.ensures.planned in
    let plan = cut_plan view in
    let found = c.in-Ok.ensures.readable facts steady in
    let asked = λ (n : ℕ). flat_map (λ file. read_faults (asked_fault facts file)) (range_with_len 0 n) in (
      found.0 ∙ ap (readable_hashes facts) planned
          ∙ ap (λ n. map (hash_if_readable facts plan (seen_contents facts n)) (pieces_of_plan plan))
          (count_is view [] cut)
          ∙ ap (map (hash_if_readable facts plan (contents_seen facts view))) (pieces_are view [] cut),
      found.1 ∙ ap (seen_lengths facts) (count_of_plan view cut planned),
      found.2 ∙ ap (all_read_faults facts) planned
          ∙ ap (λ n. asked n ++ flat_map (piece_faults facts (seen_contents facts n)) (pieces_of_plan plan))
          (count_is view [] cut)
          ∙ ap (λ pieces. asked (length view.files) ++ flat_map (piece_faults facts (contents_seen facts view)) pieces)
          (pieces_are view [] cut),
    )

pub returns-clause-refused : goal.returns-clause-refused
returns-clause-refused g c = λ how facts steady.
    c.into.ensures ∙ ap of_engine_error (c.in-Err.ensures.refused facts steady)

pub returns-in-Ok-clause-within : goal.returns-in-Ok-clause-within
returns-in-Ok-clause-within g c =
    let view = c.args.torrent.now in
    subst (λ (pieces : List PlanUnit).
    SumUpEach (HasHashWithin c.in-Ok.found.lengths.items) pieces c.in-Ok.found.hashes)
    (ap pieces_of_plan c.in_ok-plan.ensures.planned ∙ pieces_are view [] c.in_ok-plan.ensures.cut)
    c.in-Ok.ensures.within

pub returns-in-Ok-clause-counted : goal.returns-in-Ok-clause-counted
returns-in-Ok-clause-counted g c =
    let view = c.args.torrent.now in
    let cut = c.in_ok-plan.ensures.cut in
    let planned = c.in_ok-plan.ensures.planned in (
      c.in-Ok.ensures.counted.0
          ∙ ap (λ (p : PlanFacts). length (pieces_of_plan p)) planned
          ∙ ap length (pieces_are view [] cut)
          ∙ pieces_are_counted view cut,
      c.in-Ok.ensures.counted.1 ∙ count_of_plan view cut planned,
    )

pub returns-in-Ok-clause-given : goal.returns-in-Ok-clause-given
returns-in-Ok-clause-given g c =
    let view = c.args.torrent.now in
    let answers = g.S.Source.answers c.args.source.now in
    let count = count_of_plan view c.in_ok-plan.ensures.cut c.in_ok-plan.ensures.planned in
    let n = length view.files in
    all_more (λ fault. IsGivenPieces answers n (error_of_fault fault)) (IsGivenFault answers n)
    (λ fault given. given_of answers n (error_of_fault fault) given) c.in-Ok.found.faults.items
    (subst (λ (m : ℕ). AllByRecursion (λ fault. IsGivenPieces answers m (error_of_fault fault))
    c.in-Ok.found.faults.items) count c.in-Ok.ensures.given)

pub returns-clause-no_read_fault : goal.returns-clause-no_read_fault
returns-clause-no_read_fault g c =
    subst (λ error. IsNoReadFault error) (sym c.into.ensures) (no_read_of c.in-Err.error c.in-Err.ensures.no_read_fault)

pub returns-clause-gave : goal.returns-clause-gave
returns-clause-gave g c =
    let view = c.args.torrent.now in
    let cut = c.in_ok-plan.ensures.cut in
    let count = count_of_plan view cut c.in_ok-plan.ensures.planned in
    let answers = g.S.Source.answers c.args.source.now in
    subst (λ error. IsGiven answers (length view.files) error) (sym c.into.ensures)
    (given_of answers (length view.files) c.in-Err.error
    (subst (λ (n : ℕ). IsGivenPieces answers n c.in-Err.error) count c.in-Err.ensures.gave))
