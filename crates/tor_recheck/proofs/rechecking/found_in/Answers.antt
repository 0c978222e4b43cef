-- the plan, what its pieces hash to, and the lengths of its files
use Rattle.tor_recheck.proofs.Names.{arith, ones, refl}
use Rattle.tor_recheck.proofs.Names.{[], ℕ, length, ap, subst, sym, ◌∙◌, contents_in, IsGivenPieces, first_piece_fault}
use Rattle.tor_recheck.proofs.Names.{piece_hashes, pieces_of_plan, PlanFacts, plan_of_entries, entries_to_cut, IsFault}
use Rattle.tor_recheck.proofs.Names.{◌≡◌, IsCut, IsGiven, View, first_fault, is_within, lengths_told, map}
use Rattle.tor_view.proofs.ProvedLaws.{pieces_are_counted}
use Rattle.tor_recheck.proofs.RecheckFaults.{given_of, no_fault, same_fault}
use Rattle.tor_recheck.proofs.Rechecked.{count_is, pieces_are}
use Rattle.tor_sums.specs.Fault as engine
use Rattle.tor_recheck.proofs.rechecking.found_in.Goals as goal

-- sixteen pieces are a span
pub plan_of-requires : goal.plan_of-requires
unfolding ones
plan_of-requires g c = (refl, omega arith, omega arith)

-- the plan has the files of the torrent
count_of_plan : {plan : PlanFacts} (view : View) (cut : IsCut view)
    → plan ≡ plan_of_entries view.kind view.piece_length 16 (entries_to_cut view)
    → length plan.lengths ≡ length view.files
count_of_plan view cut planned = ap (λ (p : PlanFacts). length p.lengths) planned ∙ count_is view [] cut

pub returns-clause-hashed : goal.returns-clause-hashed
returns-clause-hashed g c = λ how facts steady.
    let view = c.args.torrent.now in
    let fault = c.in-Err.ensures.hashed facts steady in
    let planned = subst (λ (plan : PlanFacts). engine.IsFault (first_piece_fault facts plan) c.in-Err.error)
    c.in_ok-plan.ensures.planned fault in
    subst (λ error. IsFault (first_fault facts view) error) (sym c.into.ensures)
    (same_fault facts view c.in_ok-plan.ensures.cut c.in-Err.error planned)

pub returns-in-Ok-clause-hashed : goal.returns-in-Ok-clause-hashed
returns-in-Ok-clause-hashed g c = λ how facts steady.
    let view = c.args.torrent.now in
    let cut = c.in_ok-plan.ensures.cut in
    let planned = c.in_ok-plan.ensures.planned in
    let plan = plan_of_entries view.kind view.piece_length 16 (entries_to_cut view) in
    let found = c.in-Ok.ensures.hashed facts steady in (
      found.0
          ∙ ap (λ (p : PlanFacts). piece_hashes p (contents_in facts (length p.lengths))) planned
          ∙ ap (λ n. piece_hashes plan (contents_in facts n)) (count_is view [] cut),
      found.1 ∙ ap (lengths_told facts) (count_of_plan view cut planned),
      no_fault facts view cut (sym (ap (first_piece_fault facts) planned) ∙ found.2),
    )

pub returns-in-Ok-clause-counted : goal.returns-in-Ok-clause-counted
returns-in-Ok-clause-counted g c =
    let view = c.args.torrent.now in
    let cut = c.in_ok-plan.ensures.cut in
    let planned = c.in_ok-plan.ensures.planned in (
      c.in-Ok.ensures.counted.0
          ∙ ap (λ (p : PlanFacts). length (pieces_of_plan p)) planned
          ∙ ap length (pieces_are view [] cut)
          ∙ pieces_are_counted view cut,
      c.in-Ok.ensures.counted.1 ∙ count_of_plan view cut planned,
    )

pub returns-in-Ok-clause-there : goal.returns-in-Ok-clause-there
returns-in-Ok-clause-there g c =
    let view = c.args.torrent.now in
    let within = is_within c.in-Ok.found.lengths.items in
    c.in-Ok.ensures.there
    ∙ ap (λ (p : PlanFacts). map within (pieces_of_plan p)) c.in_ok-plan.ensures.planned
    ∙ ap (map within) (pieces_are view [] c.in_ok-plan.ensures.cut)

pub returns-clause-gave : goal.returns-clause-gave
returns-clause-gave g c =
    let view = c.args.torrent.now in
    let cut = c.in_ok-plan.ensures.cut in
    let count = count_of_plan view cut c.in_ok-plan.ensures.planned in
    let answers = g.S.Source.answers c.args.source.now in
    subst (λ error. IsGiven answers (length view.files) error) (sym c.into.ensures)
    (given_of answers (length view.files) c.in-Err.error
    (subst (λ (n : ℕ). IsGivenPieces answers n c.in-Err.error) count c.in-Err.ensures.gave))
