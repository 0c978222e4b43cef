-- all units of the plan
use Rattle.std.proofs.Common.{◌≡◌, ◌⊎◌, List, ap, inl, inr, length, subst, sym, ◌∙◌, refl}
use Rattle.std.specs.List.{All}
use Rattle.std.specs.Option.{option_or}
use Rattle.tor_plan.specs.declared.units.PlanUnit.{PlanUnit}
use Rattle.tor_sums.specs.Contents.{contents_in}
use Rattle.tor_sums.specs.Fault.{IsFault}
use Rattle.tor_sums.specs.declared.errors.EngineError.TheVariants.{Resources}
use Rattle.tor_sums.specs.steps.Given.{IsGivenLength}
use Rattle.tor_engine.specs.PieceFault.{first_asked_fault, lengths_told, pieces_fault, some_pieces_fault}
use Rattle.tor_engine.specs.PieceHashes.{hashes_of_pieces, pieces_of_plan, pieces_of_units}
use Rattle.tor_engine.specs.There.{HaveHashesOf}
use Rattle.tor_engine.specs.steps.Pieces.{IsUnitToHash}
use Rattle.tor_engine.proofs.GivenAnswers.{known_given, length_given}
use Rattle.tor_engine.proofs.PlanPieces.{units_to_hash}
use Rattle.tor_engine.proofs.Stopped.{stopped, stopped_by, stopped_match}
use Rattle.tor_engine.proofs.pieces.find_pieces.Goals as goal

pub hash_known-requires-clause-units : goal.hash_known-requires-clause-units
hash_known-requires-clause-units g c = λ κs lives.
    subst (λ (units : List PlanUnit). All (IsUnitToHash c.args.plan.now) units) (sym c.units.ensures.value)
    (units_to_hash c.args.plan.now c.units.ensures.planned)

pub returns-in-Err-clause-hashed : goal.returns-in-Err-clause-hashed
returns-in-Err-clause-hashed g c = λ facts steady.
    let plan = c.args.plan.now in
    let rest = pieces_fault facts (contents_in facts (length plan.lengths)) (pieces_of_plan plan) in
    elim (c.in-Err.ensures.steady facts steady) [
      | inl memory ↦ inl memory
      | inr fault ↦ inr (ap (λ first. option_or first rest)
          (ap (first_asked_fault facts) (sym (ap length c.lengths.ensures)) ∙ fault))
    ]

pub returns-in-Err-clause-gave : goal.returns-in-Err-clause-gave
returns-in-Err-clause-gave g c =
    let answers = g.S.Source.answers c.args.source.now in
    length_given answers (length c.args.plan.now.lengths) c.in-Err.error
    (subst (λ count. (c.in-Err.error ≡ Resources) ⊎ IsGivenLength answers count c.in-Err.error)
    (ap length c.lengths.ensures) c.in-Err.ensures.gave)

pub returns-in-Err-hash_known-clause-hashed : goal.returns-in-Err-hash_known-clause-hashed
returns-in-Err-hash_known-clause-hashed g c = λ facts steady.
    let plan = c.args.plan.now in
    let many = ap length c.lengths.ensures in
    let asked = c.in-Ok.ensures.steady facts steady in
    subst (λ pieces. IsFault (some_pieces_fault facts plan pieces) c.in-Err-hash_known.error)
    (ap (pieces_of_units plan.piece_length) c.units.ensures.value)
    (c.in-Err-hash_known.ensures.hashed facts steady (asked.0 ∙ ap (lengths_told facts) many)
    (ap (first_asked_fault facts) (sym many) ∙ asked.1))

pub returns-in-Err-hash_known-clause-gave : goal.returns-in-Err-hash_known-clause-gave
returns-in-Err-hash_known-clause-gave g c =
    known_given (g.S.Source.answers c.args.source.now) c.in-Ok.lengths.items (length c.args.plan.now.lengths)
    c.in-Err-hash_known.error (c.in-Ok.ensures.counted ∙ ap length c.lengths.ensures) c.in-Ok.ensures.told
    c.in-Err-hash_known.ensures.gave

pub returns-in-Ok-hash_known-clause-hashed : goal.returns-in-Ok-hash_known-clause-hashed
returns-in-Ok-hash_known-clause-hashed g c = λ facts steady.
    let plan = c.args.plan.now in
    let many = ap length c.lengths.ensures in
    let asked = c.in-Ok.ensures.steady facts steady in
    let told = asked.0 ∙ ap (lengths_told facts) many in
    let same = ap (pieces_of_units plan.piece_length) c.units.ensures.value in
    let hashed = c.in-Ok-hash_known.ensures.hashed facts steady told
    (ap (first_asked_fault facts) (sym many) ∙ asked.1) in (
      hashed.0 ∙ ap (hashes_of_pieces plan (contents_in facts (length plan.lengths))) same,
      told,
      ap (some_pieces_fault facts plan) (sym same) ∙ hashed.1,
    )

pub returns-in-Ok-hash_known-clause-there : goal.returns-in-Ok-hash_known-clause-there
returns-in-Ok-hash_known-clause-there g c =
    subst (λ pieces. HaveHashesOf c.in-Ok.lengths.items pieces c.in-Ok-hash_known.hashes)
    (ap (pieces_of_units c.args.plan.now.piece_length) c.units.ensures.value)
    c.in-Ok-hash_known.ensures.there

pub returns-in_err-padding_sum : goal.returns-in_err-padding_sum
returns-in_err-padding_sum g c =
    let r = c.from_residual.result in
    let is = c.from_residual.ensures.1 in record {
      hashed = λ facts steady. stopped_match _ _ _ r is (inl refl);
      told = stopped _ _ r is;
      there = stopped _ _ r is;
      counted = stopped _ _ r is;
      gave = stopped_by _ _ r is tt;
    }
