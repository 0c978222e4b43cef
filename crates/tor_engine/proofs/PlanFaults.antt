-- The first byte of a plan's files that fails.
use Rattle.std.proofs.Common.{◌≡◌, ◌<◌, ◌*◌, ap, sym, ◌∙◌, arith, mul-pos}
use Rattle.tor_sums.specs.Fault.{first_byte_fault, units_fault}
use Rattle.tor_sums.proofs.FileHashes.{some_piece}
use Rattle.tor_engine.proofs.PositionFaults.{fault_of_entries}
use Rattle.tor_plan.specs.PlanFacts.{IsPlan, PlanFacts}
use Rattle.tor_source.specs.Source.{SourceFacts}

pub fault_of_plan : {F : Type 0} (facts : SourceFacts F) (plan : PlanFacts) → IsPlan plan
    → units_fault facts plan.units ≡ first_byte_fault facts plan.lengths
fault_of_plan facts plan is =
    let p = plan.piece_length in
    let pos : 0 < is.span * p = mul-pos (omega (arith, is.is_span.1)) (some_piece plan.kind p is.pieces) in
    ap (λ plan. units_fault facts plan.units) is.made ∙ fault_of_entries facts plan.kind p is.span is.entries pos
    ∙ ap (λ plan. first_byte_fault facts plan.lengths) (sym is.made)
