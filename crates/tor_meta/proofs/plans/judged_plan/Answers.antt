-- the bytes are those that the listing tells
use Rattle.std.proofs.Common.{ap, arith, length}
use Rattle.tor_meta.specs.steps.PlanParts.{parts_text}
use Rattle.tor_meta.proofs.PlanBytes.{some_bytes}
use Rattle.tor_meta.proofs.plans.judged_plan.Goals as goal

pub plan_digest-requires : goal.plan_digest-requires
plan_digest-requires c = omega (arith, ap length c.requires.bytes, some_bytes (parts_text c.args.parts))
