-- the lengths of a list are small
use Rattle.tor_meta.proofs.Listed.{small_files}
use Rattle.tor_meta.proofs.plans.write_plan.Goals as goal

pub plan_bytes-requires-clause-small : goal.plan_bytes-requires-clause-small
plan_bytes-requires-clause-small c =
    rw c.files.ensures.value (small_files c.list-list.result.now.files c.files.ensures.lawful)
