-- The items so far are put.
use Rattle.std.proofs.Common.{take}
use Rattle.std.specs.Prelude.{flat_map}
use Rattle.tor_report.specs.Put.{Puts}
use Rattle.tor_report.specs.steps.Members.{item_after, told_tier}
use Rattle.tor_report.proofs.buffer.Buffer.put_other_tiers.Given as goal

abbrev pub invariant-tiers : goal.invariant-tiers
invariant-tiers g l =
    Puts g.S.Sink.took (flat_map (item_after told_tier) (take l.tier-index l.tiers)) l.fn.out
    l.fn.self l.out l.self
