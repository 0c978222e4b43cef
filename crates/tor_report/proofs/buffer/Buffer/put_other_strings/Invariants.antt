-- The items so far are put.
use Rattle.std.proofs.Common.{take}
use Rattle.std.specs.Prelude.{flat_map}
use Rattle.tor_report.specs.Put.{Puts}
use Rattle.tor_report.specs.steps.Members.{item_after, told_text}
use Rattle.tor_report.proofs.buffer.Buffer.put_other_strings.Given as goal

abbrev pub invariant-texts : goal.invariant-texts
invariant-texts g l =
    Puts g.S.Sink.took (flat_map (item_after told_text) (take l.text-index l.texts)) l.fn.out
    l.fn.self l.out l.self
