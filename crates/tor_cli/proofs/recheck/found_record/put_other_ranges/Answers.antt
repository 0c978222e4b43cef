-- The ranges so far, and one more.
use Rattle.std.proofs.Common.{get_or, subst, ℕ, List}
use Rattle.std.proofs.lemmas.List.{get_or_default}
use Rattle.tor_view.specs.declared.file_pieces.ByteRange.{ByteRange}
use Rattle.tor_report.specs.Put.{Puts}
use Rattle.tor_report.specs.steps.Members.{item_after}
use Rattle.tor_report.proofs.ProvedLaws.{fault_after, flat_more, flat_rest, puts_both}
use Rattle.tor_cli.specs.text.Records.{range_data}
use Rattle.tor_cli.proofs.recheck.found_record.put_other_ranges.Goals as goal

abbrev no_range : ByteRange
no_range = record { from = 0; to = 0 }

pub returns-in_err-put_range-clause-stopped : goal.returns-in_err-put_range-clause-stopped
returns-in_err-put_range-clause-stopped g c =
    let ranges = c.args.ranges.now in
    let index = c.all.range-index in
    let one : ByteRange = get_or ranges index no_range in
    fault_after g.S.Sink.lawful _ _ _ _ _ _ _ _ _ _ _ c.from_residual.ensures
    (flat_rest (item_after range_data) ranges index one c.all-test.true
    (get_or_default ranges index no_range one c.all-test.true))
    c.all.invariant c.in_err-put_range.ensures.stopped

pub all-preserved : goal.all-preserved
all-preserved g c =
    let ranges = c.args.ranges.now in
    let index = c.all.range-index in
    let one : ByteRange = get_or ranges index no_range in
    subst
    (λ (xs : List ℕ). Puts g.S.Sink.took xs c.args.out.now c.args.buffer.now c.put_range.new.out
    c.put_range.new.buffer)
    (flat_more (item_after range_data) ranges index one c.all-test.true
    (get_or_default ranges index no_range one c.all-test.true))
    (puts_both _ _ _ _ _ _ _ _ c.all.invariant c.in_ok-put_range.ensures.put)
