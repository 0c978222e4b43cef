-- The first range, the others, and the bracket after them.
use Rattle.tor_cli.specs.text.Records.{range_data}
use Rattle.tor_report.proofs.ProvedLaws.{array_text, fault_after, fault_in, put_third, stop_third}
use Rattle.tor_cli.proofs.recheck.found_record.put_ranges.Goals as goal

pub returns-in_err-put_range-clause-stopped : goal.returns-in_err-put_range-clause-stopped
returns-in_err-put_range-clause-stopped g c =
    fault_in g.S.Sink.lawful _ _ _ _ _ _ _ _ c.from_residual.ensures
    (array_text range_data c.args.ranges.now c.in-Some.others.now c.in-Some.first.now c.in-Some.ensures.cases.0)
    c.in_err-put_range.ensures.stopped

pub returns-in_err-put_other_ranges-clause-stopped : goal.returns-in_err-put_other_ranges-clause-stopped
returns-in_err-put_other_ranges-clause-stopped g c =
    fault_after g.S.Sink.lawful _ _ _ _ _ _ _ _ _ _ _ c.from_residual-in_err-put_other_ranges.ensures
    (array_text range_data c.args.ranges.now c.in-Some.others.now c.in-Some.first.now c.in-Some.ensures.cases.0)
    c.in_ok-put_range.ensures.put c.in_err-put_other_ranges.ensures.stopped

pub returns-clause-put : goal.returns-clause-put
returns-clause-put g c =
    put_third g.S.Sink.lawful _ _ _ _ _ _ _ _ _ _ _ _
    (array_text range_data c.args.ranges.now c.in-Some.others.now c.in-Some.first.now c.in-Some.ensures.cases.0)
    c.in_ok-put_range.ensures.put c.in_ok-put_other_ranges.ensures.put _ c.put-2.ensures.put

pub returns-clause-stopped : goal.returns-clause-stopped
returns-clause-stopped g c =
    stop_third g.S.Sink.lawful _ _ _ _ _ _ _ _ _ _ _ _
    (array_text range_data c.args.ranges.now c.in-Some.others.now c.in-Some.first.now c.in-Some.ensures.cases.0)
    c.in_ok-put_range.ensures.put c.in_ok-put_other_ranges.ensures.put c.put-2.ensures.stopped
