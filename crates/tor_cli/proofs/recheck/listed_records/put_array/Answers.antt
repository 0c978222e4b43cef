-- The bracket, the items, and the bracket after them.
use Rattle.tor_cli.proofs.ItemsTexts.{items_array}
use Rattle.tor_cli.specs.text.Records.{listed_files}
use Rattle.tor_report.proofs.ProvedLaws.{fault_after, fault_in, put_third, stop_third}
use Rattle.tor_cli.proofs.recheck.listed_records.put_array.Goals as goal

pub returns-in_err-put-clause-stopped : goal.returns-in_err-put-clause-stopped
returns-in_err-put-clause-stopped g c =
    fault_in g.S.Sink.lawful _ _ _ _ _ _ _ _ c.from_residual.ensures
    (items_array (listed_files c.args.listing c.args.told.now c.args.files.now))
    c.in_err-put.ensures.stopped

pub returns-in_err-put_listed-clause-stopped : goal.returns-in_err-put_listed-clause-stopped
returns-in_err-put_listed-clause-stopped g c =
    fault_after g.S.Sink.lawful _ _ _ _ _ _ _ _ _ _ _ c.from_residual-in_err-put_listed.ensures
    (items_array (listed_files c.args.listing c.args.told.now c.args.files.now))
    c.in_ok-put.ensures.put c.in_err-put_listed.ensures.stopped

pub returns-clause-put : goal.returns-clause-put
returns-clause-put g c =
    put_third g.S.Sink.lawful _ _ _ _ _ _ _ _ _ _ _ _
    (items_array (listed_files c.args.listing c.args.told.now c.args.files.now))
    c.in_ok-put.ensures.put c.in_ok-put_listed.ensures.put _ c.put-2.ensures.put

pub returns-clause-stopped : goal.returns-clause-stopped
returns-clause-stopped g c =
    stop_third g.S.Sink.lawful _ _ _ _ _ _ _ _ _ _ _ _
    (items_array (listed_files c.args.listing c.args.told.now c.args.files.now))
    c.in_ok-put.ensures.put c.in_ok-put_listed.ensures.put c.put-2.ensures.stopped
