-- The first file, the others, and the bracket after them.
use Rattle.std.proofs.lemmas.List.{nil_from_length}
use Rattle.tor_report.proofs.Faults.{fault_after, fault_in, put_same, put_third, stop_same, stop_third}
use Rattle.tor_report.proofs.MembersTexts.{files_text, without_files, without_pieces}
use Rattle.tor_report.proofs.buffer.Buffer.put_files.Goals as goal

pub returns-in_err-put_file-clause-stopped : goal.returns-in_err-put_file-clause-stopped
returns-in_err-put_file-clause-stopped g c =
    fault_in g.S.Sink.lawful _ _ _ _ _ _ _ _ c.from_residual.ensures
    (files_text c.args.files.now c.in-Some.others.now c.in-Some.first.now c.args.pieces.now
    c.in-Some-split_first.of_others.now c.in-Some-split_first.of_first.now c.in-Some.ensures.cases.0
    c.in-Some-split_first.ensures.cases.0)
    (rw c.file.ensures at c.in_err-put_file.ensures.stopped)

pub returns-in_err-put_other_files-clause-stopped : goal.returns-in_err-put_other_files-clause-stopped
returns-in_err-put_other_files-clause-stopped g c =
    fault_after g.S.Sink.lawful _ _ _ _ _ _ _ _ _ _ _ c.from_residual-in_err-put_other_files.ensures
    (files_text c.args.files.now c.in-Some.others.now c.in-Some.first.now c.args.pieces.now
    c.in-Some-split_first.of_others.now c.in-Some-split_first.of_first.now c.in-Some.ensures.cases.0
    c.in-Some-split_first.ensures.cases.0)
    (rw c.file.ensures at c.in_ok-put_file.ensures.put) c.in_err-put_other_files.ensures.stopped

pub returns-clause-put : goal.returns-clause-put
returns-clause-put g c =
    put_third g.S.Sink.lawful _ _ _ _ _ _ _ _ _ _ _ _
    (files_text c.args.files.now c.in-Some.others.now c.in-Some.first.now c.args.pieces.now
    c.in-Some-split_first.of_others.now c.in-Some-split_first.of_first.now c.in-Some.ensures.cases.0
    c.in-Some-split_first.ensures.cases.0)
    (rw c.file.ensures at c.in_ok-put_file.ensures.put) c.in_ok-put_other_files.ensures.put _ c.put-2.ensures.put

pub returns-clause-stopped : goal.returns-clause-stopped
returns-clause-stopped g c =
    stop_third g.S.Sink.lawful _ _ _ _ _ _ _ _ _ _ _ _
    (files_text c.args.files.now c.in-Some.others.now c.in-Some.first.now c.args.pieces.now
    c.in-Some-split_first.of_others.now c.in-Some-split_first.of_first.now c.in-Some.ensures.cases.0
    c.in-Some-split_first.ensures.cases.0)
    (rw c.file.ensures at c.in_ok-put_file.ensures.put) c.in_ok-put_other_files.ensures.put c.put-2.ensures.stopped

pub returns-in_default-clause-put : goal.returns-in_default-clause-put
returns-in_default-clause-put g c =
    put_same g.S.Sink.lawful _ _ _ _ _ _
    (without_files c.args.files.now c.args.pieces.now (nil_from_length _ c.in_default.ensures.cases)) _
    c.put.ensures.put

pub returns-in_default-clause-stopped : goal.returns-in_default-clause-stopped
returns-in_default-clause-stopped g c =
    stop_same g.S.Sink.lawful _ _ _ _ _ _
    (without_files c.args.files.now c.args.pieces.now (nil_from_length _ c.in_default.ensures.cases))
    c.put.ensures.stopped

pub returns-in_default-split_first-clause-put : goal.returns-in_default-split_first-clause-put
returns-in_default-split_first-clause-put g c =
    put_same g.S.Sink.lawful _ _ _ _ _ _
    (without_pieces c.args.files.now c.args.pieces.now (nil_from_length _ c.in_default-split_first.ensures.cases)) _
    c.put-in_default-split_first.ensures.put

pub returns-in_default-split_first-clause-stopped : goal.returns-in_default-split_first-clause-stopped
returns-in_default-split_first-clause-stopped g c =
    stop_same g.S.Sink.lawful _ _ _ _ _ _
    (without_pieces c.args.files.now c.args.pieces.now (nil_from_length _ c.in_default-split_first.ensures.cases))
    c.put-in_default-split_first.ensures.stopped
