use Rattle.std.proofs.lemmas.Result.{on_ok_weaker}
use Rattle.tor_source.proofs.Parted.{looked_refused, looked_taken}
use Rattle.tor_source.proofs.folder.named.settle.Goals as goal

pub returns-in-File : goal.returns-in-File
returns-in-File c = λ files before.
    on_ok_weaker c.add_file.result
    (λ taken. looked_taken files c.args.found.now c.add_file.new.found c.args.file.now
    (rw c.names.ensures.value at taken) (rw c.in-File.is at c.requires) before) c.add_file.ensures

pub returns-in-NotTaken : goal.returns-in-NotTaken
returns-in-NotTaken c = λ files before.
    on_ok_weaker c.refuse_last.result
    (λ refused. looked_refused files c.args.found.now c.refuse_last.new.found c.args.file.now c.in-NotTaken.refusal
    (rw c.names-in-NotTaken.ensures.value at refused) before) c.refuse_last.ensures
