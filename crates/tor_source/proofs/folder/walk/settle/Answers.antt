use Rattle.std.proofs.lemmas.Result.{on_ok_weaker}
use Rattle.tor_source.proofs.Entries.{ahead_file}
use Rattle.tor_source.proofs.FoundFiles.{has_taken}
use Rattle.tor_source.proofs.folder.walk.settle.Goals as goal

pub returns-in-Folder-clause-ahead : goal.returns-in-Folder-clause-ahead
returns-in-Folder-clause-ahead c =
    on_ok_weaker c.add_names.result (λ added. added c.args.found.now.paths.items c.requires.entered)
    c.add_names.ensures.ahead

pub returns-in-File-clause-found : goal.returns-in-File-clause-found
returns-in-File-clause-found c =
    on_ok_weaker c.add_file.result
    (λ taken. has_taken c.args.found.now c.add_file.new.found c.args.names.now c.args.waiting.now.items taken
    c.requires.found c.requires.entered (rw c.in-File.is at c.requires.standing)) c.add_file.ensures

pub returns-in-File-clause-ahead : goal.returns-in-File-clause-ahead
returns-in-File-clause-ahead c =
    on_ok_weaker c.add_file.result
    (λ taken. rw taken.path
    (ahead_file c.args.found.now.paths.items c.args.names.now c.args.waiting.now.items c.requires.entered))
    c.add_file.ensures
