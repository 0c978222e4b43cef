use Rattle.tor_source.proofs.Entries.{ahead_unnamed, entered_next}
use Rattle.tor_source.proofs.FoundFiles.{has_refused}
use Rattle.tor_source.proofs.folder.walk.enter.Goals as goal

pub returns-in-Err : goal.returns-in-Err
returns-in-Err g c =
    let refused = c.in_ok-refuse-in-Err.ensures in
    record {
      found = has_refused _ _ _ _ refused c.requires.found;
      ahead = rw (refused.paths, c.truncate.ensures.items)
          (ahead_unnamed c.args.found.now.paths.items c.args.last.now.items c.args.waiting.now.items c.args.entry
          c.requires.ahead);
    }

pub settle-requires-clause-entered : goal.settle-requires-clause-entered
settle-requires-clause-entered g c =
    rw (
      c.deref-3.ensures.value,
      c.in_ok-push-in-Ok.ensures.items,
      c.truncate.ensures.items,
      c.in-Ok.ensures.made,
      c.deref.ensures.value,
    )
    (entered_next c.args.found.now.paths.items c.args.last.now.items c.args.waiting.now.items c.args.entry
    c.requires.ahead)
