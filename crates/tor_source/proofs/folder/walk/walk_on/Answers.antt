use Rattle.tor_source.proofs.FoundFiles.{found_none}
use Rattle.tor_source.proofs.folder.walk.walk_on.Goals as goal

pub loop-init : goal.loop-init
loop-init g c =
    let none = c.none_found-found.ensures in (
      found_none _ none.paths none.listed,
      rw (none.paths, c.new-last.ensures.items) c.in_ok-waiting.ensures,
    )
