-- each file so far was looked for
use Rattle.std.proofs.Common.{take}
use Rattle.tor_source.specs.steps.Named.{HasLookedFor}
use Rattle.tor_source.proofs.folder.named.find_from_top.Given as goal

abbrev pub invariant-files : goal.invariant-files
invariant-files g l = HasLookedFor (take l.file-index l.files) l.found
