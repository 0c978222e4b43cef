use Rattle.std.proofs.Common.{◌≡◌, take}
use Rattle.tor_meta.specs.Contents.{without_letters}
use Rattle.tor_meta.proofs.from_source.without_letters.Given as goal

abbrev pub invariant-loop-path : goal.invariant-loop-path
invariant-loop-path l = l.files.items ≡ without_letters (take l.path-index l.paths)
