-- a reader for each place so far
use Rattle.std.proofs.Common.{◌≡◌, take}
use Rattle.tor_source.proofs.lazy.readers_of.Given as goal

abbrev pub invariant-files : goal.invariant-files
invariant-files g l = l.readers.items ≡ take l.file l.places
