-- the lengths so far
use Rattle.std.proofs.Common.{◌≡◌, take}
use Rattle.tor_tree.specs.FileList.{lengths_of}
use Rattle.tor_meta.proofs.listing.lengths_of.Given as goal

abbrev pub invariant-files : goal.invariant-files
invariant-files l = l.lengths.items ≡ lengths_of (take l.length-index l.files)
