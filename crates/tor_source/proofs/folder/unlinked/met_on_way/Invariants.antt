use Rattle.std.proofs.Common.{◌≡◌, vec_len}
use Rattle.tor_source.proofs.folder.unlinked.met_on_way.Given as goal

abbrev pub invariant-files : goal.invariant-files
invariant-files g l = vec_len l.met ≡ l.file-index
