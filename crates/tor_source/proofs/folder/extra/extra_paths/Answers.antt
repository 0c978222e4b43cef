use Rattle.tor_source.specs.Named.{path_of}
use Rattle.std.proofs.Common.{map}
use Rattle.tor_source.proofs.KnownPaths.{all_extra}
use Rattle.tor_source.proofs.folder.extra.extra_paths.Goals as goal

pub returns-clause-all : goal.returns-clause-all
returns-clause-all c =
    all_extra c.args.taken.now (map path_of c.args.refused.now) c.args.known.now c.in_ok-known.known.items
    c.sort.new.self.items c.new-extra.result.items c.add_extra_files.new.extra.items c.add_extra_refused.new.extra.items
    c.sort-2.new.self.items c.in_ok-known.ensures c.in_ok-sort.ensures.permutation c.new-extra.ensures.items
    (rw c.deref.ensures.value at c.in_ok-add_extra_files.ensures)
    (rw c.deref-2.ensures.value at c.in_ok-add_extra_refused.ensures) c.in_ok-sort-2.ensures.permutation
