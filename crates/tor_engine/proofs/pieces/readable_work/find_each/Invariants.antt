-- what is found of the pieces so far
use Rattle.std.proofs.Common.{[], map, take}
use Rattle.tor_sums.specs.steps.Given.{IsGivenRead, lengths_of_sizes}
use Rattle.tor_sums.specs.steps.Owing.{Owes}
use Rattle.tor_engine.specs.steps.Pieces.{hashes_in}
use Rattle.tor_engine.specs.steps.Readable.{FindsReadable}
use Rattle.tor_engine.proofs.pieces.readable_work.find_each.Given as goal

abbrev pub invariant-pieces : goal.invariant-pieces
invariant-pieces g l = record {
  owing : Owes l.plan [] l.worker;
  found : FindsReadable (g.S.FileBytes.is_steady l.source)
      (IsGivenRead (g.S.FileBytes.answers l.source) (lengths_of_sizes l.known.lengths.items)) l.plan
      l.known.lengths.items (take l.piece-index l.piece-items) (map hashes_in l.found.items) l.faults.items;
}
