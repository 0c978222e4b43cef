use Rattle.tor_hashes.proofs.Shuffles.{exchanged}
use Rattle.tor_hashes.proofs.transposed.transposed.Goals as goal

pub returns : goal.returns
returns c =
    exchanged c.args.vectors c.halves.ensures c.halves-2.ensures c.halves-3.ensures c.halves-4.ensures
    c.pairs.ensures c.pairs-2.ensures c.pairs-3.ensures c.pairs-4.ensures
    c.singles.ensures c.singles-2.ensures c.singles-3.ensures c.singles-4.ensures
