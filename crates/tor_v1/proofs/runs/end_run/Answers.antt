-- eight hashes are the sums of their pieces
use Rattle.std.proofs.Common.{◌++◌, ap, ◌∙◌}
use Rattle.tor_v1.proofs.RunSums.{sums-run}
use Rattle.tor_v1.proofs.runs.end_run.Goals as goal

pub returns-clause-hashed : goal.returns-clause-hashed
returns-clause-hashed c =
    c.push_eight.ensures.joined
    ∙ ap (λ xs. c.args.sums.now.items ++ xs)
    (sums-run c.args.piece_length c.args.run.now c.piece_hashes-hashes.result c.requires.some c.requires.length
    c.push_eight.ensures.eight c.piece_hashes-hashes.ensures)
