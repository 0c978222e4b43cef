-- no byte, no piece
use Rattle.std.proofs.Common.{arith}
use Rattle.std.proofs.lemmas.List.{nil_from_length}
use Rattle.tor_sums.proofs.unit_sums.node_at.Goals as goal

pub returns-then-is_empty-clause-some : goal.returns-then-is_empty-clause-some
returns-then-is_empty-clause-some c = λ some.
    let bytes = c.args.tree.bytes in
    let more = c.piece_roots_fit_a_layer.ensures.some bytes c.args.tree.piece_length in
    some (nil_from_length bytes (grind (arith, more)))

pub returns-clause-none : goal.returns-clause-none
returns-clause-none c = λ none.
    let count = c.count_of_piece_roots.ensures c.args.tree.bytes c.args.tree.piece_length in
    grind (arith, count)
