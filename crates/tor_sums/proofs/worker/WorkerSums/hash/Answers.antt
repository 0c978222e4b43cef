-- the first bytes that waited were hashed
use Rattle.std.proofs.Common.{arith, refl}
use Rattle.tor_sums.proofs.Waiting.{pieces_keep}
use Rattle.tor_sums.proofs.worker.WorkerSums.hash.Goals as goal

pub returns-clause-keeps : goal.returns-clause-keeps
returns-clause-keeps c = λ kind p bytes unit taken.
    pieces_keep c.feed_tree.new.self _ c.args.count c.front.result.now
    (omega (arith, c.in_ok-feed_tree.ensures.treed)) refl c.front.ensures.value c.let_go.ensures.held
    c.in_ok-feed_pieces.ensures.fed kind p bytes unit (c.in_ok-feed_tree.ensures.keeps kind p bytes unit taken)
