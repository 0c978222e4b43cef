use Rattle.std.proofs.Common.{arith}
use Rattle.std.proofs.lemmas.Grind.{common_steps}
use Rattle.tor_merkle.proofs.feed.Feed.end_with.Goals as goal

pub end_with-requires : goal.end_with-requires
end_with-requires c = grind (arith, common_steps)
