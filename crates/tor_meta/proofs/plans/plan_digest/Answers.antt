-- 16 KiB are the length of a piece
use Rattle.std.proofs.Common.{◌≡◌, refl}
use Rattle.tor_meta.proofs.plans.plan_digest.Goals as goal
use lib.Count.{ones}

once : ones 16384 ≡ 1
unfolding ones
once = refl

pub new-feed-requires : goal.new-feed-requires
new-feed-requires c = rw once refl
