use Rattle.tor_hashes.proofs.Lanes.{below_eight}
use Rattle.tor_hashes.proofs.sha1_digest.digests.Goals as goal

pub returns : goal.returns
returns c =
    below_eight _
    c.digest.ensures c.digest-2.ensures c.digest-3.ensures c.digest-4.ensures
    c.digest-5.ensures c.digest-6.ensures c.digest-7.ensures c.digest-8.ensures
