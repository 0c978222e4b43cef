-- the pieces so far were judged
use Rattle.tor_recheck.proofs.Names.{length, told_hashes, merkle_judged}
use Rattle.tor_recheck.proofs.JudgedTo.{AreJudgedTo}
use Rattle.tor_recheck.proofs.piece_bits.merkle_verified_bits.Given as goal

abbrev pub decreases-judging : goal.decreases-judging
decreases-judging l = length l.left

abbrev pub invariant-judging : goal.invariant-judging
invariant-judging l =
    AreJudgedTo (merkle_judged l.torrent l.hashes) l.hashes l.left (told_hashes l.torrent) l.told l.held
