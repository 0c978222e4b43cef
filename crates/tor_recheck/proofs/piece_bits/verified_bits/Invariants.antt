-- the pieces so far were judged, and the SHA-1 of the others are left
use Rattle.tor_recheck.proofs.Names.{◌≡◌, ◌*◌, drop, length, told_hashes, judged}
use Rattle.tor_recheck.proofs.JudgedTo.{AreJudgedTo}
use Rattle.tor_recheck.proofs.piece_bits.verified_bits.Given as goal

abbrev pub decreases-judging : goal.decreases-judging
decreases-judging l = length l.left

abbrev pub invariant-judging : goal.invariant-judging
invariant-judging l =
    (so_far : AreJudgedTo (judged l.torrent l.hashes) l.hashes l.left (told_hashes l.torrent) l.told l.bits)
    × (l.sums ≡ drop (so_far.count * 20) l.torrent.pieces)
