-- one bit for each hash
use Rattle.tor_recheck.proofs.Names.{◌∙◌, None, ap, arith, length, length-append}
use Rattle.tor_recheck.proofs.Names.{Option, PieceHash, length-replicate, replicate}
use Rattle.tor_recheck.proofs.Rechecked.{count_of_judged}
use Rattle.tor_recheck.proofs.rechecking_lot.bits_by_hashes.Goals as goal

pub bits_between-requires-clause-within : goal.bits_between-requires-clause-within
bits_between-requires-clause-within c =
    let all = ap length c.in_ok-bits.ensures ∙ count_of_judged c.args.torrent.now c.in_ok-all.all
    ∙ ap length c.in_ok-all.ensures in
    let joined = length-append (replicate c.args.from None) c.args.hashes in
    let missing = length-replicate {A = Option PieceHash} c.args.from None in
    omega (arith, all, joined, missing, c.requires.within)
