-- what is left of these files was left at first
use Rattle.tor_recheck.proofs.Names.{◌≡◌, length}
use Rattle.tor_recheck.proofs.ToldLeft.{hashes_from}
use Rattle.tor_recheck.proofs.merkle_hashes.ToldHashes.next.Given as goal

abbrev pub decreases-left : goal.decreases-left
decreases-left l = length l.files

abbrev pub invariant-left : goal.invariant-left
invariant-left l = record {
  same : l.self-inside.piece_length ≡ l.piece_length;
  left : hashes_from l.piece_length l.passed l.files ≡ hashes_from l.piece_length l.initial.passed l.initial.files;
}
