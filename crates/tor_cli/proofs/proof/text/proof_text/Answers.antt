-- One more sibling.
use Rattle.std.proofs.Common.{◌<◌, ◌++◌, codes, length}
use Rattle.tor_cli.specs.proof.ProofText.{hash_line, index_line}
use Rattle.tor_cli.proofs.Siblings.{one_hash, one_written}
use Rattle.tor_cli.proofs.proof.text.proof_text.Goals as goal

pub loop-sibling-preserved : goal.loop-sibling-preserved
loop-sibling-preserved c =
    let siblings = c.args.proof.now.siblings.items in
    let i = c.loop-sibling.sibling-index in
    let within : i < length siblings = rw (← c.deref-sibling-items.ensures.value) c.loop-sibling-test.true in
    let head = index_line c.args.index ++ hash_line (codes "hash ") c.args.hash.now in
    let line = rw c.deref-sibling-items.ensures.value at c.in_ok-push_hash-2.ensures in
    record {
      text = one_written head _ _ siblings i within c.loop-sibling.invariant.text line.text;
      hashes = one_hash siblings i within c.loop-sibling.invariant.hashes line.hash;
    }
