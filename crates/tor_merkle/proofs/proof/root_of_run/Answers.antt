-- a run past the end, and one that begins before it
use Rattle.tor_merkle.proofs.Names.{◌≡◌, ◌*◌, ◌%◌, ◌^◌, arith, ap, ◌∙◌, sym, one_shl}
use Rattle.tor_merkle.proofs.Siblings.{run-past}
use Rattle.tor_merkle.proofs.proof.root_of_run.Goals as goal

pub returns-then-start-hashes : goal.returns-then-start-hashes
returns-then-start-hashes c =
    let power : (1 * 2 ^ c.args.above) % 2 ^ 64 ≡ 2 ^ c.args.above = one_shl c.args.above 64 (omega arith) in
    c.zero.ensures
    ∙ sym (run-past c.args.level c.args.hashes.now c.args.above c.args.index
    (omega (arith, c.if-start-hashes.true, ap (λ x. c.args.index * x) power)))
