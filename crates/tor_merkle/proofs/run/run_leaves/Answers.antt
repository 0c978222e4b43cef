-- the hashes of a run's blocks are its leaves
use Rattle.tor_merkle.proofs.Names.{rules, ◌≡◌, length, arith}
use Rattle.tor_merkle.proofs.Runs.{leaves-run}
use Rattle.tor_merkle.proofs.run.run_leaves.Goals as goal

pub returns-then-run-eq-RUN_LENGTH-clause-leaves : goal.returns-then-run-eq-RUN_LENGTH-clause-leaves
returns-then-run-eq-RUN_LENGTH-clause-leaves c =
    let eight : length c.block_hashes.result ≡ 8 = search rules in
    leaves-run c.args.run.now c.block_hashes.result (omega (arith, eight, c.requires))
    (λ i lt. c.block_hashes.ensures i (omega (arith, lt, c.requires)))

pub returns-clause-leaves : goal.returns-clause-leaves
returns-clause-leaves c =
    leaves-run c.args.run.now c.last_block_hashes.result (omega (arith, c.last_block_hashes.ensures.eight, c.requires))
    c.last_block_hashes.ensures.hashes
