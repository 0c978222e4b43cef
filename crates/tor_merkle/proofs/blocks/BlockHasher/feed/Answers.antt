-- each part and each run is within what is fed
use Rattle.std.proofs.lemmas.Grind.{common_steps}
use Rattle.tor_merkle.proofs.Names.{ℕ, ◌+◌, ◌*◌, ◌^◌, ◌≤◌, length, arith, sym, ap, le_trans, length-append, pow_pos}
use Rattle.tor_merkle.proofs.Names.{eqb-false, div_ceil}
use Rattle.tor_merkle.proofs.Ceil.{ceil_mono}
use Rattle.tor_merkle.proofs.blocks.BlockHasher.feed.Goals as goal

-- there is room for the pieces of less than all
room_of_part : (less all k asked capacity : ℕ) → less ≤ all → div_ceil all (16384 * 2 ^ k) ≤ asked → asked ≤ capacity
    → div_ceil less (16384 * 2 ^ k) ≤ capacity
room_of_part less all k asked capacity le fits more =
    le_trans (ceil_mono less all (16384 * 2 ^ k) (omega (arith, pow_pos k)) le) (le_trans fits more)

pub add-requires : goal.add-requires
add-requires c =
    let now = c.args.self.now in
    let all = simp length-append at (ap length c.parts.invariant.all) in
    let cut = c.split_at-else-self-eq0.ensures in
    record {
      some = omega (arith, eqb-false (length c.parts.rest.now) 0 (sym c.parts-test.ensures), cut.front_len);
      within = omega (arith, cut.front_len);
      small = omega (arith, all, cut.front_len, cut.back_len, c.requires.small);
      room =
          rw c.parts.invariant.height
          (room_of_part _ (length now.bytes + length c.args.bytes.now) now.height now.capacity _
          (omega (arith, all, cut.front_len, cut.back_len)) c.requires.room c.parts.invariant.capacity);
    }

pub add_run-requires : goal.add_run-requires
add_run-requires c =
    let now = c.args.self.now in
    let all = simp length-append at (ap length c.parts.invariant.all) in
    let cut = c.split_at.ensures in
    record {
      whole = omega (arith, c.self.invariant.counted, c.if-self-eq0.true, ap (λ v. length v.bytes) c.self.view_is);
      cut = omega (arith, cut.front_len);
      few = omega (arith, cut.front_len);
      small = omega (arith, all, cut.front_len, cut.back_len, c.requires.small);
      room =
          rw c.parts.invariant.height
          (room_of_part _ (length now.bytes + length c.args.bytes.now) now.height now.capacity _
          (omega (arith, all, cut.front_len, cut.back_len)) c.requires.room c.parts.invariant.capacity);
    }

pub parts-preserved-then-rest-ge-LEAST_RUN : goal.parts-preserved-then-rest-ge-LEAST_RUN
parts-preserved-then-rest-ge-LEAST_RUN c = grind (arith, common_steps)

pub parts-preserved : goal.parts-preserved
parts-preserved c = grind (arith, common_steps)

pub returns-clause-bytes : goal.returns-clause-bytes
returns-clause-bytes c = grind (arith, common_steps)
