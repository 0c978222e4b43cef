use Rattle.std.proofs.Common.{◌≡◌, ◌+◌, ◌%◌, arith, refl, length}
use Rattle.tor_hashes.proofs.Lanes.{word_of_window}
use Rattle.tor_hashes.proofs.sha1_rounds.next_word.Goals as goal

pub returns-clause-value : goal.returns-clause-value
returns-clause-value c j h =
    let w = c.args.w.now in
    let t = c.args.t in
    let long : length w ≡ 16 = c.told-w in
    rw (
      c.rotated_left-word.ensures j h,
      c.xor.ensures j h,
      c.xor-sum2.ensures j h,
      c.xor-sum1.ensures j h,
      ← word_of_window w j ((t + 13) % 16) _ (omega arith),
      ← word_of_window w j ((t + 8) % 16) _ (omega arith),
      ← word_of_window w j ((t + 2) % 16) _ (omega arith),
      ← word_of_window w j (t % 16) _ (omega arith),
    ) refl
