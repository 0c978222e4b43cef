use Rattle.std.proofs.Common.{◌≤◌, ◌^◌, ◌-◌, ℕ, arith}
use Rattle.std.proofs.Math.Pow.{pow_mono}
use Rattle.tor_tests_low.proofs.board.shared.root_over.Goals as goal

small : (level : ℕ) → level ≤ 2 → 128 ≤ 2 ^ (36 - level)
small level low = let e : 7 ≤ 36 - level = omega (arith, low) in let p : 2 ^ 7 ≤ 2 ^ (36 - level) = pow_mono e in
    omega (arith, p)

pub layer_root-requires-clause-small : goal.layer_root-requires-clause-small
layer_root-requires-clause-small g c
    = omega (arith, small c.args.level c.requires.2, c.deref.ensures.len, c.len.ensures, c.if-len-gt128.false)
