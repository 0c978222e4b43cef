-- the powers below the height are too small, and no other is
use Rattle.tor_merkle.proofs.Names.{◌≡◌, ◌*◌, ◌%◌, ◌^◌, arith, le_antisymm, one_shl}
use Rattle.tor_merkle.proofs.Height.{height_least, height_above}
use Rattle.tor_merkle.proofs.digits.height_of.Goals as goal

pub overflow_shl-k : goal.overflow_shl-k
overflow_shl-k c = omega (arith, height_least c.args.count 36 c.requires)

pub overflow_add-k : goal.overflow_add-k
overflow_add-k c = omega (arith, height_least c.args.count 36 c.requires)

pub higher-smaller : goal.higher-smaller
higher-smaller c =
    let power : (1 * 2 ^ c.higher.k) % 2 ^ 64 ≡ 2 ^ c.higher.k =
    one_shl c.higher.k 64 (omega (arith, height_least c.args.count 36 c.requires)) in
    let above = height_above c.args.count c.higher.k (omega (arith, power)) in
    omega arith

pub higher-preserved : goal.higher-preserved
higher-preserved c =
    let power : (1 * 2 ^ c.higher.k) % 2 ^ 64 ≡ 2 ^ c.higher.k =
    one_shl c.higher.k 64 (omega (arith, height_least c.args.count 36 c.requires)) in
    let above = height_above c.args.count c.higher.k (omega (arith, power)) in
    omega arith

pub returns : goal.returns
returns c =
    let power : (1 * 2 ^ c.higher.k) % 2 ^ 64 ≡ 2 ^ c.higher.k =
    one_shl c.higher.k 64 (omega (arith, height_least c.args.count 36 c.requires)) in
    le_antisymm c.higher.invariant (height_least c.args.count c.higher.k (omega (arith, power)))
