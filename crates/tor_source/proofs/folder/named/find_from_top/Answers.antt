use Rattle.std.proofs.Common.{take, add-one}
use Rattle.std.proofs.Math.Seq.{take-suc}
use Rattle.std.proofs.Common.{arith}
use Rattle.std.proofs.lemmas.Grind.{common_steps}
use Rattle.tor_source.proofs.folder.named.find_from_top.Goals as goal

pub files-preserved : goal.files-preserved
files-preserved g c =
    rw (add-one, take-suc c.args.files.now c.files.file-index c.file-item.result c.files-test.true, ← c.file-item.is)
    (c.in_ok-settle.ensures (take c.files.file-index c.args.files.now) c.files.invariant)

pub settle-requires : goal.settle-requires
settle-requires g c = grind (arith, common_steps)

pub returns : goal.returns
returns g c = grind (arith, common_steps)
