use Rattle.tor_tree.proofs.Cited.{sym, take, arith, take_all, All-more, All-same, IsFilePath}
use Rattle.tor_tree.proofs.paths.each_is_path.Goals as goal

pub loop-path-preserved : goal.loop-path-preserved
loop-path-preserved g c =
    All-more (λ entry. IsFilePath entry.0) c.args.entries.now c.loop-path.path-index c.loop-path-item.result
    (omega arith) c.loop-path.invariant (rw (← c.loop-path-item.is) c.names.ensures.lawful)

pub returns : goal.returns
returns g c =
    All-same (λ entry. IsFilePath entry.0) c.args.entries.now (take c.loop-path.path-index c.args.entries.now)
    (sym (take_all c.loop-path.path-index c.args.entries.now (omega arith))) c.loop-path.invariant
