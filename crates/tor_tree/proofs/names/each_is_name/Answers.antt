use Rattle.tor_tree.proofs.Cited.{◌≡◌, None, sym, take, arith, take_all, All-more, All-same, name_fault}
use Rattle.tor_tree.proofs.names.each_is_name.Goals as goal

pub loop-name-preserved : goal.loop-name-preserved
loop-name-preserved c =
    All-more (λ name. name_fault name ≡ None) c.args.names.now c.loop-name.name-index c.name-item.result
    (omega arith) c.loop-name.invariant (rw (← c.name-item.is) c.as_bytes.ensures.faultless)

pub returns : goal.returns
returns c =
    All-same (λ name. name_fault name ≡ None) c.args.names.now (take c.loop-name.name-index c.args.names.now)
    (sym (take_all c.loop-name.name-index c.args.names.now (omega arith))) c.loop-name.invariant
