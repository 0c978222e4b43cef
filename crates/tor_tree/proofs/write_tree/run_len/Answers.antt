use Rattle.tor_tree.proofs.Cited.{◌≡◌, true, sym, ◌∙◌, arith, All-more, has_name_at}
use Rattle.tor_tree.proofs.write_tree.run_len.Goals as goal

pub loop-i-preserved : goal.loop-i-preserved
loop-i-preserved c =
    let here : has_name_at c.args.depth c.args.name.now c.index-files-i.result.0 ≡ true =
    sym c.has_name_at.ensures ∙ c.if-not-has_name_at.false in
    All-more (λ file. has_name_at c.args.depth c.args.name.now file.0 ≡ true) c.args.files.now c.loop-i.i
    c.index-files-i.result (omega arith) c.loop-i.invariant (rw (← c.index-files-i.is) here)
