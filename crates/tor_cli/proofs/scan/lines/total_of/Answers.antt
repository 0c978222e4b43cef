-- One length more.
use Rattle.std.proofs.Common.{◌+◌, ◌-◌, ◌^◌, ◌∙◌, ℕ, ap, get_or, min, sym, take}
use Rattle.std.proofs.lemmas.List.{take_all, take_more}
use Rattle.tor_cli.specs.make.FileSizes.{total_of}
use Rattle.tor_cli.proofs.FileSizes.{one_length_more}
use Rattle.tor_cli.proofs.scan.lines.total_of.Goals as goal

pub lengths-preserved : goal.lengths-preserved
lengths-preserved c =
    let lengths = c.args.lengths.now in
    let index = c.lengths.length-index in
    c.saturating_add-total.ensures
    ∙ ap (λ (n : ℕ). min (n + get_or lengths index 0) (2 ^ 64 - 1)) c.lengths.invariant
    ∙ one_length_more (take index lengths) (get_or lengths index 0)
    ∙ ap total_of (sym (take_more lengths index 0 c.lengths-test.true))

pub returns : goal.returns
returns c =
    c.lengths.invariant ∙ ap total_of (take_all c.lengths.length-index c.args.lengths.now c.lengths-test.false)
