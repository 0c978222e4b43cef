-- What is cut is before the first such byte, and after it.
use Rattle.std.proofs.Common.{◌==◌}
use Rattle.std.proofs.lemmas.List.Sums.{prefix_len-le-length}
use Rattle.std.specs.Prelude.{not}
use Rattle.tor_cli.proofs.AttrsLines.{cut_first, cut_there, has_none, none_there}
use Rattle.tor_cli.proofs.make.path_text.cut_at.Goals as goal

pub split_at-requires : goal.split_at-requires
split_at-requires c =
    rw c.count_before-count.ensures (prefix_len-le-length (λ b. not (b == c.args.byte)) c.args.text.now)

pub returns-in_err-after-clause-none : goal.returns-in_err-after-clause-none
returns-in_err-after-clause-none c =
    rw c.from_residual.ensures
    (has_none c.args.byte c.args.text.now c.count_before-count.result c.split_at.result.1.now
    c.count_before-count.ensures c.split_at.ensures.back c.in_err-after.ensures.cases)

pub returns-in_err-after-clause-read : goal.returns-in_err-after-clause-read
returns-in_err-after-clause-read c before after none same =
    absurd (none_there c.args.byte c.args.text.now before after
    (has_none c.args.byte c.args.text.now c.count_before-count.result c.split_at.result.1.now
    c.count_before-count.ensures c.split_at.ensures.back c.in_err-after.ensures.cases) same)

pub returns-clause-written : goal.returns-clause-written
returns-clause-written c =
    cut_there c.args.byte c.args.text.now c.count_before-count.result c.split_at.result.0.now c.split_at.result.1.now
    c.in_ok-after.field-0-0.now c.in_ok-after.after.now c.count_before-count.ensures c.split_at.ensures.front
    c.split_at.ensures.back c.in_ok-after.ensures.cases.0

pub returns-clause-read : goal.returns-clause-read
returns-clause-read c before after none same =
    cut_first c.args.byte c.args.text.now before after c.count_before-count.result c.split_at.result.0.now
    c.split_at.result.1.now c.in_ok-after.field-0-0.now c.in_ok-after.after.now c.count_before-count.ensures
    c.split_at.ensures.front c.split_at.ensures.back c.in_ok-after.ensures.cases.0 none same
