-- What was collected is what the calls of `next` gave, and these gave all there was.
use Rattle.std.proofs.Common.{◌∙◌}
use Rattle.std.proofs.IntoIterSteps.{All-taken}
use Rattle.std.proofs.lemmas.Result.{IfOk-weaker}
use Rattle.tor_cli.proofs.program.word_list.Goals as goal

pub returns : goal.returns
returns c = record {
  same = IfOk-weaker c.collect.result _ _
      (λ all h. let last = h.1.2 tt in h.2.0 ∙ All-taken c.args.words h.0 (last.0, (h.1.0, h.1.1, last.1)))
      c.collect.ensures.ran;
}
