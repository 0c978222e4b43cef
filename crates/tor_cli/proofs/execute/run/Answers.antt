-- The status tells of the fault that there is, or of the answer.
use Rattle.tor_cli.proofs.Doing.{ends, ends_well}
use Rattle.tor_cli.proofs.execute.run.Goals as goal

pub returns : goal.returns
returns g c =
    let tell = c.tell-status.ensures in
    let answer = c.answer-outcome.ensures in
    record {
      within = tell.within;
      done = λ zero. ends_well _ c.answer-outcome.result (tell.done zero) answer.done;
      stopped = λ other. ends _ _ c.answer-outcome.result c.tell-status.result tell.value answer.done answer.stopped other;
    }
