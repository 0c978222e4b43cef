use Rattle.tor_board.proofs.{Machines.run_good, Machines.lawful, Moves.few_claims, Running.{homes, running}}
use Rattle.tor_board.proofs.Stepping.{each_step, history_runs}
use Rattle.tor_board.proofs.laws.board_law.Goals as goal

pub returns : goal.returns
returns c = record {
  reason = λ shape state kept i v at done. kept.claims.why i v at done;
  few_claims = λ shape state kept. few_claims kept.claims;
  running = λ words slots shape state shaped kept. running kept shaped;
  homes = λ words slots shape m s shaped kept shows. homes kept shaped m shows;
  events = λ words slots shape shaped m s s' kept kept' shows id v has e at step. each_step
      (record { kept = kept; kept' = kept'; shows = shows; at = at }) shaped has e step;
  history = history_runs;
  runs = λ units forest events m run. lawful units forest m (run_good units forest events m run);
}
