-- what was taken is still taken
use Rattle.tor_sums.proofs.worker.WorkerSums.reserve.Goals as goal

pub returns-clause-keeps : goal.returns-clause-keeps
returns-clause-keeps c = λ kind p bytes unit before. record {
  fed_bytes = before.fed_bytes;
  fed_unit = before.fed_unit;
  fed = c.reserve.ensures.same kind p before.fed_bytes before.fed_unit before.fed;
  bytes_joined = before.bytes_joined;
  unit_joined = before.unit_joined;
}
