-- What was fed before, and the part.
use Rattle.std.proofs.Common.{◌+◌, ℕ, length, length-append, ap}
use Rattle.tor_meta.proofs.fed.FedSums.feed.Goals as goal

pub returns-in-Ok-clause-ok : goal.returns-in-Ok-clause-ok
returns-in-Ok-clause-ok c = λ kind piece_length bytes fed. record {
  counted = rw length-append (ap (λ (n : ℕ). n + length c.args.part.now) fed.counted);
  content = c.in-Ok.ensures.fed kind piece_length bytes bytes fed.content;
}
