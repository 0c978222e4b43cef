use Rattle.sha2.specs.Sha256.{first_words, padding, schedule}
use Rattle.tor_hashes.specs.steps.Lanes.{eight_of}
use Rattle.tor_hashes.proofs.PaddingSha256.{one_round_more}
use Rattle.tor_hashes.proofs.nodes.padding_round.Goals as goal

pub returns : goal.returns
unfolding first_words schedule
returns c = λ j h lt held.
    one_round_more h (eight_of j c.args.v) (schedule (padding 64) 48) c.args.t _ (eight_of j c.round.result) held
    (c.same.ensures j lt) (c.round.ensures j lt)
