-- what the library says; a search for what it does not say takes a minute
use Rattle.tor_promises_high.proofs.streams.sums_of_readers.Goals as goal

pub returns-clause-summed : goal.returns-clause-summed
returns-clause-summed g c = c.hash_streams.ensures.summed

pub returns-clause-told : goal.returns-clause-told
returns-clause-told g c = c.hash_streams.ensures.told
