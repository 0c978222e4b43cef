-- from what was read to the sums
use Rattle.std.proofs.Common.{map}
use Rattle.tor_streams.specs.Streams.{AreSumsOfContents, AreSumsOfReaders, GiveContents, IsFaultOfReaders}
use Rattle.tor_streams.proofs.FedLanes.{some_fed, stopped, summed}
use Rattle.tor_streams.proofs.Readers.{told_sums}
use Rattle.tor_streams.proofs.streams.hash_streams_with.Goals as goal

pub sums_of_fed-requires-clause-fed : goal.sums_of_fed-requires-clause-fed
sums_of_fed-requires-clause-fed g c =
    let known = map g.R.Read.remaining c.args.readers.items in
    some_fed c.of-chunking.result (GiveContents known) (IsFaultOfReaders known) c.in_ok-fed.fed
    c.in_ok-fed.ensures.is

pub returns : goal.returns
returns g c =
    let kind = c.args.kind in
    let tail = c.args.tail in
    let p = c.args.piece_length in
    let known = map g.R.Read.remaining c.args.readers.items in
    let summed_up = summed c.of-chunking.result (GiveContents known) (IsFaultOfReaders known) c.in_ok-fed.fed
    c.in_ok-fed.ensures.is kind tail p c.of-chunking.ensures.told in
    let answer = c.in_ok-summed.summed in
    let is = c.in_ok-summed.ensures.summed in
    record {
      summed = summed_up (AreSumsOfReaders kind tail p known)
          (λ sums up. record { contents = up.0; given = up.1; small = up.2; sums_up = up.3 }) answer is;
      told = λ contents same. summed_up (AreSumsOfContents kind tail p contents)
          (λ sums up. told_sums kind tail p known sums
          (record { contents = up.0; given = up.1; small = up.2; sums_up = up.3 }) contents same) answer is;
      fault = stopped c.of-chunking.result (GiveContents known) (IsFaultOfReaders known) c.in_ok-fed.fed
          c.in_ok-fed.ensures.is answer is;
    }
