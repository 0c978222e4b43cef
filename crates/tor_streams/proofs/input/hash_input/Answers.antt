-- from what was read to the sums
use Rattle.std.proofs.Common.{◌∷◌, [], ℕ, List, arith, subst}
use Rattle.std.proofs.KnownBytes.{Consumes-nil}
use Rattle.std.proofs.lemmas.Result.{err_from_is_err_and}
use Rattle.tor_source.specs.Input.{ReadsAll}
use Rattle.tor_streams.specs.Streams.{AreSumsOfContents}
use Rattle.tor_streams.specs.steps.Fed.{GivesInput, StopsInput}
use Rattle.tor_streams.proofs.FedLanes.{some_fed, stopped, summed, was_given}
use Rattle.tor_streams.proofs.input.hash_input.Goals as goal

pub sums_of_fed-requires-clause-fed : goal.sums_of_fed-requires-clause-fed
sums_of_fed-requires-clause-fed g c =
    some_fed c.of-chunking.result (GivesInput _ _) (StopsInput _ _) c.in_ok-fed.fed c.in_ok-fed.ensures.fed

pub returns-in_err-fed-clause-stopped : goal.returns-in_err-fed-clause-stopped
returns-in_err-fed-clause-stopped g c =
    let p = err_from_is_err_and c.from_residual.result c.from_residual.ensures.1 in
    rw (p.1, p.2, c.in_err-fed.ensures.untouched)
    ([], Consumes-nil (g.R.Read.remaining c.args.reader.now), omega arith)

pub returns-in_err-summed-clause-stopped : goal.returns-in_err-summed-clause-stopped
returns-in_err-summed-clause-stopped g c =
    let given = was_given c.of-chunking.result (GivesInput _ _) (StopsInput _ _) c.in_ok-fed.fed
    c.in_ok-fed.ensures.fed c.in_err-summed.ensures.memory in
    let is = err_from_is_err_and c.from_residual-in_err-summed.result c.from_residual-in_err-summed.ensures.1 in
    rw (is.1, is.2) (given.1.0, given.1.2.0.given, given.1.2.1)

pub returns : goal.returns
returns g c =
    let kind = c.args.kind in
    let tail = c.args.tail in
    let p = c.args.piece_length in
    let old = g.R.Read.remaining c.args.reader.now in
    let new = g.R.Read.remaining c.feed_input.new.reader in
    let answer = c.in_ok-summed.summed in
    let is = c.in_ok-summed.ensures.summed in
    record {
      summed = summed c.of-chunking.result (GivesInput old new) (StopsInput old new) c.in_ok-fed.fed
          c.in_ok-fed.ensures.fed kind tail p c.of-chunking.ensures.told
          (λ sums. (content : List ℕ) × ReadsAll old new content × AreSumsOfContents kind tail p (content ∷ []) sums)
          (λ sums up. let given = up.1 in (
            given.0,
            given.2,
            subst (λ (cs : List (List ℕ)).
                AreSumsOfContents kind tail p cs sums) given.1 up.3,
          )) answer is;
      stopped = stopped c.of-chunking.result (GivesInput old new) (StopsInput old new) c.in_ok-fed.fed
          c.in_ok-fed.ensures.fed answer is;
    }
