-- The order's numbers are those that an input can be cut by.
use Rattle.std.proofs.Common.{Bool, [], ◌∷◌, List, ℕ, subst}
use Rattle.std.specs.declared.io.Error.{Error}
use Rattle.std.specs.Prelude.{IfOk}
use Rattle.tor_streams.specs.Streams.{AreSumsOfContents}
use Rattle.tor_source.specs.Input.{ReadsAll}
use Rattle.tor_meta.proofs.Refused.{accepted_numbers, stream_numbers}
use Rattle.tor_meta.proofs.StreamSums.{plan_pieces}
use Rattle.tor_meta.proofs.from_input.sums_by_streams.Goals as goal

pub hash_input-requires-clause-cut : goal.hash_input-requires-clause-cut
hash_input-requires-clause-cut g c κs within =
    let order = c.args.order.now in
    let accepted = accepted_numbers {F = Error} order ((order.name ∷ []) ∷ []) c.requires.accepted in
    let numbers = stream_numbers {F = Error} order accepted in record {
      pieces = plan_pieces order.kind order.piece_length
          ((c.piece_length_bounds.ensures order.piece_length).0 numbers.0);
      is_span = numbers.2;
      small = numbers.3;
    }

pub hash_input-requires-clause-workers : goal.hash_input-requires-clause-workers
hash_input-requires-clause-workers g c κs within =
    let order = c.args.order.now in
    c.workers-workers.ensures.allowed
    (stream_numbers {F = Error} order (accepted_numbers {F = Error} order ((order.name ∷ []) ∷ [])
    c.requires.accepted)).1

pub returns-clause-summed : goal.returns-clause-summed
returns-clause-summed g c =
    let order = c.args.order.now in
    let remaining = g.R.Read.remaining in
    subst (λ (b : Bool). IfOk c.hash_input.result (λ sums. (content : List ℕ)
    × ReadsAll (remaining c.args.reader.now) (remaining c.hash_input.new.reader) content
    × AreSumsOfContents order.kind b order.piece_length (content ∷ []) sums))
    c.has_tail.ensures c.hash_input.ensures.summed
