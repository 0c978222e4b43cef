use Rattle.tor_view.proofs.PartsOfFiles.{spans_have_bytes}
use Rattle.tor_view.proofs.SpanBounds.{spans_are_within}
use Rattle.tor_view.proofs.SpanSteps.{spans_are_counted}
use Rattle.tor_view.proofs.laws.spans_are_of_pieces.Goals as goal

pub returns : goal.returns
returns c = record { counted = spans_are_counted; within = spans_are_within; bytes = spans_have_bytes }
