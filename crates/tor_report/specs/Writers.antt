-- A writer is a sink.
use Rattle.std.proofs.Common.{ℕ, List}
use Rattle.std.proofs.KnownBytes.{Appends-nil, Appends-trans}
use Rattle.std.specs.Io.KnownBytes.{Appends}
use Rattle.std.specs.Prelude.{Option, ⊤}
use Rattle.tor_report.specs.Sinks.{IsSink}

pub writer_is_sink : {W : Type 0} (contents : W → Option (List ℕ))
    → IsSink (λ old new bytes. Appends (contents old) (contents new) bytes) (λ _ _. ⊤)
writer_is_sink contents = record {
  none = λ s. Appends-nil (contents s);
  both = λ r s t xs ys one two. Appends-trans (contents r) (contents s) (contents t) xs ys one two;
  sooner = λ s xs ys fails. tt;
  later = λ r s xs ys one fails. tt;
  long = λ s xs long. tt;
}
