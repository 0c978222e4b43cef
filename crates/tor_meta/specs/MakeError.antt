-- What a maker tells for a refusal of the head or the paths, and for a fault of the hashing.
use Rattle.tor_sums.specs.declared.errors.EngineError.{EngineError}
use Rattle.tor_sums.specs.declared.errors.EngineError.TheVariants as engine
use Rattle.tor_meta.specs.declared.make_error.MakeError.{MakeError}
use Rattle.tor_meta.specs.declared.make_error.MakeError.TheVariants.{PieceLength, Path, SingleShape, List, ReservedPad}
use Rattle.tor_meta.specs.declared.make_error.MakeError.TheVariants.{Hashing}
use Rattle.tor_meta.specs.declared.refusals.ContentsError.{ContentsError}
use Rattle.tor_meta.specs.declared.refusals.ContentsError.TheVariants as refusal

-- want of memory, or of a thread, wherever it comes
abbrev pub out_of_resources : {F : Type 0} → MakeError F
out_of_resources = Hashing engine.Resources

abbrev pub of_contents_error : {F : Type 0} → ContentsError → MakeError F
of_contents_error refusal.PieceLength = PieceLength
of_contents_error refusal.Path = Path
of_contents_error refusal.SingleShape = SingleShape
of_contents_error (refusal.List fault) = List fault
of_contents_error refusal.ReservedPad = ReservedPad
of_contents_error refusal.Memory = out_of_resources

abbrev pub of_engine_error : {F : Type 0} → EngineError F → MakeError F
of_engine_error error = Hashing error
