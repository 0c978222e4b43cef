-- What is answered where the files at a place are read once.
use Rattle.std.proofs.Common.{◌≡◌, ◌<◌, ℕ, List, Option, None, Some, Result, Ok, Err, IfErr, length, subst}
use Rattle.std.specs.declared.io.Error.{Error}
use Rattle.tor_sums.specs.declared.errors.EngineError.TheVariants as engine
use Rattle.tor_meta.specs.MakeStreams.{IsGivenByReaders}
use Rattle.tor_meta.specs.declared.make_error.MakeError.{MakeError}
use Rattle.tor_meta.specs.declared.make_error.MakeError.TheVariants as makes
use Rattle.tor_cli.specs.Place.{IsStreamFault}

of_readers : (known : List (Option (List ℕ))) (count : ℕ) → length known ≡ count → (error : MakeError Error)
    → IsGivenByReaders known error → IsStreamFault count error
of_readers known count same makes.PieceLength given = tt
of_readers known count same makes.Workers given = tt
of_readers known count same makes.Span given = tt
of_readers known count same makes.Path given = tt
of_readers known count same makes.SingleShape given = tt
of_readers known count same makes.NotSorted given = tt
of_readers known count same (makes.List fault) given = tt
of_readers known count same makes.ReservedPad given = tt
of_readers known count same (makes.Hashing (engine.Read file None fault)) given = given
of_readers known count same (makes.Hashing (engine.Read file (Some start) fault)) (bytes, up_to, long) =
    subst (λ n. file < n) same up_to.is_there
of_readers known count same (makes.Hashing (engine.Changed file)) given = given
of_readers known count same (makes.Hashing (engine.Missing file)) given = given
of_readers known count same (makes.Hashing engine.Resources) given = tt
of_readers known count same (makes.Hashing (engine.StreamTooLong file)) (bytes, up_to, long) =
    subst (λ n. file < n) same up_to.is_there

pub stream_fault : {A : Type 0} (known : List (Option (List ℕ))) (count : ℕ) → length known ≡ count
    → (result : Result A (MakeError Error)) → IfErr result (IsGivenByReaders known)
    → IfErr result (IsStreamFault count)
stream_fault known count same (Ok bytes) given = tt
stream_fault known count same (Err error) given = of_readers known count same error given
