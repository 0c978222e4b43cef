-- A reader that is read part by part.
use Rattle.std.proofs.Common.{◌≡◌, ℕ, ◌+◌, List, ◌++◌, length, Option, arith, length-append}
use Rattle.std.specs.Io.KnownBytes.{Consumes}
use Rattle.std.proofs.KnownBytes.{Consumes-trans}
use Rattle.tor_source.specs.Input.{ReadsSome, EndsInput}
use Rattle.tor_source.specs.declared.input.InputFault.{InputFault}
use Rattle.tor_source.specs.declared.input.InputFault.TheVariants.{TooLong, Read, Memory}

ends_after : (limit left : ℕ) (fault : InputFault) (before bytes : List ℕ) → length before + left ≡ limit
    → EndsInput left fault bytes → EndsInput limit fault (before ++ bytes)
ends_after limit left TooLong before bytes within h = simp length-append (omega (arith, within, h))
ends_after limit left (Read fault) before bytes within h = simp length-append (omega (arith, within, h))
ends_after limit left Memory before bytes within h = simp length-append (omega (arith, within, h))

-- a fault after some bytes that were within the limit, where so many were left of it
pub fault_after : (old mid new : Option (List ℕ)) (limit left : ℕ) (fault : InputFault) (before : List ℕ)
    → length before + left ≡ limit → Consumes old mid before → ReadsSome mid new (EndsInput left fault)
    → ReadsSome old new (EndsInput limit fault)
fault_after old mid new limit left fault before within given (bytes, more, ends) = (
  before ++ bytes,
  Consumes-trans old mid new before bytes given more,
  ends_after limit left fault before bytes
      within ends,
)
