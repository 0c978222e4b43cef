-- A file that appears whole or not at all. Only private clauses cite this.
use Rattle.std.specs.Prelude.{◌≡◌, ℕ, List, Option, string_bytes}
use Rattle.tor_cli.specs.declared.fault.Fault.{Fault}
use Rattle.tor_cli.specs.declared.fault.Fault.TheVariants.{Resources, Write}
use Rattle.tor_cli.specs.make.Request.{SendsFront}
use Rattle.tor_cli.specs.declared.whole_file.WholeFile.{WholeFile}

-- where it is
abbrev pub place_of_whole : WholeFile → List ℕ
place_of_whole file = string_bytes file.place

-- why bytes did not go out whole, to this file or to the writer: a front of them did, or memory was refused before
abbrev pub IsNotSent : Option (List ℕ) → Option (List ℕ) → Option (List ℕ) → List ℕ → Fault → Type 0
IsNotSent file writer writer' bytes (Write written) = SendsFront file writer writer' written bytes
IsNotSent file writer writer' bytes Resources = writer' ≡ writer
IsNotSent file writer writer' bytes other = ⊥
