-- What a writer for a terminal has written, as far as that is known.
use Rattle.std.specs.Prelude.{ℕ, List, Option, None}
use Rattle.tor_cli.specs.declared.terminal.Escapes.{Escapes}
use Rattle.tor_cli.specs.declared.terminal.Escapes.TheVariants.{None as AsTheyAre, Bytes, Json}
use Rattle.tor_cli.specs.declared.terminal.TerminalWriter.{TerminalWriter}

-- if nothing is written out, what the writer below it has
abbrev pub written_by : {W : Type 0} → (W → Option (List ℕ)) → W → Escapes → Option (List ℕ)
written_by contents out AsTheyAre = contents out
written_by contents out Bytes = None
written_by contents out Json = None

abbrev pub written_of : {W : Type 0} → (W → Option (List ℕ)) → TerminalWriter W → Option (List ℕ)
written_of contents writer = written_by contents writer.out writer.escapes
