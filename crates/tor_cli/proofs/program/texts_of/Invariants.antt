use Rattle.std.proofs.Common.{◌≡◌, map, string_bytes, take}
use Rattle.clap.specs.Walk.{texts}
use Rattle.tor_cli.proofs.program.texts_of.Given as goal

-- the texts so far
abbrev pub invariant-words : goal.invariant-words
invariant-words l = texts l.texts.items ≡ map string_bytes (take l.word-index l.words)
