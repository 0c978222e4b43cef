use Rattle.std.proofs.Common.{take}
use Rattle.tor_words.specs.Rules.{AreArgumentsOf}
use Rattle.tor_words.proofs.argument.arguments_of_words.Given as goal

-- those so far are what their rows say
abbrev pub invariant-words : goal.invariant-words
invariant-words l = AreArgumentsOf l.args.items (take l.word-index l.words)
