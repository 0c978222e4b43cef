-- One more word has one more rule.
use Rattle.tor_words.proofs.CommandTables.{words_step}
use Rattle.tor_words.proofs.argument.arguments_of_words.Goals as goal

pub words-preserved : goal.words-preserved
words-preserved c = words_step c.args.words.now c.words.word-index _ c.words.args.items c.push.new.self.items
    c.in_ok-argument_of_word.field-0 c.words-test.true c.words.invariant c.in_ok-argument_of_word.ensures
    c.in_ok-push.ensures.items
