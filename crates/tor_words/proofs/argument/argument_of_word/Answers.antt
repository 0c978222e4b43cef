-- It stands beside others as its table says.
use Rattle.std.proofs.lemmas.Result.{IfOk-weaker}
use Rattle.tor_words.specs.Bounds.{other_of}
use Rattle.tor_words.specs.Rules.{rule_of_takes}
use Rattle.tor_words.proofs.BoundArguments.{bound_beside, bound_local, bound_rule, bound_unless, bound_without}
use Rattle.tor_words.proofs.argument.argument_of_word.Goals as goal

pub returns : goal.returns
returns c =
    let word = c.args.word.now in
    let rule = rule_of_takes word.name.now word.takes in
    let others = other_of word.takes in
    let free = c.in_ok-free.free in
    let middle = c.in_ok-requires_all.field-0 in
    let is = c.in_ok-free.ensures in
    let needs = c.in_ok-requires_all.ensures in
    let conflicts = c.conflicts_with_all.ensures in
    IfOk-weaker c.conflicts_with_all.result _ _
    (λ new adds. record {
      rule = bound_rule rule free middle new word.beside.now word.without.now others is needs adds;
      local = bound_local rule free middle new word.beside.now word.without.now others is needs adds;
      beside = bound_beside rule free middle new word.beside.now word.without.now others is needs adds;
      without = bound_without rule free middle new word.beside.now word.without.now others is needs adds;
      unless = bound_unless rule free middle new word.beside.now word.without.now others is needs adds;
    }) conflicts
