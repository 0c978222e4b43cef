-- One that is wanted unless another is there is not free.
use Rattle.std.proofs.Common.{subst, sym}
use Rattle.std.proofs.lemmas.Result.{IfOk-weaker}
use Rattle.tor_words.specs.CommandLine.{option_of}
use Rattle.tor_words.specs.Bounds.{other_of}
use Rattle.tor_words.specs.Rules.{HasNoOthers, rule_of_takes}
use Rattle.tor_words.specs.declared.word.Takes.{Takes}
use Rattle.tor_words.proofs.BoundArguments.{wanted_unless}
use Rattle.tor_words.proofs.argument.argument_of_takes.Goals as goal

pub returns-in-WantedUnless : goal.returns-in-WantedUnless
returns-in-WantedUnless c =
    let name = c.args.word.now.name.now in
    let option = c.option_of-in-WantedUnless.result in
    IfOk-weaker c.required_unless_present.result _ _
    (λ new adds. subst (λ (takes : Takes). HasNoOthers (rule_of_takes name takes) (other_of takes) new)
    (sym c.in-WantedUnless.is)
    (wanted_unless (option_of name) option new c.in-WantedUnless.other c.option_of-in-WantedUnless.ensures adds))
    c.required_unless_present.ensures
