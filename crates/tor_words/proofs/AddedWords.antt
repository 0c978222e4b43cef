-- What words add to a command, in turn.
use Rattle.std.proofs.Common.{◌≡◌, ◌∙◌, ap, sym, List, [], ◌∷◌}
use Rattle.clap.specs.Words.{AddsArg, AddsInTurn, App, Rule, app_of, with_rule}
use Rattle.clap.specs.declared.builder.arg.Arg.{Arg}
use Rattle.clap.specs.declared.builder.command.Command.{Command}
use Rattle.tor_words.specs.CommandLine.{with_rules}
use Rattle.tor_words.specs.Rules.{HaveRules}

pub added_words : (words : List Arg) (rules : List Rule) → HaveRules words rules → (old new : Command)
    → AddsInTurn AddsArg old words new → app_of new ≡ with_rules (app_of old) rules
added_words [] [] have old new same = ap app_of (sym same)
added_words [] (rule ∷ rules) have old new turn = absurd have
added_words (word ∷ words) [] have old new turn = absurd have
added_words (word ∷ words) (rule ∷ rules) have old new (middle, step, more) =
    added_words words rules have.2 middle new more
    ∙ ap (λ (app : App). with_rules app rules)
    (step.shape have.1 ∙ ap (λ (one : Rule). with_rule (app_of old) one) have.0)
