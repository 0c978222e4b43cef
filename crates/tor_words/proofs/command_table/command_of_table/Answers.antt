-- The words of the table come first, and then the flag of all commands.
use Rattle.std.proofs.Common.{◌∙◌, ◌++◌, ◌∷◌, [], List, ap, codes, subst, sym}
use Rattle.std.proofs.lemmas.Result.{IfOk-weaker}
use Rattle.clap.specs.Words.{App}
use Rattle.clap.specs.declared.builder.arg.Arg.{Arg}
use Rattle.tor_words.specs.CommandLine.{explained, flag_of, with_rules}
use Rattle.tor_words.specs.Rules.{HaveRules, rules_of}
use Rattle.tor_words.proofs.AddedWords.{added_words}
use Rattle.tor_words.proofs.CommandTables.{have_more, rules_follow, with_more}
use Rattle.tor_words.proofs.command_table.command_of_table.Goals as goal

pub returns : goal.returns
returns c =
    let rules = rules_of c.args.table.now.words.now in
    let explain = flag_of (codes "explain") in
    let have = subst (λ (args : List Arg). HaveRules args (rules ++ explain ∷ [])) (sym c.in_ok-push.ensures.items)
    (have_more c.in_ok-words.words.items rules
    (rules_follow c.in_ok-words.words.items c.args.table.now.words.now c.in_ok-words.ensures)
    c.in_ok-argument_of_word.field-0 explain
    c.in_ok-argument_of_word.ensures.rule c.in_ok-argument_of_word.ensures.local) in
    IfOk-weaker c.args-2.result _ _
    (λ command turn. added_words c.push.new.self.items (rules ++ explain ∷ []) have _ command turn
    ∙ with_more _ rules explain
    ∙ ap (λ (app : App). explained (with_rules app rules)) c.bare_command.ensures)
    c.args-2.ensures
