-- What rows add to a command, and commands to the one above them.
use Rattle.std.proofs.Common.{◌≡◌, ◌∙◌, ◌<◌, ◌+◌, ◌++◌, ℕ, List, [], ◌∷◌, ap, drop, false, length, refl}
use Rattle.std.proofs.Common.{slice_index_or, sym, take}
use Rattle.std.proofs.Common.{true}
use Rattle.std.proofs.lemmas.List.{at_drop_more, take_more}
use Rattle.clap.specs.Words.{App, Rule, new_app, rule_of, with_rule, with_subcommand}
use Rattle.clap.specs.declared.builder.arg.Arg.{Arg}
use Rattle.tor_words.specs.CommandLine.{explained, with_commands, with_rules}
use Rattle.tor_words.specs.Rules.{AreArgumentsOf, HaveRules, IsArgumentOf, app_of_table, apps_of, rules_of}
use Rattle.tor_words.specs.declared.command_table.CommandTable.{CommandTable}
use Rattle.tor_words.specs.declared.word.Word.{Word}

-- one argument more has one rule more
pub have_more : (args : List Arg) (rules : List Rule) → HaveRules args rules → (arg : Arg) (rule : Rule)
    → rule_of arg ≡ rule → arg.global ≡ false → HaveRules (args ++ arg ∷ []) (rules ++ rule ∷ [])
have_more [] [] have arg rule same local = (same, local, tt)
have_more [] (one ∷ rules) have arg rule same local = absurd have
have_more (one ∷ args) [] have arg rule same local = absurd have
have_more (first ∷ args) (one ∷ rules) have arg rule same local =
    (have.0, have.1, have_more args rules have.2 arg rule same local)

more_arguments : (args : List Arg) (words : List Word) → AreArgumentsOf args words → (arg : Arg) (word : Word)
    → IsArgumentOf arg word → AreArgumentsOf (args ++ arg ∷ []) (words ++ word ∷ [])
more_arguments [] [] are arg word is = (is, tt)
more_arguments [] (one ∷ words) are arg word is = absurd are
more_arguments (one ∷ args) [] are arg word is = absurd are
more_arguments (first ∷ args) (one ∷ words) are arg word is = (are.0, more_arguments args words are.1 arg word is)

pub words_step : (words : List Word) (i : ℕ) (word : Word) (args args' : List Arg) (arg : Arg) → i < length words
    → AreArgumentsOf args (take i words) → IsArgumentOf arg (slice_index_or words i word) → args' ≡ args ++ arg ∷ []
    → AreArgumentsOf args' (take (i + 1) words)
words_step words i word args args' arg within are is more =
    rw (more, take_more words i word within)
    (more_arguments args (take i words) are arg (slice_index_or words i word) is)

-- such arguments have the rules of their rows
pub rules_follow : (args : List Arg) (words : List Word) → AreArgumentsOf args words → HaveRules args (rules_of words)
rules_follow [] [] are = tt
rules_follow [] (word ∷ words) are = absurd are
rules_follow (arg ∷ args) [] are = absurd are
rules_follow (arg ∷ args) (word ∷ words) are = (are.0.rule, are.0.local, rules_follow args words are.1)

-- words leave a command plain
plain_rules : (app : App) (rules : List Rule) → (with_rules app rules).top.is_plain ≡ app.top.is_plain
plain_rules app [] = refl
plain_rules app (rule ∷ rules) = plain_rules (with_rule app rule) rules

plain_table : (table : CommandTable) → (explained (app_of_table table)).top.is_plain ≡ true
plain_table table = plain_rules (new_app table.name.now) (rules_of table.words.now)

pub tables_step : (tables : List CommandTable) (i : ℕ) (table : CommandTable) (old sub new whole : App)
    → i < length tables
    → sub ≡ explained (app_of_table (slice_index_or tables i table))
    → (sub.top.is_plain ≡ true → new ≡ with_subcommand old sub.top)
    → with_commands old (apps_of (drop i tables)) ≡ whole → with_commands new (apps_of (drop (i + 1) tables)) ≡ whole
tables_step tables i table old sub new whole within same adds before =
    let one = slice_index_or tables i table in
    let step = adds (ap (λ (app : App). app.top.is_plain) same ∙ plain_table one)
    ∙ ap (λ (app : App). with_subcommand old app.top) same in
    ap (λ (app : App). with_commands app (apps_of (drop (i + 1) tables))) step
    ∙ sym (at_drop_more (λ (tables : List CommandTable). with_commands old (apps_of tables)) tables i table within)
    ∙ before

pub with_more : (app : App) (rules : List Rule) (rule : Rule)
    → with_rules app (rules ++ rule ∷ []) ≡ with_rule (with_rules app rules) rule
with_more app [] rule = refl
with_more app (one ∷ rules) rule = with_more (with_rule app one) rules rule
