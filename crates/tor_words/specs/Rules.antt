-- What the words of a table stand for.
use Rattle.std.specs.Prelude.{◌≡◌, ◌&&◌, ◌==◌, ℕ, List, [], ◌∷◌, Some, false, if◌then◌else◌, length, map, pos, true}
use Rattle.clap.specs.Words.{App, Rule, new_app, rule_of}
use Rattle.clap.specs.declared.builder.arg.Arg.{Arg}
use Rattle.clap.specs.declared.builder.value_parser.ValueParser.TheVariants.{Names, Signed}
use Rattle.tor_words.specs.Beside.{shut_out_by, texts_of, wanted_by, wanted_without}
use Rattle.tor_words.specs.Bounds.{other_of}
use Rattle.tor_words.specs.CommandLine.{argument_of, arguments_of, bound, flag_of, may_argument, number_of, option_of}
use Rattle.tor_words.specs.CommandLine.{with_rules}
use Rattle.tor_words.specs.declared.command_table.CommandTable.{CommandTable}
use Rattle.tor_words.specs.declared.word.Word.{Word}
use Rattle.tor_words.specs.declared.word.Takes.{Takes}
use Rattle.tor_words.specs.declared.word.Takes.TheVariants.{Argument, Arguments, MayArgument, NameOr, Nothing}
use Rattle.tor_words.specs.declared.word.Takes.TheVariants.{NumberArgument, NumberOr, Value, ValueOr, Wanted}
use Rattle.tor_words.specs.declared.word.Takes.TheVariants.{WantedUnless}

-- the rule of a word of this name that takes this, whatever it stands beside
abbrev pub rule_of_takes : List ℕ → Takes → Rule
rule_of_takes name Nothing = flag_of name
rule_of_takes name (Value shown) = option_of name
rule_of_takes name (Wanted shown) = record (option_of name) { required = true }
rule_of_takes name (WantedUnless shown other) = bound (option_of name)
rule_of_takes name (ValueOr shown default) = record (option_of name) { defaults = default.now ∷ [] }
rule_of_takes name (NameOr shown names default) =
    record (option_of name) { parser = Some (Names names); defaults = default.now ∷ [] }
rule_of_takes name (NumberOr shown default) =
    record (option_of name) { parser = Some (Signed (pos 0) (pos 4294967295)); defaults = default.now ∷ [] }
rule_of_takes name (Argument number shown) = argument_of name number
rule_of_takes name (MayArgument number shown) = may_argument name number
rule_of_takes name (NumberArgument number shown) = number_of name number
rule_of_takes name (Arguments number shown) = arguments_of name number

-- the argument has this rule, is wanted unless one of these others is there, and wants and shuts out none. It is for
-- this command alone, not for those below it
pub record HasNoOthers (rule : Rule) (others : List (List ℕ)) (arg : Arg) : Type 0 where
  pub same : rule_of arg ≡ rule
  pub local : arg.global ≡ false
  pub beside : wanted_by arg ≡ []
  pub without : shut_out_by arg ≡ []
  pub unless : wanted_without arg ≡ others

-- the rule of a word, which stands beside others or not
abbrev pub rule_of_word : Word → Rule
rule_of_word word =
    if (length word.beside.now == 0) && (length word.without.now == 0)
    then rule_of_takes word.name.now word.takes
    else bound (rule_of_takes word.name.now word.takes)

abbrev pub rules_of : List Word → List Rule
rules_of words = map rule_of_word words

-- each argument has its rule, and is for this command alone
abbrev pub HaveRules : List Arg → List Rule → Type 0
HaveRules [] [] = Unit {0}
HaveRules (arg ∷ args) (rule ∷ rules) = (rule_of arg ≡ rule) × (arg.global ≡ false) × HaveRules args rules
HaveRules args rules = ⊥

-- the argument is what its word says, and is for this command alone. That it is not exclusive is said by its rule only
-- if it has no others
pub record IsArgumentOf (arg : Arg) (word : Word) : Type 0 where
  pub rule : rule_of arg ≡ rule_of_word word
  pub local : arg.global ≡ false
  pub beside : wanted_by arg ≡ texts_of word.beside
  pub without : shut_out_by arg ≡ texts_of word.without
  pub unless : wanted_without arg ≡ other_of word.takes

-- each argument is what its word says
abbrev pub AreArgumentsOf : List Arg → List Word → Type 0
AreArgumentsOf [] [] = Unit {0}
AreArgumentsOf (arg ∷ args) (word ∷ words) = IsArgumentOf arg word × AreArgumentsOf args words
AreArgumentsOf args words = ⊥

-- what a command and its words stand for
abbrev pub app_of_table : CommandTable → App
app_of_table table = with_rules (new_app table.name.now) (rules_of table.words.now)

abbrev pub apps_of : List CommandTable → List App
apps_of tables = map app_of_table tables
