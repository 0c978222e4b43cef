-- The command line, as the kit's `clap` has one: options that are told apart by their names.
use Rattle.std.specs.Prelude.{◌≡◌, ℕ, pos, true, false, List, [], ◌∷◌, map, Some, codes}
use Rattle.clap.specs.Words.{App, Rule, new_app, new_rule, with_rule, with_subcommand}
use Rattle.clap.specs.Simple.{on_top}
use Rattle.clap.specs.declared.builder.action.ArgAction.TheVariants.{Append, SetTrue}
use Rattle.clap.specs.declared.builder.value_parser.ValueParser.{ValueParser}
use Rattle.clap.specs.declared.builder.value_parser.ValueParser.TheVariants.{Names, Signed, Unsigned}

-- an option with one value
abbrev pub option_of : List ℕ → Rule
option_of name = record (new_rule name) { long = Some name; value_names = 1 }

-- it stands beside another one alone, or never beside another, or is wanted if another is not there
abbrev pub bound : Rule → Rule
bound rule = record rule { is_free = false }

-- wanted unless a plan has the name
abbrev pub name_option : Rule
name_option = bound (option_of (codes "name"))

-- a number of bytes, or `auto`
abbrev pub piece_length_option : Rule
piece_length_option = record (option_of (codes "piece-length")) { defaults = codes "262144" ∷ [] }

-- a word among some
abbrev pub AreWords : List (List ℕ) → ValueParser → Type 0
AreWords words (Names names) = map (λ name. name.now) names.now ≡ words
AreWords words other = ⊥

abbrev pub kind_option : ValueParser → Rule
kind_option kinds = record (option_of (codes "kind")) { parser = Some kinds; defaults = codes "v2" ∷ [] }

-- one of the three words for a kind
abbrev pub AreKinds : ValueParser → Type 0
AreKinds = AreWords (codes "v1" ∷ codes "v2" ∷ codes "hybrid" ∷ [])

abbrev pub announce_option : Rule
announce_option = option_of (codes "announce")

-- an option without a value
abbrev pub flag_of : List ℕ → Rule
flag_of name = record (new_rule name) { long = Some name; action = Some SetTrue }

abbrev pub private_option : Rule
private_option = flag_of (codes "private")

abbrev pub tail_option : Rule
tail_option = flag_of (codes "tail")

abbrev pub attrs_option : Rule
attrs_option = option_of (codes "attrs")

abbrev pub how_option : ValueParser → Rule
how_option hows = record (option_of (codes "how")) { parser = Some hows; defaults = codes "one" ∷ [] }

-- one of the words for a way to share the hashing
abbrev pub AreHows : ValueParser → Type 0
AreHows = AreWords (codes "one" ∷ codes "halves" ∷ codes "board" ∷ codes "streams" ∷ [])

-- a number of workers, or `auto`
abbrev pub workers_option : List ℕ → Rule
workers_option default = record (option_of (codes "workers")) { defaults = default ∷ [] }

-- a number of 32 bits
abbrev pub span_option : Rule
span_option = record (option_of (codes "span")) {
  parser = Some (Signed (pos 0) (pos 4294967295));
  defaults = codes "16" ∷ [];
}

abbrev pub out_option : Rule
out_option = option_of (codes "out")

-- the word of this number, from 1, which may be there
abbrev pub may_argument : List ℕ → ℕ → Rule
may_argument name number = record (new_rule name) { index = Some number; value_names = 1 }

-- the one word that belongs to no option
abbrev pub path_argument : Rule
path_argument = may_argument (codes "path") 1

abbrev pub with_rules : App → List Rule → App
with_rules app [] = app
with_rules app (rule ∷ rules) = with_rules (with_rule app rule) rules

-- which files of PATH the torrent is of
abbrev pub list_option : Rule
list_option = bound (option_of (codes "files-from"))

-- what the torrent is to have, beside its files
abbrev pub torrent_rules : Rule → ValueParser → List Rule
torrent_rules name kinds =
    name ∷ piece_length_option ∷ kind_option kinds ∷ announce_option ∷ private_option ∷ tail_option
    ∷ attrs_option ∷ list_option ∷ []

-- an option without a value that stands beside another alone, or never beside another
abbrev pub flag_bound : List ℕ → Rule
flag_bound name = bound (flag_of name)

-- who hashes, whether the files are looked at once more, where the torrent goes, and where the files are
abbrev pub way_rules : ValueParser → List Rule
way_rules hows =
    how_option hows ∷ workers_option (codes "1") ∷ span_option ∷ flag_bound (codes "check-after") ∷ out_option
    ∷ path_argument ∷ []

abbrev pub with_ways : ValueParser → App → App
with_ways hows app = with_rules app (way_rules hows)

-- which part of a plan is hashed
abbrev pub lot_rules : List Rule
lot_rules = bound (option_of (codes "plan")) ∷ bound (option_of (codes "part")) ∷ []

abbrev pub make_app : ValueParser → ValueParser → App
make_app kinds hows =
    with_rules (with_ways hows (with_rules (new_app (codes "make")) (torrent_rules name_option kinds))) lot_rules

-- the word of this number, from 1, which has to be there
abbrev pub argument_of : List ℕ → ℕ → Rule
argument_of name number = record (new_rule name) { index = Some number; value_names = 1; required = true }

-- a name that has to be there
abbrev pub wanted_name : Rule
wanted_name = record (option_of (codes "name")) { required = true }

abbrev pub plan_rules : List Rule
plan_rules = span_option ∷ out_option ∷ argument_of (codes "path") 1 ∷ []

abbrev pub plan_app : ValueParser → App
plan_app kinds = with_rules (with_rules (new_app (codes "plan")) (torrent_rules wanted_name kinds)) plan_rules

-- the word of this number and those after it
abbrev pub arguments_of : List ℕ → ℕ → Rule
arguments_of name number = record (new_rule name) { index = Some number; value_names = 1; action = Some Append }

abbrev pub edit_rules : List Rule
edit_rules =
    bound (option_of (codes "announce")) ∷ flag_bound (codes "no-announce") ∷ out_option
    ∷ argument_of (codes "file") 1 ∷ []

abbrev pub edit_app : App
edit_app = with_rules (new_app (codes "edit")) edit_rules

abbrev pub join_rules : List Rule
join_rules = out_option ∷ argument_of (codes "plan") 1 ∷ arguments_of (codes "part") 2 ∷ []

abbrev pub join_app : App
join_app = with_rules (new_app (codes "join")) join_rules

abbrev pub scan_rules : List Rule
scan_rules =
    option_of (codes "files-from") ∷ flag_of (codes "null") ∷ flag_bound (codes "json")
    ∷ argument_of (codes "path") 1 ∷ []

abbrev pub scan_app : App
scan_app = with_rules (new_app (codes "scan")) scan_rules

-- the word of this number, itself a number of 64 bits
abbrev pub number_of : List ℕ → ℕ → Rule
number_of name number = record (argument_of name number) { parser = Some (Unsigned 0 18446744073709551615) }

abbrev pub magnet_rules : List Rule
magnet_rules = flag_of (codes "name") ∷ flag_of (codes "trackers") ∷ argument_of (codes "file") 1 ∷ []

abbrev pub magnet_app : App
magnet_app = with_rules (new_app (codes "magnet")) magnet_rules

abbrev pub prove_rules : List Rule
prove_rules = argument_of (codes "file") 1 ∷ number_of (codes "file-number") 2 ∷ number_of (codes "index") 3 ∷ []

abbrev pub prove_app : App
prove_app = with_rules (new_app (codes "prove")) prove_rules

abbrev pub verify_rules : List Rule
verify_rules =
    argument_of (codes "root") 1 ∷ argument_of (codes "length") 2 ∷ argument_of (codes "piece-length") 3
    ∷ argument_of (codes "proof") 4 ∷ may_argument (codes "bytes") 5 ∷ []

abbrev pub verify_app : App
verify_app = with_rules (new_app (codes "verify")) verify_rules

abbrev pub check_rules : List Rule
check_rules =
    flag_of (codes "null") ∷ flag_bound (codes "json") ∷ flag_bound (codes "roots") ∷ argument_of (codes "file") 1 ∷ []

abbrev pub check_app : App
check_app = with_rules (new_app (codes "check")) check_rules

abbrev pub recheck_rules : List Rule
recheck_rules =
    flag_of (codes "files") ∷ flag_of (codes "bad") ∷ flag_of (codes "null") ∷ flag_bound (codes "json")
    ∷ workers_option (codes "4") ∷ flag_of (codes "keep-going") ∷ flag_of (codes "no-links")
    ∷ flag_bound (codes "brief") ∷ bound (option_of (codes "part")) ∷ flag_bound (codes "extra")
    ∷ argument_of (codes "file") 1 ∷ argument_of (codes "path") 2 ∷ []

abbrev pub recheck_app : App
recheck_app = with_rules (new_app (codes "recheck")) recheck_rules

-- a command that says why it stops if it is asked to
abbrev pub explained : App → App
explained app = with_rule app (flag_of (codes "explain"))

abbrev pub with_commands : App → List App → App
with_commands app [] = app
with_commands app (command ∷ commands) = with_commands (with_subcommand app (explained command).top) commands

-- what reads the words for a kind, of `make` and of `plan`, and the word for a way
pub record Parsers : Type 0 where
  pub kinds : ValueParser
  pub plans : ValueParser
  pub hows : ValueParser
  pub of_make : AreKinds kinds
  pub of_plan : AreKinds plans
  pub of_ways : AreHows hows

-- the commands over whole torrents, and those over single pieces
abbrev pub torrent_apps : Parsers → List App
torrent_apps parsers =
    make_app parsers.kinds parsers.hows ∷ plan_app parsers.plans ∷ join_app ∷ scan_app ∷ check_app ∷ magnet_app
    ∷ edit_app ∷ []

abbrev pub piece_apps : List App
piece_apps = prove_app ∷ verify_app ∷ recheck_app ∷ []

-- the program's command line as the kit's `clap` has one. The program has a version, and wants a command (profile)
abbrev pub tor_app : Parsers → App
tor_app parsers =
    with_commands (with_commands
    (on_top (λ shape. record shape { has_version = true; subcommand_required = true }) (new_app (codes "tor")))
    (torrent_apps parsers)) piece_apps
