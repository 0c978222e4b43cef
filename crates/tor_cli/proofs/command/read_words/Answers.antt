-- What a parse found is what the words ask for.
use Rattle.std.proofs.Common.{◌≡◌, ◌∙◌, sym, ap, ℕ, List}
use Rattle.std.proofs.lemmas.Result.{IfOk-weaker}
use Rattle.clap.specs.Walk.{texts}
use Rattle.clap.specs.Words.{App, Row, is_simple, subcommand_of, subcommand_rows_of}
use Rattle.clap.specs.declared.parser.matches.ArgMatches.{ArgMatches}
use Rattle.tor_words.specs.CommandLine.{Parsers, tor_app}
use Rattle.tor_cli.specs.Words.{Asks, HasCommand, HasRows}
use Rattle.tor_cli.specs.steps.Found.{IsFoundIn}
use Rattle.tor_cli.specs.declared.command.Request.{Request}
use Rattle.tor_cli.specs.declared.command.Request.TheVariants.{Show, Make, Plan, Lot, Join, Edit, Scan, Check, Magnet}
use Rattle.tor_cli.specs.declared.command.Request.TheVariants.{Extra, Prove, Verify, Recheck, RecheckLot}
use Rattle.tor_cli.proofs.command.read_words.Goals as goal

module _ (matches : ArgMatches) (words : List (List ℕ)) (parsers : Parsers)
    (same : subcommand_rows_of matches ≡ subcommand_of (tor_app parsers) words) where
  has : (command : List ℕ) (Holds : List Row → Type 0) → HasRows (subcommand_rows_of matches) command Holds
      → HasCommand words command Holds
  has command Holds (rows, there, holds) = (parsers, (rows, sym same ∙ there, holds))

  asked : (request : Request) → IsFoundIn matches request → Asks words request
  asked (Show text) found = tt
  asked (Make options) found = has _ _ found
  asked (Plan options) found = has _ _ found
  asked (Lot options) found = has _ _ found
  asked (Join options) found = has _ _ found
  asked (Edit options) found = has _ _ found
  asked (Scan options) found = has _ _ found
  asked (Check options) found = has _ _ found
  asked (Magnet options) found = has _ _ found
  asked (Prove options) found = has _ _ found
  asked (Verify options) found = has _ _ found
  asked (Recheck options) found = has _ _ found
  asked (RecheckLot options) found = has _ _ found
  asked (Extra options) found = has _ _ found

pub returns-in-Ok-clause-asked : goal.returns-in-Ok-clause-asked
returns-in-Ok-clause-asked g c =
    let words = texts c.args.words.now in
    let (parsers, is) = c.in_ok-tor_command.ensures in
    let (rows, sub) = c.in-Ok.ensures.matches (ap is_simple is) in
    IfOk-weaker c.request_of.result _ _
    (asked c.in-Ok.matches words parsers (sub ∙ ap (λ (app : App). subcommand_of app words) is))
    c.request_of.ensures.asked
