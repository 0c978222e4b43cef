-- What a parse of the words found. Only private clauses cite this.
use Rattle.std.specs.Prelude.{codes}
use Rattle.clap.specs.Words.{subcommand_rows_of}
use Rattle.clap.specs.declared.parser.matches.ArgMatches.{ArgMatches}
use Rattle.tor_cli.specs.Words.{AreOptionsIn, HasRows, IsCheckIn, IsMagnetIn, IsPieceIn, IsProofIn, IsRecheckIn}
use Rattle.tor_cli.specs.Words.{IsEditIn, IsExtraIn, IsJoinIn, IsLotIn, IsLotRecheckIn, IsPlanIn, IsScanIn}
use Rattle.tor_cli.specs.declared.command.Request.{Request}
use Rattle.tor_cli.specs.declared.command.Request.TheVariants.{Show, Make, Plan, Lot, Join, Edit, Scan, Check, Magnet}
use Rattle.tor_cli.specs.declared.command.Request.TheVariants.{Extra, Prove, Verify, Recheck, RecheckLot}

-- the request is what a parse found
abbrev pub IsFoundIn : ArgMatches → Request → Type 0
IsFoundIn matches (Show text) = Unit {0}
IsFoundIn matches (Make options) =
    HasRows (subcommand_rows_of matches) (codes "make") (λ rows. AreOptionsIn rows options)
IsFoundIn matches (Plan options) = HasRows (subcommand_rows_of matches) (codes "plan") (IsPlanIn options)
IsFoundIn matches (Lot options) = HasRows (subcommand_rows_of matches) (codes "make") (IsLotIn options)
IsFoundIn matches (Join options) = HasRows (subcommand_rows_of matches) (codes "join") (IsJoinIn options)
IsFoundIn matches (Edit options) = HasRows (subcommand_rows_of matches) (codes "edit") (IsEditIn options)
IsFoundIn matches (Scan options) = HasRows (subcommand_rows_of matches) (codes "scan") (IsScanIn options)
IsFoundIn matches (Check options) = HasRows (subcommand_rows_of matches) (codes "check") (IsCheckIn options)
IsFoundIn matches (Magnet options) = HasRows (subcommand_rows_of matches) (codes "magnet") (IsMagnetIn options)
IsFoundIn matches (Prove options) = HasRows (subcommand_rows_of matches) (codes "prove") (IsPieceIn options)
IsFoundIn matches (Verify options) = HasRows (subcommand_rows_of matches) (codes "verify") (IsProofIn options)
IsFoundIn matches (Recheck options) = HasRows (subcommand_rows_of matches) (codes "recheck") (IsRecheckIn options)
IsFoundIn matches (RecheckLot options) =
    HasRows (subcommand_rows_of matches) (codes "recheck") (IsLotRecheckIn options)
IsFoundIn matches (Extra options) = HasRows (subcommand_rows_of matches) (codes "recheck") (IsExtraIn options)
