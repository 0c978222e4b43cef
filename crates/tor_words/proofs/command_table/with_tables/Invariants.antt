use Rattle.std.proofs.Common.{◌≡◌, drop}
use Rattle.clap.specs.Words.{app_of}
use Rattle.tor_words.specs.CommandLine.{with_commands}
use Rattle.tor_words.specs.Rules.{apps_of}
use Rattle.tor_words.proofs.command_table.with_tables.Given as goal

-- with those that are left it is the whole
abbrev pub invariant-tables : goal.invariant-tables
invariant-tables l =
    with_commands (app_of l.command) (apps_of (drop l.table-index l.tables))
    ≡ with_commands (app_of l.fn.command) (apps_of l.fn.tables)
