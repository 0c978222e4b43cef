-- Each command adds its shape.
use Rattle.clap.specs.Words.{app_of}
use Rattle.tor_words.proofs.CommandTables.{tables_step}
use Rattle.tor_words.proofs.SubCommands.{third}
use Rattle.tor_words.proofs.command_table.with_tables.Goals as goal

pub tables-preserved : goal.tables-preserved
tables-preserved c = tables_step c.args.tables.now c.tables.table-index _ (app_of c.tables.command)
    (app_of c.in_ok-command_of_table.field-0) (app_of c.in_ok-command.command) _ c.tables-test.true
    c.in_ok-command_of_table.ensures
    (λ plain. c.in_ok-command.ensures.shape (third _ _ _ _ plain)) c.tables.invariant
