-- The paths in order are those that were handed in.
use Rattle.tor_cli.proofs.ChosenFiles.{of_entries}
use Rattle.tor_cli.proofs.make.chosen_files.in_order.Goals as goal

pub returns-clause-same : goal.returns-clause-same
returns-clause-same c =
    let copied = c.in_ok-copy_paths.ensures in
    rw (copied, c.entries.ensures.value) (of_entries c.args.paths.items _ c.in_ok-list.ensures.indexed)
