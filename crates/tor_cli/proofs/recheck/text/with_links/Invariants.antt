-- What the links that are left make of the files.
use Rattle.std.proofs.Common.{◌≡◌, drop}
use Rattle.tor_view.specs.declared.files.FileState.TheVariants.{Link}
use Rattle.tor_cli.specs.recheck.FoundFiles.{with_state}
use Rattle.tor_cli.proofs.recheck.text.with_links.Given as goal

abbrev pub invariant-links : goal.invariant-links
invariant-links l =
    with_state Link l.fn.links l.fn.files.items ≡ with_state Link (drop l.link-index l.links) l.files.items
