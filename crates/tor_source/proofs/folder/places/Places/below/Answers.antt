use Rattle.std.proofs.Common.{◌∙◌, sym}
use Rattle.tor_source.proofs.Placed.{below_none}
use Rattle.tor_source.proofs.folder.places.Places.below.Goals as goal

pub returns-then-is_empty : goal.returns-then-is_empty
returns-then-is_empty c =
    rw (c.len.ensures, c.new-folder.ensures.bytes, c.args.files.ok.0)
    (below_none c.args.folder.now c.args.files.items (sym c.is_empty.ensures ∙ c.if-is_empty.true))
