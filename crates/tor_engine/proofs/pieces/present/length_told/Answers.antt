-- past the end of the told lengths there is none
use Rattle.std.proofs.Common.{◌∙◌, ap, unwrap_or}
use Rattle.tor_engine.proofs.ToldContents.{flat_at}
use Rattle.tor_engine.proofs.pieces.present.length_told.Goals as goal

pub returns : goal.returns
returns c =
    c.unwrap_or.ensures
    ∙ rw (c.flatten.ensures, c.item_at.ensures) (ap (λ size. unwrap_or size 0) (flat_at c.args.told.now c.args.file))
