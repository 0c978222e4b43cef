-- past the end of the told lengths there is none
use Rattle.std.proofs.Common.{◌∙◌, ap}
use Rattle.std.specs.Option.{option_flatten}
use Rattle.tor_engine.proofs.ToldContents.{flat_at}
use Rattle.tor_engine.proofs.pieces.present.size_told.Goals as goal

pub returns : goal.returns
returns c = c.flatten.ensures ∙ ap option_flatten c.item_at.ensures ∙ flat_at c.args.told.now c.args.file
