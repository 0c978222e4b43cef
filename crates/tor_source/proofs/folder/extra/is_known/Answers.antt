use Rattle.std.proofs.Common.{◌∙◌}
use Rattle.tor_source.proofs.KnownPaths.{known_is}
use Rattle.tor_source.proofs.folder.extra.is_known.Goals as goal

pub returns : goal.returns
returns c =
    c.is_ok.ensures.value
    ∙ known_is c.args.known.now c.args.path.now.items c.binary_search.result c.binary_search.ensures.bound c.requires
    c.binary_search.ensures.position
