use Rattle.std.proofs.Common.{None, arith}
use Rattle.std.proofs.lemmas.Str.Pattern.{strip_suffix_char}
use Rattle.tor_source.proofs.Ends.{no_slash}
use Rattle.tor_source.proofs.folder.places.without_slash.Goals as goal

pub returns-in-None : goal.returns-in-None
returns-in-None c =
    no_slash c.args.folder.now (strip_suffix_char 47 c.args.folder.now None c.in-None.ensures.cases (omega arith))
