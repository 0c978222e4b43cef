-- Paths and letters, one after the other.
use Rattle.std.proofs.Common.{◌≡◌, length, rules}
use Rattle.std.proofs.lemmas.Iterator.{YieldsList-from_zip, items_from_collect}
use Rattle.std.proofs.lemmas.Iterator.Adapters.{YieldsList-from_vec}
use Rattle.std.proofs.lemmas.Iterator.Consumers.{YieldsList-at}
use Rattle.tor_cli.proofs.make.attrs_file.paths_with_attrs.Goals as goal

pub returns : goal.returns
returns c =
    let paths_len : c.into_iter.result.rest.len ≡ length c.args.paths.items = search rules in
    let attrs_len : c.zip.result.b.rest.len ≡ length c.args.attrs.items = search rules in
    let paths = YieldsList-from_vec c.args.paths.items c.into_iter.ensures.rest paths_len in
    let attrs = YieldsList-from_vec c.args.attrs.items c.zip.ensures.second.0 attrs_len in
    items_from_collect c.collect.result c.collect.ensures.ran
    (YieldsList-from_zip (YieldsList-at c.zip.ensures.first paths) attrs)
