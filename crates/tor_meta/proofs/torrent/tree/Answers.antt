-- The root dictionary is a lawful tree, which has `info`.
use Rattle.tor_meta.specs.Head.{settings_of}
use Rattle.tor_meta.proofs.InfoThere.{info_there}
use Rattle.tor_meta.proofs.Listed.{facts_there, makeable}
use Rattle.tor_meta.proofs.torrent.tree.Goals as goal

pub unreachable-requires : goal.unreachable-requires
unreachable-requires c =
    let there = facts_there c.args.head.now c.args.list.now c.args.sums.now c.attrs-attrs.ensures.one_each
    c.requires.trees in
    let made =
    makeable c.args.head.now c.args.list.now c.args.sums.now there.0 c.requires.judged c.requires.trees there.1 in
    let lawful =
    c.torrents_are_lawful.ensures (settings_of c.args.head.now) there.0 c.args.sums.now.pieces.items made in
    let no = c.in-Err.ensures.lawful.1 (rw (c.in_ok-root.ensures there.0 there.1) lawful) in
    cc

pub returns-clause-info : goal.returns-clause-info
returns-clause-info c =
    let there = facts_there c.args.head.now c.args.list.now c.args.sums.now c.attrs-attrs.ensures.one_each
    c.requires.trees in
    rw (c.in-Ok.ensures.kept, c.in_ok-root.ensures there.0 there.1)
    (info_there (settings_of c.args.head.now) there.0 c.args.sums.now.pieces.items)
