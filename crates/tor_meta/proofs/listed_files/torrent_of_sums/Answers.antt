use Rattle.std.proofs.Common.{◌∙◌, ap}
use Rattle.tor_bencode.specs.Spelling.{spelling}
use Rattle.tor_meta.specs.steps.Contents.{files_of}
use Rattle.tor_spec.specs.Metainfo.{facts_of_files, metainfo}
use Rattle.tor_meta.proofs.ContentSteps.{same_pieces, told_facts}
use Rattle.tor_meta.proofs.listed_files.torrent_of_sums.Goals as goal

pub returns-clause-made : goal.returns-clause-made
unfolding metainfo
returns-clause-made c = λ contents same up.
    let many = c.attrs-attrs.ensures.one_each in
    let told = told_facts c.args.head.now c.args.list.now contents c.args.sums.now many same up in
    c.in_ok-bytes.ensures.made (facts_of_files c.args.head.now.piece_length (files_of c.args.list.now contents)) told
    ∙ ap spelling (same_pieces c.args.head.now c.args.list.now contents c.args.sums.now many same up)
