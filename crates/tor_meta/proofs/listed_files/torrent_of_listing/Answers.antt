-- head and list are those of the listing
use Rattle.std.proofs.Common.{◌∙◌, ap, ap₂}
use Rattle.tor_bencode.specs.Spelling.{spelling}
use Rattle.tor_meta.specs.Head.{settings_of}
use Rattle.tor_meta.specs.declared.head.Head.{Head}
use Rattle.tor_meta.specs.steps.Contents.{files_of}
use Rattle.tor_spec.specs.Metainfo.{metainfo, root_dictionary}
use Rattle.tor_tree.specs.FileList.{LetteredFiles}
use Rattle.tor_meta.proofs.listed_files.torrent_of_listing.Goals as goal

pub torrent_of_sums-requires-clause-judged : goal.torrent_of_sums-requires-clause-judged
torrent_of_sums-requires-clause-judged c = rw (c.head.ensures, c.list-list.ensures.value) c.list-list.ensures.lawful.judged

pub torrent_of_sums-requires-clause-trees : goal.torrent_of_sums-requires-clause-trees
torrent_of_sums-requires-clause-trees c = rw (c.head.ensures, c.list-list.ensures.value) c.requires

pub returns-clause-made : goal.returns-clause-made
returns-clause-made c = λ contents fit up.
    c.in_ok-bytes.ensures.made contents (rw c.list-list.ensures.value fit)
    (rw (c.head.ensures, c.list-list.ensures.value) up)
    ∙ ap₂ (λ (h : Head) (l : LetteredFiles). metainfo (settings_of h) (files_of l contents)) c.head.ensures
    c.list-list.ensures.value

pub returns-clause-any : goal.returns-clause-any
returns-clause-any c = λ facts are.
    c.in_ok-bytes.ensures.any facts (rw (c.head.ensures, c.list-list.ensures.value) are)
    ∙ ap (λ (h : Head). spelling (root_dictionary (settings_of h) facts c.args.sums.now.pieces.items)) c.head.ensures
