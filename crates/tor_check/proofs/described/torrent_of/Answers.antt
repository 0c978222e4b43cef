use Rattle.tor_check.proofs.Names.{◌∙◌, view, info_of}
use Rattle.tor_check.proofs.Hybrids.{entries_if}
use Rattle.tor_check.proofs.described.torrent_of.Goals as goal

pub returns : goal.returns
returns c =
    let head = c.requires.head in
    let listed = c.deref.ensures.value ∙ c.requires.sides.listed in
    let entries = c.in_ok-entries.ensures ∙ entries_if (info_of (view c.args.root.now)) c.deref.result.now listed in
    let name = c.in_ok-copy.ensures ∙ head.name in
    let pieces = rw head.info at c.in_ok-pieces.ensures.pieces in
    λ i.
    record {
      kind = head.kind i;
      name = name i;
      piece_length = head.piece_length i;
      is_private = head.is_private i;
      files = c.in_ok-files.ensures i;
      entries = entries i;
      pieces = pieces i;
      info_span = c.requires.span i;
      piece_count = c.piece_count-piece_count.ensures i;
    }

pub invariant_of-result : goal.invariant_of-result
invariant_of-result c =
    record {
      tree = view c.args.root.now;
      lawful = c.requires.lawful;
      accepted = c.requires.accepted;
      described = returns c;
    }
