use Rattle.tor_check.proofs.Names.{true, false, ◌∙◌, inr, view}
use Rattle.tor_check.proofs.ListDecides.{at_end, at_link, at_pieces, tells_pieces}
use Rattle.tor_check.proofs.SideLemmas.{tells_link}
use Rattle.tor_check.proofs.list_side.read_list.Goals as goal

pub returns-then-has_link-clause-refused : goal.returns-then-has_link-clause-refused
returns-then-has_link-clause-refused c =
    let info = view c.args.head.now.info.now in
    let read = c.deref-2.ensures.value ∙ c.in_ok-files.ensures.read in
    inr (at_link info c.in-Ok.ensures.first (tells_link info c.deref-2.result.now true read c.if-has_link.ensures))

pub returns-then-lacks_sums-clause-refused : goal.returns-then-lacks_sums-clause-refused
returns-then-lacks_sums-clause-refused c =
    let info = view c.args.head.now.info.now in
    let read = c.deref-2.ensures.value ∙ c.in_ok-files.ensures.read in
    let link = tells_link info c.deref-2.result.now false read c.if-has_link.ensures in
    inr (at_pieces info c.in-Ok.ensures.first link
    (tells_pieces info c.in-Ok.size c.args.head.now.piece_length true c.in-Ok.ensures.size c.requires.piece_length
    c.if-lacks_sums.ensures))

pub returns-clause-accepted : goal.returns-clause-accepted
returns-clause-accepted c =
    let info = view c.args.head.now.info.now in
    let read = c.deref-2.ensures.value ∙ c.in_ok-files.ensures.read in
    let link = tells_link info c.deref-2.result.now false read c.if-has_link.ensures in
    at_end info c.in-Ok.ensures.first link
    (tells_pieces info c.in-Ok.size c.args.head.now.piece_length false c.in-Ok.ensures.size c.requires.piece_length
    c.if-lacks_sums.ensures)
