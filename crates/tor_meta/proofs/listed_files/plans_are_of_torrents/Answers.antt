-- the plan is the torrent's
use Rattle.std.proofs.Common.{◌<◌, ◌*◌, arith, mul-pos, refl}
use Rattle.tor_meta.specs.Head.{settings_of}
use Rattle.tor_meta.specs.Listing.{text_of_listing}
use Rattle.tor_meta.specs.Lots.{plan_of_text}
use Rattle.tor_meta.specs.Order.{has_tail}
use Rattle.tor_meta.proofs.SourceSums.{can_plan, entries_for, plan_is}
use Rattle.tor_meta.proofs.StreamSums.{plan_pieces}
use Rattle.tor_meta.proofs.listed_files.plans_are_of_torrents.Goals as goal

pub returns-clause-is : goal.returns-clause-is
returns-clause-is c =
    let listing = c.args.listing.now in
    let head = listing.head in
    let files = listing.list.files in
    let p = head.piece_length in
    let span = listing.span in
    let lawful = c.list-list.ensures.lawful in
    let judged = lawful.judged in
    let bounds = (c.piece_length_bounds.ensures p).0 judged.piece_length in
    let pieces = plan_pieces head.kind p bounds in
    let some : 0 < span * p = mul-pos (omega (arith, lawful.spanned)) (omega (arith, bounds)) in
    let entries = entries_for head files in
    let is_list = can_plan head files entries judged refl
    (c.files_are_cut_as_entries.ensures.listed head.kind (has_tail (settings_of head)) p files judged.is_list pieces) in
    plan_is head span files entries (plan_of_text (text_of_listing listing)) judged refl
    (c.files_are_cut_as_entries.ensures.lengths head.kind (has_tail (settings_of head)) p files)
    (λ contents fit. c.entry_units_are_the_content.ensures head.kind p span entries contents some is_list.laid_out fit)
    refl
