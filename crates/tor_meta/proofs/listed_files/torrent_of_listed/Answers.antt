-- the torrent of the sums
use Rattle.std.proofs.Common.{length}
use Rattle.tor_sums.specs.Contents.{contents_in}
use Rattle.tor_meta.proofs.ContentSteps.{have_trees}
use Rattle.tor_meta.proofs.listed_files.torrent_of_listed.Goals as goal

pub torrent_of_listing-requires : goal.torrent_of_listing-requires
torrent_of_listing-requires g c =
    let whole = c.in-Ok.ensures.whole in
    have_trees c.args.listing.now.head c.args.listing.now.list.files whole.0 c.in-Ok.sums whole.1 whole.2

pub returns-clause-made : goal.returns-clause-made
returns-clause-made g c = λ facts steady none.
    let told = c.in-Ok.ensures.steady facts steady none in
    c.in_ok-bytes.ensures.made (contents_in facts (length c.args.listing.now.list.files)) told.0 told.1

pub returns-clause-fault : goal.returns-clause-fault
returns-clause-fault g c = λ facts steady none. (c.in-Ok.ensures.steady facts steady none).2

pub returns-clause-whole : goal.returns-clause-whole
returns-clause-whole g c =
    let whole = c.in-Ok.ensures.whole in
    (whole.0, whole.1, c.in_ok-bytes.ensures.made whole.0 whole.1 whole.2)
