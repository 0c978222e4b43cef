use Rattle.tor_check.proofs.Names.{rules, IsViewOfValid}
use Rattle.tor_check.proofs.RisingFiles.{rising_of_view}
use Rattle.tor_check.proofs.torrent.Torrent.files.Goals as goal

pub returns-clause-rising : goal.returns-clause-rising
returns-clause-rising c =
    let valid : IsViewOfValid c.args.self.now = search rules in
    rising_of_view c.args.self.now valid
