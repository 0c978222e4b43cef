use Rattle.tor_edit.proofs.Names.{Bor, List, ℕ, option_map, view}
use Rattle.tor_edit.proofs.Torrents.{valid_with}
use Rattle.tor_edit.proofs.tracker.with_tracker.Goals as goal

pub returns-in-Ok-edited-clause-valid : goal.returns-in-Ok-edited-clause-valid
returns-in-Ok-edited-clause-valid c =
    valid_with (view c.in-Ok.root) c.args.torrent.now
    (option_map (λ (url : Bor (List ℕ)). url.now) c.args.tracker) c.in-Ok-edited.text.items c.in-Ok.ensures.accepted
    c.in-Ok-edited.ensures
