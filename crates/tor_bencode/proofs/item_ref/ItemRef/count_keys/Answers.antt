use Rattle.tor_bencode.proofs.Names.{sym, ◌∙◌}
use Rattle.tor_bencode.proofs.Searched.{length-keys}
use Rattle.tor_bencode.proofs.Views.{ref_view-Dict}
use Rattle.tor_bencode.proofs.item_ref.ItemRef.count_keys.Goals as goal

pub returns-in-Dict : goal.returns-in-Dict
returns-in-Dict c =
    rw (c.in-Dict.is, ref_view-Dict c.in-Dict.pairs, c.len.ensures)
    (c.in-Dict.pairs.ok.0 ∙ sym (length-keys c.in-Dict.pairs.items))
