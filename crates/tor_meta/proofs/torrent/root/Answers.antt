-- field after field
use Rattle.std.proofs.Common.{◌≡◌, ◌∷◌, ◌∙◌, [], ℕ, List, Option, Some, ap, codes, option_map, refl}
use Rattle.tor_bencode.specs.Data.{Data, dictionary, string}
use Rattle.tor_bencode.specs.View.{pairs_view, view}
use Rattle.tor_spec.specs.Dictionary.{present, when}
use Rattle.tor_spec.specs.Facts.{Facts}
use Rattle.tor_spec.specs.InfoDictionary.{info_dictionary}
use Rattle.tor_spec.specs.Metainfo.{root_dictionary}
use Rattle.tor_spec.specs.PieceLayers.{piece_layers}
use Rattle.tor_spec.specs.Settings.{Settings}
use Rattle.tor_tree.specs.Kinds.{has_v2}
use Rattle.tor_meta.specs.Head.{settings_of}
use Rattle.tor_meta.proofs.torrent.root.Goals as goal

as_root : (settings : Settings) (facts : List Facts) (pieces : List ℕ) (announce info layers : Option Data)
    → announce ≡ option_map string settings.announce → info ≡ Some (info_dictionary settings facts pieces)
    → layers ≡ when (has_v2 settings.kind) (dictionary (piece_layers settings.piece_length facts))
    → dictionary (present ((codes "announce", announce) ∷ (codes "info", info) ∷ (codes "piece layers", layers) ∷ []))
    ≡ root_dictionary settings facts pieces
as_root settings facts pieces announce info layers e1 e2 e3 = rw (e1, e2, e3) refl

pub returns : goal.returns
returns c = λ facts told.
    let a : List ℕ × Option Data = (codes "announce", option_map view c.in_ok-announce.field-0) in
    let b : List ℕ × Option Data = (codes "info", Some (view c.in_ok-info.info)) in
    let announce = c.in_ok-push_field.ensures [] (ap pairs_view c.new-pairs.ensures.items) in
    let info = c.in_ok-push_field-2.ensures (a ∷ []) announce in
    c.dictionary.ensures ∙ ap dictionary (c.in_ok-push_field-3.ensures (a ∷ b ∷ []) info)
    ∙ as_root (settings_of c.args.head.now) facts c.args.sums.now.pieces.items _ _ _ c.in_ok-announce.ensures
    (ap Some (c.in_ok-info.ensures facts told)) (c.in_ok-layers.ensures facts told)
