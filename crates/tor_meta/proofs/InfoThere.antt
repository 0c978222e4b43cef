-- The root dictionary of a torrent has `info`.
use Rattle.std.proofs.Common.{ℕ, List, [], ◌∷◌, Option, None, Some, refl}
use Rattle.std.specs.Prelude.{codes, option_map, IsSome}
use Rattle.tor_bencode.specs.Data.{Data, string, dictionary}
use Rattle.tor_bencode.specs.Find.{value_of}
use Rattle.tor_spec.specs.Dictionary.{present}
use Rattle.tor_spec.specs.Facts.{Facts}
use Rattle.tor_spec.specs.Metainfo.{root_dictionary}
use Rattle.tor_spec.specs.Settings.{Settings}

pub info_there : (settings : Settings) (facts : List Facts) (pieces : List ℕ)
    → IsSome (value_of (codes "info") (root_dictionary settings facts pieces))
info_there settings facts pieces = after settings.announce _ _
  where
    after : (tracker : Option (List ℕ)) (info : Data) (layers : Option Data)
        → IsSome (value_of (codes "info") (dictionary (present (
        (codes "announce", option_map string tracker) ∷ (codes "info", Some info) ∷
        (codes "piece layers", layers) ∷ []))))
    after None info layers = refl
    after (Some url) info layers = refl
