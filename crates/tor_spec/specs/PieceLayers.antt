-- The piece layers of files (BEP 52, "piece layers").
use Rattle.std.specs.Prelude.{ℕ, List, [], ◌∷◌, nat_le, unwrap_or, if◌then◌else◌}
use Rattle.std.specs.List.{flat_map}
use Rattle.tor_bencode.specs.Data.{string, Pairs, no_pairs}
use Rattle.tor_spec.specs.Dictionary.{put}
use Rattle.tor_spec.specs.Facts.{Facts}

-- hashes, one after another
abbrev pub joined : List (List ℕ) → List ℕ
joined hashes = flat_map (λ hash. hash) hashes

-- by pieces root, the joined layer hashes of each file longer than one piece. Of files with one root the first gives
-- the layer (BEP 52, "piece layers")
abbrev pub piece_layers : ℕ → List Facts → Pairs
piece_layers piece_length [] = no_pairs
piece_layers piece_length (file ∷ files) =
    if nat_le file.size piece_length
    then piece_layers piece_length files
    else put (unwrap_or file.root []) (string (joined file.layer)) (piece_layers piece_length files)
