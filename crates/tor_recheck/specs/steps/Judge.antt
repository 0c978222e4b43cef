-- How the hashes of pieces are judged by those of a torrent. Only private clauses cite these.
use Rattle.std.specs.Prelude.{ℕ, Bool, true, false, ◌&&◌, List, [], length, map, slice_index_or, Option, None, Some}
use Rattle.std.specs.Prelude.{if◌then◌else◌}
use Rattle.std.specs.List.{range_with_len}
use Rattle.std.specs.Str.{bytes_eq}
use Rattle.tor_engine.specs.declared.pieces.piece_hash.PieceHash.{PieceHash}
use Rattle.tor_merkle.specs.Block.{run_at}
use Rattle.tor_view.specs.Pieces.{told_hashes}
use Rattle.tor_spec.specs.valid.View.{View}
use Rattle.tor_tree.specs.Kinds.{has_v2}

-- a hash, where there is one, is that of the torrent
abbrev pub is_told : Option (List ℕ) → List ℕ → Bool
is_told None told = true
is_told (Some hash) told = bytes_eq hash told

-- the piece is there, and its hashes are these
abbrev pub is_found : Option PieceHash → List ℕ → List ℕ → Bool
is_found None sum root = false
is_found (Some hash) sum root = is_told hash.v1 sum && is_told hash.v2 root

-- piece by piece
abbrev pub judged : View → List (Option PieceHash) → ℕ → Bool
judged view hashes i = is_found (slice_index_or hashes i None) (run_at 20 view.pieces i)
    (slice_index_or (told_hashes view) i [])

abbrev pub all_judged : View → List (Option PieceHash) → List Bool
all_judged view hashes = map (judged view hashes) (range_with_len 0 (length hashes))

-- the piece is there, and its Merkle hash is this
abbrev pub is_merkle_found : Option PieceHash → List ℕ → Bool
is_merkle_found None root = false
is_merkle_found (Some hash) root = is_told hash.v2 root

abbrev pub merkle_judged : View → List (Option PieceHash) → ℕ → Bool
merkle_judged view hashes i = is_merkle_found (slice_index_or hashes i None) (slice_index_or (told_hashes view) i [])

-- each piece by version 2 alone
abbrev pub all_merkle_judged : View → List (Option PieceHash) → List Bool
all_merkle_judged view hashes = map (merkle_judged view hashes) (range_with_len 0 (length hashes))

-- each piece by the side that tells whose bytes it has
abbrev pub all_held : View → List (Option PieceHash) → List Bool
all_held view hashes = if has_v2 view.kind then all_merkle_judged view hashes else all_judged view hashes
