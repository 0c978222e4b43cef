-- Which pieces are verified when a torrent is rechecked against contents: one for each of its files, in its order.
use Rattle.std.specs.Prelude.{ℕ, Bool, false, not, ◌&&◌, ◌||◌, List, [], ◌∷◌, ◌++◌, map, drop, slice_index_or}
use Rattle.std.specs.Prelude.{if◌then◌else◌}
use Rattle.std.specs.List.{range_with_len}
use Rattle.std.specs.Str.{bytes_eq}
use Rattle.tor_merkle.specs.Block.{run_at, leaves}
use Rattle.tor_merkle.specs.Layer.{piece_level, pieces_root}
use Rattle.tor_merkle.specs.Stack.{padded_subtree}
use Rattle.tor_tree.specs.Kinds.{has_v1, has_v2}
use Rattle.tor_v1.specs.Piece.{piece_sums}
use Rattle.tor_spec.specs.Present.{bytes_in, file_bytes, is_whole, joined_bytes}
use Rattle.tor_spec.specs.valid.Layers.{is_long, pieces_in, root_of_file}
use Rattle.tor_spec.specs.valid.View.{FileView, View}

-- the Merkle hash of a piece: of a file longer than a piece the root over the leaves of its blocks and zero leaves up
-- to a whole piece, as in "piece layers" of BEP 52; of another the root of the file, its "pieces root"
abbrev pub merkle_hash : ℕ → FileView → List ℕ → List ℕ
merkle_hash piece_length file bytes =
    if is_long piece_length file.file then padded_subtree (piece_level piece_length) 0 (leaves bytes)
    else pieces_root bytes

-- the hash that the torrent has for piece i of a file: the one at its index in the file's layer, or the file's root
abbrev pub told_hash : ℕ → FileView → ℕ → List ℕ
told_hash piece_length file i =
    if is_long piece_length file.file then slice_index_or file.layer i [] else root_of_file file.file

-- piece i of a file is whole and has its Merkle hash
abbrev pub is_merkle_piece : ℕ → FileView → List ℕ → ℕ → Bool
is_merkle_piece piece_length file content i =
    let piece = run_at piece_length (file_bytes file.file.length content) i in
    is_whole piece && bytes_eq (merkle_hash piece_length file (bytes_in piece)) (told_hash piece_length file i)

-- for each piece of a file
abbrev pub file_pieces : ℕ → FileView → List ℕ → List Bool
file_pieces piece_length file content =
    map (is_merkle_piece piece_length file content) (range_with_len 0 (pieces_in piece_length file.file.length))

-- for each piece of a v2 side, whose pieces are numbered file by file
abbrev pub merkle_pieces : ℕ → List FileView → List (List ℕ) → List Bool
merkle_pieces piece_length [] contents = []
merkle_pieces piece_length (file ∷ files) contents =
    file_pieces piece_length file (slice_index_or contents 0 []) ++ merkle_pieces piece_length files (drop 1 contents)

-- piece i of the joined entries is whole and has its SHA-1, the i-th 20 bytes of `pieces` in "info dictionary" of BEP
-- 3. The joined SHA-1 of each piece of its bytes are its own, as they are one piece
abbrev pub is_sha1_piece : View → List (List ℕ) → ℕ → Bool
is_sha1_piece view contents i =
    let piece = run_at view.piece_length (joined_bytes view.entries contents) i in
    is_whole piece && bytes_eq (piece_sums view.piece_length (bytes_in piece)) (run_at 20 view.pieces i)

-- piece i has what each side of the torrent has for it; those of both sides have the same numbers
abbrev pub is_verified : View → List (List ℕ) → ℕ → Bool
is_verified view contents i =
    (not (has_v1 view.kind) || is_sha1_piece view contents i)
    && (not (has_v2 view.kind) || slice_index_or (merkle_pieces view.piece_length view.files contents) i false)

-- for each piece: its bytes are there, and have the hashes that the torrent gives. Padding is always there; the hashes
-- are the SHA-1 and the Merkle hash (BEP 3, "info dictionary"; BEP 52, "piece layers", "pieces root"; BEP 47, "padding
-- files")
abbrev pub verified_pieces : View → List (List ℕ) → List Bool
verified_pieces view contents = map (is_verified view contents) (range_with_len 0 view.piece_count)
