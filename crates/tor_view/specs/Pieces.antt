-- The pieces of a torrent as units of one piece each, and which of them are there and right in contents: one for each
-- of its files, in its order.
use Rattle.std.specs.Prelude.{◌≡◌, ℕ, ◌+◌, Bool, true, false, not, ◌&&◌, ◌||◌, List, [], ◌∷◌, map}
use Rattle.std.specs.Prelude.{take, drop, slice_index_or, sum_by, None, if◌then◌else◌}
use Rattle.std.specs.Int.{div_ceil}
use Rattle.std.specs.List.{flat_map, range_with_len}
use Rattle.std.specs.Str.{bytes_eq}
use Rattle.tor_merkle.specs.Block.{run_at}
use Rattle.tor_plan.specs.Content.{unit_content}
use Rattle.tor_plan.specs.Entries.{entries_length, entry_units, lengths_of_entries}
use Rattle.tor_plan.specs.EntryList.{IsEntryList}
use Rattle.tor_plan.specs.PlanFacts.{IsPlanPieceLength}
use Rattle.tor_plan.specs.Present.{is_there}
use Rattle.tor_plan.specs.declared.units.Part.{Part}
use Rattle.tor_plan.specs.declared.units.PlanUnit.{PlanUnit}
use Rattle.tor_spec.specs.Verified.{merkle_hash, told_hash}
use Rattle.tor_spec.specs.valid.Layers.{pieces_in}
use Rattle.tor_spec.specs.valid.View.{FileView, View}
use Rattle.tor_tree.specs.Kinds.{has_v1, has_v2}
use Rattle.tor_v1.specs.Entries.{file_entry}
use Rattle.tor_v1.specs.Piece.{piece_sums}
use Rattle.tor_v1.specs.declared.entry.Entry.{Entry}

-- ---- the pieces

-- the entries that are cut: those of the v1 side, or the files of the v2 side alone
abbrev pub entries_to_cut : View → List Entry
entries_to_cut view =
    if has_v1 view.kind then view.entries
    else map (λ told. file_entry (told.file.path, told.file.length)) view.files

-- the pieces, each as a unit
abbrev pub pieces_of : View → List PlanUnit
pieces_of view = entry_units view.kind view.piece_length 1 (entries_to_cut view)

-- ---- which are right

-- an empty file
abbrev pub no_file : FileView
no_file = record {
  file = record { path = []; length = 0; root = None; has_attr = false; exec = false; hidden = false };
  layer = [];
}

-- the Merkle hash of what a part has of its file
abbrev pub part_root : View → List (List ℕ) → Part → List ℕ
part_root view contents part =
    merkle_hash view.piece_length (slice_index_or view.files part.file no_file)
    (take part.length (drop part.start (slice_index_or contents part.file [])))

-- that of the one part of a piece
abbrev pub root_of_parts : View → List (List ℕ) → List Part → List ℕ
root_of_parts view contents [] = []
root_of_parts view contents (part ∷ _) = part_root view contents part

-- the Merkle hash of a piece
abbrev pub piece_root : View → List (List ℕ) → PlanUnit → List ℕ
piece_root view contents piece = root_of_parts view contents piece.parts

-- the hashes that the v2 side has for the pieces of a file
abbrev pub hashes_of_file : ℕ → FileView → List (List ℕ)
hashes_of_file piece_length told =
    map (told_hash piece_length told) (range_with_len 0 (pieces_in piece_length told.file.length))

-- those of all files, file by file
abbrev pub told_hashes : View → List (List ℕ)
told_hashes view = flat_map (hashes_of_file view.piece_length) view.files

-- the piece has the SHA-1 that the torrent has for piece i
abbrev pub has_sha1 : View → List (List ℕ) → ℕ → PlanUnit → Bool
has_sha1 view contents i piece =
    bytes_eq (piece_sums view.piece_length (unit_content contents piece)) (run_at 20 view.pieces i)

-- the piece has the Merkle hash that the torrent has for piece i
abbrev pub has_root : View → List (List ℕ) → ℕ → PlanUnit → Bool
has_root view contents i piece =
    bytes_eq (piece_root view contents piece) (slice_index_or (told_hashes view) i [])

-- piece i is there, and has what each side of the torrent has for it
abbrev pub is_right : View → List (List ℕ) → ℕ → PlanUnit → Bool
is_right view contents i piece =
    is_there contents piece
    && (not (has_v1 view.kind) || has_sha1 view contents i piece)
    && (not (has_v2 view.kind) || has_root view contents i piece)

-- for each piece, as a unit: it is there, and has the torrent's hashes. It has its SHA-1 and its Merkle hash; the first
-- of the list has number i (BEP 3, "info dictionary"; BEP 52, "piece layers", "pieces root")
unfoldable pub right_pieces : View → List (List ℕ) → ℕ → List PlanUnit → List Bool
right_pieces view contents i [] = []
right_pieces view contents i (piece ∷ pieces) =
    is_right view contents i piece ∷ right_pieces view contents (i + 1) pieces

-- ---- what a torrent that was accepted keeps to

-- a v2 side counts its pieces file by file, a v1 side alone those of the joined entries
abbrev pub count_of_pieces : View → ℕ
count_of_pieces view =
    if has_v2 view.kind then sum_by (λ told. pieces_in view.piece_length told.file.length) view.files
    else div_ceil (entries_length view.entries) view.piece_length

-- what a torrent keeps to, so that its entries can be cut (profile)
pub record IsCut (view : View) : Type 0 where
  pub entries : IsEntryList view.kind view.piece_length (entries_to_cut view)
  pub pieces : IsPlanPieceLength view.kind view.piece_length
  -- the files of both sides are the same
  pub same : has_v1 view.kind ≡ true → lengths_of_entries view.entries ≡ map (λ told. told.file.length) view.files
  pub count : view.piece_count ≡ count_of_pieces view
