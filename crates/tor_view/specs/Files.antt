-- What is told of each file of a torrent: which pieces have bytes of it, how many of these hold, and its state.
use Rattle.std.specs.Prelude.{◌≡◌, ℕ, ◌+◌, ◌-◌, ◌/◌, ◌%◌, ◌<◌, ◌≤◌, ◌==◌, Bool, true, false, List, [], ◌∷◌, length, map}
use Rattle.std.specs.Prelude.{nat_lt, slice_index_or, Option, None, Some, if◌then◌else◌}
use Rattle.std.specs.Int.{div_ceil}
use Rattle.std.specs.List.{list_any, range_with_len}
use Rattle.tor_plan.specs.declared.units.PlanUnit.{PlanUnit}
use Rattle.tor_view.specs.Bitfield.{set_count}
use Rattle.tor_view.specs.declared.files.FileFound.{FileFound}
use Rattle.tor_view.specs.declared.files.FileState.{FileState}
use Rattle.tor_view.specs.declared.files.FileState.TheVariants.{Missing, Short, Bad, Whole}
use Rattle.tor_view.specs.declared.spans.FileSpan.{FileSpan}
use Rattle.tor_spec.specs.Verified.{merkle_pieces, verified_pieces}
use Rattle.tor_spec.specs.valid.Layers.{pieces_in}
use Rattle.tor_spec.specs.valid.View.{FileView, View}
use Rattle.tor_tree.specs.Kinds.{has_v2}
use Rattle.tor_v1.specs.declared.entry.Entry.{Entry}

-- ---- which pieces hold

-- for each piece, whether it holds by the side that tells whose bytes it has. In version 2 each piece has bytes of one
-- file alone, and a hybrid has the same pieces on both sides; in version 1 a piece may have bytes of several files (BEP
-- 52, "piece layers", "pieces root"; BEP 3, "info dictionary")
abbrev pub held_pieces : View → List (List ℕ) → List Bool
held_pieces view contents =
    if has_v2 view.kind then merkle_pieces view.piece_length view.files contents else verified_pieces view contents

-- ---- which pieces have bytes of a file

-- of a file of n bytes that begins at byte `start` of joined ones, which are cut every p bytes: the pieces from the one
-- with its first byte to the one with its last; an empty file has none
abbrev pub joined_span : ℕ → ℕ → ℕ → FileSpan
joined_span p start n = record {
  length = n;
  first = start / p;
  after = if nat_lt 0 n then div_ceil (start + n) p else start / p;
  lead = start % p;
}

-- of each file among joined entries, the first of which begins at byte `start`
abbrev pub joined_spans : ℕ → ℕ → List Entry → List FileSpan
joined_spans p start [] = []
joined_spans p start (entry ∷ entries) =
    if entry.pad then joined_spans p (start + entry.length) entries
    else joined_span p start entry.length ∷ joined_spans p (start + entry.length) entries

-- of a file of n bytes with pieces of its own, from this one on
abbrev pub tree_span : ℕ → ℕ → ℕ → FileSpan
tree_span p first n = record { length = n; first = first; after = first + pieces_in p n; lead = 0 }

-- of each file where pieces are numbered file by file, those of the first from `first` on
abbrev pub tree_spans : ℕ → ℕ → List FileView → List FileSpan
tree_spans p first [] = []
tree_spans p first (told ∷ files) =
    tree_span p first told.file.length ∷ tree_spans p (first + pieces_in p told.file.length) files

-- for each file the pieces that have bytes of it. With a v2 side they are counted file by file, else from the one with
-- its first byte among the joined entries to the one with its last; the files are in the torrent's order, without
-- padding, and an empty one has none (BEP 52, "pieces root"; BEP 3, "info dictionary"; BEP 47, "padding files")
abbrev pub file_spans : View → List FileSpan
file_spans view =
    if has_v2 view.kind then tree_spans view.piece_length 0 view.files
    else joined_spans view.piece_length 0 view.entries

-- a unit has bytes of this file
abbrev pub has_bytes_of : ℕ → PlanUnit → Bool
has_bytes_of file unit = list_any (λ part. part.file == file) unit.parts

-- ---- what is told of a file

-- for each piece that has bytes of the file, whether it holds
abbrev pub pieces_of_file : List Bool → FileSpan → List Bool
pieces_of_file held span =
    map (λ k. slice_index_or held k false) (range_with_len span.first (span.after - span.first))

-- the first of missing, short, bad and whole that there is a reason for. A file that is longer than the torrent says is
-- as one of that length (profile)
abbrev pub state_of : Option ℕ → ℕ → ℕ → ℕ → FileState
state_of None told good pieces = Missing
state_of (Some there) told good pieces =
    if nat_lt there told then Short else (if nat_lt good pieces then Bad else Whole)

abbrev pub file_found : List Bool → FileSpan → Option ℕ → FileFound
file_found held span there = record {
  state = state_of there span.length (set_count (pieces_of_file held span)) (span.after - span.first);
  good = set_count (pieces_of_file held span);
  pieces = span.after - span.first;
  there = there;
  told = span.length;
}

-- no piece
abbrev pub no_span : FileSpan
no_span = record { length = 0; first = 0; after = 0; lead = 0 }

-- file i, where these lengths are there and these pieces hold
abbrev pub found_at : List FileSpan → List (Option ℕ) → List Bool → ℕ → FileFound
found_at spans lengths held i = file_found held (slice_index_or spans i no_span) (slice_index_or lengths i None)

-- for each file its state, its pieces, how many hold, its length there and as told (profile)
abbrev pub files_found : View → List (Option ℕ) → List Bool → List FileFound
files_found view lengths held =
    map (found_at (file_spans view) lengths held) (range_with_len 0 (length (file_spans view)))

-- ---- what a state says

-- so many bytes are there, or more
abbrev pub AreThere : Option ℕ → ℕ → Type 0
AreThere there told = (n : ℕ) × (there ≡ Some n) × (told ≤ n)

-- fewer are there
abbrev pub AreFewer : Option ℕ → ℕ → Type 0
AreFewer there told = (n : ℕ) × (there ≡ Some n) × (n < told)

-- each piece that has bytes of the file holds
abbrev pub AllHold : List Bool → FileSpan → Type 0
AllHold held span = (k : ℕ) → span.first ≤ k → k < span.after → slice_index_or held k false ≡ true

-- one of them does not
abbrev pub OneFails : List Bool → FileSpan → Type 0
OneFails held span = (k : ℕ) × (span.first ≤ k) × (k < span.after) × (slice_index_or held k false ≡ false)
