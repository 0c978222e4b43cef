-- Which bytes of a file are in pieces whose bits are not set.
use Rattle.std.specs.Prelude.{◌≡◌, ℕ, ◌+◌, ◌/◌, ◌<◌, ◌==◌, Bool, false, not, ◌&&◌, List, leb, map, max, min, nat_lt}
use Rattle.std.specs.Prelude.{slice_index_or}
use Rattle.std.specs.List.{All, AllPairs, list_any}
use Rattle.tor_plan.specs.declared.units.PlanUnit.{PlanUnit}
use Rattle.tor_view.specs.Files.{file_spans}
use Rattle.tor_view.specs.declared.file_pieces.ByteRange.{ByteRange}
use Rattle.tor_view.specs.declared.spans.FileSpan.{FileSpan}
use Rattle.tor_spec.specs.valid.View.{View}

-- where a file stands among pieces of this length
pub record PiecedFile : Type 0 where
  pub piece_length : ℕ
  pub span : FileSpan

-- each file of a torrent, in its order, padding not counted, with the pieces that have bytes of it, and how many bytes
-- of the first of these stand before it (BEP 52, "pieces root"; BEP 3, "info dictionary"; BEP 47, "padding files")
abbrev pub pieced_files : View → List PiecedFile
pieced_files view = map (λ span. record { piece_length = view.piece_length; span = span }) (file_spans view)

-- the piece that has byte b of a file. Its pieces are numbered from the one with its first byte on, and that one may
-- begin with bytes of others (BEP 3, "info dictionary"; BEP 52, "pieces root")
abbrev pub piece_of_byte : PiecedFile → ℕ → ℕ
piece_of_byte file b = file.span.first + (file.span.lead + b) / file.piece_length

-- one of the pieces from one on, and before another, has bytes of a file
abbrev pub has_piece_between : ℕ → ℕ → PiecedFile → Bool
has_piece_between from to file = nat_lt (max from file.span.first) (min to file.span.after)

-- byte b is one of the file, and lies in a piece whose bit is not set. A piece without a bit has none that is (profile)
abbrev pub is_bad_byte : PiecedFile → List Bool → ℕ → Bool
is_bad_byte file bits b = nat_lt b file.span.length && not (slice_index_or bits (piece_of_byte file b) false)

-- byte b is in one of the ranges
abbrev pub is_in_ranges : List ByteRange → ℕ → Bool
is_in_ranges ranges b = list_any (λ range. leb range.from b && nat_lt b range.to) ranges

-- just the bytes that pass a test are in these ranges. They rise, none is empty, and no two touch
pub record AreRangesOf (test : ℕ → Bool) (ranges : List ByteRange) : Type 0 where
  pub bytes : (b : ℕ) → is_in_ranges ranges b ≡ test b
  pub filled : All (λ range. range.from < range.to) ranges
  pub apart : AllPairs (λ range later. range.to < later.from) ranges

-- the bytes of a file that are in pieces whose bits are not set, as ranges that rise and do not touch (profile)
abbrev pub AreBadRanges : PiecedFile → List Bool → List ByteRange → Type 0
AreBadRanges file bits ranges = AreRangesOf (is_bad_byte file bits) ranges

-- a unit, as each piece is one, has byte b of this file
abbrev pub has_byte_of : ℕ → ℕ → PlanUnit → Bool
has_byte_of file b unit =
    list_any (λ part. part.file == file && (leb part.start b && nat_lt b (part.start + part.length))) unit.parts
