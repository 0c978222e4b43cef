-- How the contents of readers are cut into chunks. Only private clauses cite these.
use Rattle.std.specs.Prelude.{◌≡◌, ◌*◌, ◌+◌, ◌<◌, ◌≤◌, ℕ, Bool, List, [], ◌∷◌, ◌++◌, length, map, take, Option, None}
use Rattle.std.specs.Prelude.{Some, vec_len}
use Rattle.std.specs.Prelude.{if◌then◌else◌}
use Rattle.std.specs.List.{AllByRecursion, flat_map, range_with_len}
use Rattle.tor_lane.specs.Lane.{FeedsLaneOf, IsOpen, put_by}
use Rattle.tor_lane.specs.declared.chunk.Chunk.{Chunk}
use Rattle.tor_merkle.specs.declared.TheConstants.{MAX_LENGTH}
use Rattle.tor_tree.specs.Kinds.{has_v1, has_v2}
use Rattle.tor_tree.specs.declared.kinds.Kind.{Kind}
use Rattle.tor_tree.specs.declared.kinds.Kind.TheVariants.{Hybrid}
use Rattle.tor_v1.specs.Entries.{padding_length}
use Rattle.tor_v1.specs.Piece.{piece_sums, pieces_of, zeros}
use Rattle.tor_sums.specs.UnitSums.{bare_node, node_in}
use Rattle.tor_sums.specs.UnitNodes.{Node, node_over}
use Rattle.tor_streams.specs.Streams.{IsStreamCut}
use Rattle.tor_streams.specs.declared.chunking.Chunking.{Chunking}
use Rattle.tor_streams.specs.declared.cutter.Cutter.{Cutter}
use Rattle.tor_streams.specs.declared.pairs.Pairs.{Pairs}
use Rattle.tor_streams.specs.declared.filling.Stop.{Stop}
use Rattle.tor_streams.specs.declared.filling.Stop.TheVariants.{Read, Refused, TooLong}
use Rattle.tor_sums.specs.declared.unit_sums.UnitSums.{UnitSums}

-- chunks of some pieces, by which streams can be cut
pub record IsChunking (chunking : Chunking) : Type 0 where
  pub span : ℕ
  pub cut : IsStreamCut chunking.kind chunking.piece_length span
  pub size : chunking.size ≡ span * chunking.piece_length

-- what a caller tells of it
abbrev pub told_of : Chunking → Kind × Bool × ℕ
told_of chunking = (chunking.kind, chunking.tail, chunking.piece_length)

-- the bytes of a chunk, and how many zeros follow them
abbrev pub Cut : Type 0
Cut = List ℕ × ℕ

abbrev pub cut_of : Chunk → Cut
cut_of chunk = (chunk.bytes.items, chunk.zeros)

-- a content cut every size bytes, the last run perhaps shorter
abbrev pub runs_of : ℕ → List ℕ → List (List ℕ)
runs_of size content = pieces_of size content

-- no zeros follow
abbrev pub bare_cuts : List (List ℕ) → List Cut
bare_cuts runs = map (λ run. (run, 0)) runs

-- so many zeros follow the last
abbrev pub ending_in : ℕ → List Cut → List Cut
ending_in count [] = []
ending_in count (cut ∷ []) = (cut.0, count) ∷ []
ending_in count (cut ∷ next ∷ cuts) = cut ∷ ending_in count (next ∷ cuts)

-- the zeros after a content of m bytes, where some byte of a later one follows (BEP 47, "padding files")
abbrev pub zeros_between : Kind → ℕ → ℕ → ℕ
zeros_between Hybrid piece_length m = padding_length piece_length m
zeros_between _ piece_length m = 0

-- a content cut by itself, where some byte of a later one follows
abbrev pub cuts_of_content : Chunking → List ℕ → List Cut
cuts_of_content chunking content =
    ending_in (zeros_between chunking.kind chunking.piece_length (length content))
    (bare_cuts (runs_of chunking.size content))

-- contents that were read whole: in version 1 they are cut as one, else each by itself
abbrev pub closed_cuts : Chunking → List (List ℕ) → List Cut
closed_cuts chunking contents = if has_v2 chunking.kind then flat_map (cuts_of_content chunking) contents else []

-- what is cut as one, where so much of the next content came
abbrev pub open_text : Kind → List (List ℕ) → List ℕ → List ℕ
open_text kind contents current =
    if has_v2 kind then current else flat_map (λ content. content) contents ++ current

-- the chunks of contents before it is known that none follows
abbrev pub cuts_before_end : Chunking → List (List ℕ) → List Cut
cuts_before_end chunking contents =
    closed_cuts chunking contents ++ bare_cuts (runs_of chunking.size (open_text chunking.kind contents []))

-- the chunks of contents: but for a tail no zeros follow the last
abbrev pub stream_cuts : Chunking → List (List ℕ) → List Cut
stream_cuts chunking contents =
    if chunking.tail then cuts_before_end chunking contents else ending_in 0 (cuts_before_end chunking contents)

-- the chunk that waits for another one, if one does
abbrev pub chunk_waiting : Option Chunk → List Chunk
chunk_waiting None = []
chunk_waiting (Some chunk) = chunk ∷ []

-- the chunks that are put, and the one that waits behind them
abbrev pub given_to : Pairs → List Chunk
given_to pairs = put_by pairs.feeder ++ chunk_waiting pairs.waiting

-- the chunk that is held, with the zeros that follow it where some byte of a later content comes
abbrev pub cuts_held : Option Chunk → ℕ → List Cut
cuts_held None count = []
cuts_held (Some chunk) count = (chunk.bytes.items, count) ∷ []

abbrev pub units_held : Option Chunk → List ℕ
units_held None = []
units_held (Some chunk) = chunk.unit ∷ []

abbrev pub units_of : List Chunk → List ℕ
units_of chunks = map (λ chunk. chunk.unit) chunks

-- these contents were read whole, and so much of the next one
pub record HasCut (chunking : Chunking) (contents : List (List ℕ)) (current : List ℕ) (cutter : Cutter)
    : Type 0 where
  pub buffer : vec_len cutter.buffer ≡ chunking.size
  pub filled : cutter.filled ≤ chunking.size
  -- what was cut of the text, and what waits in the buffer
  pub cut : List ℕ
  pub whole : (count : ℕ) × (length cut ≡ count * chunking.size)
  pub text : cut ++ take cutter.filled cutter.buffer.items ≡ open_text chunking.kind contents current
  pub cuts : map cut_of (given_to cutter.pairs) ++ cuts_held cutter.held cutter.zeros
      ≡ closed_cuts chunking contents ++ bare_cuts (runs_of chunking.size cut)
  -- chunks are numbered from 0 on
  pub units : units_of (given_to cutter.pairs) ++ units_held cutter.held ≡ range_with_len 0 cutter.next
  pub opened : IsOpen cutter.pairs.feeder
  -- the last chunk that was cut is held
  pub begun : cutter.held ≡ None → given_to cutter.pairs ≡ []

-- these contents were read whole, and there is room for a byte of the next one
pub record IsReady (chunking : Chunking) (contents : List (List ℕ)) (cutter : Cutter) : Type 0 where
  pub has : HasCut chunking contents [] cutter
  pub room : cutter.filled < chunking.size

-- so much of the next one came, and all of it was cut
pub record IsCutOff (chunking : Chunking) (contents : List (List ℕ)) (current : List ℕ) (cutter : Cutter)
    : Type 0 where
  pub filled : cutter.filled ≡ 0
  pub buffer : vec_len cutter.buffer ≡ chunking.size
  pub cuts : map cut_of (given_to cutter.pairs) ++ cuts_held cutter.held cutter.zeros
      ≡ closed_cuts chunking contents ++ bare_cuts (runs_of chunking.size (open_text chunking.kind contents current))
  pub units : units_of (given_to cutter.pairs) ++ units_held cutter.held ≡ range_with_len 0 cutter.next
  pub opened : IsOpen cutter.pairs.feeder
  pub begun : cutter.held ≡ None → given_to cutter.pairs ≡ []

-- the lane goes on, and more can be put into it
abbrev pub KeepsLane : Cutter → Cutter → Type 0
KeepsLane old new = FeedsLaneOf old.pairs.feeder new.pairs.feeder × IsOpen new.pairs.feeder

-- one chunk more was cut, of what waited; no zeros are known to follow it
pub record CutsMore (old new : Cutter) : Type 0 where
  pub filled : new.filled ≡ 0
  pub buffer : vec_len new.buffer ≡ vec_len old.buffer
  pub cuts : map cut_of (given_to new.pairs) ++ cuts_held new.held new.zeros
      ≡ (map cut_of (given_to old.pairs) ++ cuts_held old.held old.zeros)
      ++ (take old.filled old.buffer.items, 0) ∷ []
  pub units : units_of (given_to new.pairs) ++ units_held new.held
      ≡ (units_of (given_to old.pairs) ++ units_held old.held) ++ old.next ∷ []
  pub next : new.next ≡ old.next + 1
  pub begun : new.held ≡ None → given_to new.pairs ≡ []

-- what came of a reader that was not read to its end
abbrev pub EndsReading : ℕ → Stop → List ℕ → Type 0
EndsReading limit (Read start fault) bytes = (length bytes ≡ start) × (length bytes ≤ limit)
EndsReading limit TooLong bytes = limit < length bytes
EndsReading limit Refused bytes = length bytes ≤ limit

-- what was held was given to the lane's end, with so many zeros after it
pub record PutsHeld (count : ℕ) (old new : Cutter) : Type 0 where
  pub cuts : map cut_of (given_to new.pairs) ≡ map cut_of (given_to old.pairs) ++ cuts_held old.held count
  pub units : units_of (given_to new.pairs) ≡ units_of (given_to old.pairs) ++ units_held old.held
  pub held : new.held ≡ None
  pub filled : new.filled ≡ old.filled
  pub buffer : new.buffer ≡ old.buffer
  pub next : new.next ≡ old.next

-- all contents were cut and put
pub record HasPut (chunking : Chunking) (contents : List (List ℕ)) (put : List Chunk) : Type 0 where
  pub cuts : map cut_of put ≡ stream_cuts chunking contents
  pub units : units_of put ≡ range_with_len 0 (length put)

-- the contents have these lengths, none too long, and were cut and put
pub record PutsContents (chunking : Chunking) (contents : List (List ℕ)) (lengths : List ℕ) (put : List Chunk)
    : Type 0 where
  pub small : AllByRecursion (λ content. length content ≤ MAX_LENGTH) contents
  pub counted : map length contents ≡ lengths
  pub cut : HasPut chunking contents put

-- ---- what chunks sum up to

-- a number, a node, and the joined SHA-1 of pieces
abbrev pub SumsFacts : Type 0
SumsFacts = ℕ × Node × List ℕ

abbrev pub facts_of : UnitSums → SumsFacts
facts_of sums = (sums.unit, node_in sums, sums.pieces.items)

-- the node of a chunk that is alone in its file, and the SHA-1 of its pieces
abbrev pub node_of_bytes : Chunking → List ℕ → Node
node_of_bytes chunking bytes = if has_v2 chunking.kind then node_over chunking.piece_length None bytes else bare_node

abbrev pub pieces_of_cut : Chunking → Cut → List ℕ
pieces_of_cut chunking cut =
    if has_v1 chunking.kind then piece_sums chunking.piece_length (cut.0 ++ zeros cut.1) else []

abbrev pub facts_of_chunk : Chunking → Chunk → SumsFacts
facts_of_chunk chunking chunk = (
  chunk.unit,
  node_of_bytes chunking chunk.bytes.items,
  pieces_of_cut chunking (cut_of chunk),
)
