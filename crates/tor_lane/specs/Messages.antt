-- The messages of a lane: chunks, and marks after them.
use Rattle.std.specs.Prelude.{ℕ, ◌+◌, List, [], ◌∷◌, ◌++◌, map, replicate}
use Rattle.tor_lane.specs.declared.chunk.Chunk.{Chunk}
use Rattle.tor_lane.specs.declared.chunk.Message.{Message}
use Rattle.tor_lane.specs.declared.chunk.Message.TheVariants.{More, Mark}

-- the chunks, and then so many marks
abbrev pub messages_of : List Chunk → ℕ → List Message
messages_of chunks marks = map More chunks ++ replicate marks Mark

-- the chunks among messages, in order
abbrev pub chunks_in : List Message → List Chunk
chunks_in [] = []
chunks_in (More c ∷ ms) = c ∷ chunks_in ms
chunks_in (Mark ∷ ms) = chunks_in ms

-- how many marks are among messages
abbrev pub marks_in : List Message → ℕ
marks_in [] = 0
marks_in (More c ∷ ms) = marks_in ms
marks_in (Mark ∷ ms) = 1 + marks_in ms
