-- What an end of a lane knows, and how its steps change it.
use Rattle.std.specs.Prelude.{ℕ, ◌+◌, true, false, List, [], ◌∷◌, ◌++◌}
use Rattle.std.specs.List.{flat_map, sum_by}
use Rattle.tor_lane.specs.declared.chunk.Chunk.{Chunk}
use Rattle.tor_lane.specs.declared.chunk.Message.{Message}
use Rattle.tor_lane.specs.declared.chunk.Message.TheVariants.{More, Mark}
use Rattle.tor_lane.specs.declared.view.View.{View}

-- the feeder, before it has made a taker
abbrev pub first : View
first = record { feeds = true; put = []; ended = 0; made = 0; takers = 0; taken = []; marks = 0 }

-- one message more is put
abbrev pub putting : View → Message → View
putting v (More c) = record v { put = v.put ++ c ∷ [] }
putting v Mark = record v { ended = v.ended + 1 }

-- one message more is taken
abbrev pub taking : View → Message → View
taking v (More c) = record v { taken = v.taken ++ c ∷ [] }
taking v Mark = record v { marks = v.marks + 1 }

-- one taker more is made, and what that one knows
abbrev pub making : View → View
making v = record v { made = v.made + 1 }

abbrev pub fresh : View → View
fresh v = record { feeds = false; put = []; ended = 0; made = 0; takers = 1; taken = []; marks = 0 }

-- what another end did is known here too, and what is left of that one
abbrev pub both : View → View → View
both v w = record v { takers = v.takers + w.takers; taken = v.taken ++ w.taken; marks = v.marks + w.marks }

abbrev pub spent : View
spent = record { feeds = false; put = []; ended = 0; made = 0; takers = 0; taken = []; marks = 0 }

-- the chunks that all ends took, one end after the other, and how many marks
abbrev pub taken_in_all : List View → List Chunk
taken_in_all views = flat_map (λ (v : View). v.taken) views

abbrev pub marks_in_all : List View → ℕ
marks_in_all views = sum_by (λ (v : View). v.marks) views
