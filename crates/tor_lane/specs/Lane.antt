-- What clauses say of the two ends of a lane.
use Rattle.std.specs.Prelude.{◌≡◌, ℕ, true, List}
use Rattle.crossbeam_channel.specs.Claims.{view}
use Rattle.crossbeam_channel.specs.Ends.{sends_on, receives_on, ruled_capacity}
use Rattle.tor_lane.specs.declared.chunk.Chunk.{Chunk}
use Rattle.tor_lane.specs.declared.feeder.Feeder.{Feeder}
use Rattle.tor_lane.specs.declared.taker.Taker.{Taker}

-- the chunks that a feeder has put, in order (profile)
abbrev pub put_by : Feeder → List Chunk
put_by f = (view f.pass).put

-- no mark is put yet (profile)
abbrev pub IsOpen : Feeder → Type 0
IsOpen f = (view f.pass).ended ≡ 0

-- a mark is put for each taker (profile)
abbrev pub IsEnded : Feeder → Type 0
IsEnded f = (view f.pass).ended ≡ f.workers

-- how many takers its lane has
abbrev pub takers_of : Feeder → ℕ
takers_of f = f.workers

-- how many messages its channel holds at most
abbrev pub room_of : Feeder → ℕ
room_of f = ruled_capacity (sends_on f.to)

-- g feeds the lane that f feeds
abbrev pub FeedsLaneOf : Feeder → Feeder → Type 0
FeedsLaneOf f g = (sends_on g.to ≡ sends_on f.to) × (g.workers ≡ f.workers)

-- the chunks that a taker has taken, in order (profile)
abbrev pub taken_by : Taker → List Chunk
taken_by t = (view t.pass).taken

-- the taker has taken its mark (profile)
abbrev pub IsAtMark : Taker → Type 0
IsAtMark t = t.stopped ≡ true

-- the taker is one of the feeder's lane
abbrev pub IsTakerOf : Feeder → Taker → Type 0
IsTakerOf f t = receives_on t.from ≡ sends_on f.to

-- u takes from the lane that t takes from
abbrev pub TakesFromLaneOf : Taker → Taker → Type 0
TakesFromLaneOf t u = receives_on u.from ≡ receives_on t.from
