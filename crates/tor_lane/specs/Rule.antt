-- The rule of a lane's channel, over the messages in it, the oldest first, and what all ends know.
use Rattle.std.specs.Prelude.{◌≡◌, ℕ, ◌+◌, ◌*◌, ◌<◌, ◌≤◌, true, false, List, [], ◌++◌, length, IsPermutation}
use Rattle.std.specs.List.{sum_by}
use mathlib.Core.Option.{some}
use lib.ListN.{get_elem?}
use Rattle.tor_lane.specs.declared.chunk.Chunk.{Chunk}
use Rattle.tor_lane.specs.declared.chunk.Message.{Message}
use Rattle.tor_lane.specs.declared.chunk.Message.TheVariants.{More, Mark}
use Rattle.tor_lane.specs.declared.view.View.{View}
use Rattle.tor_lane.specs.Messages.{messages_of, chunks_in, marks_in}
use Rattle.tor_lane.specs.Views.{taken_in_all, marks_in_all}

-- what the end with that number knows, if it is the feeder's
abbrev pub Feeds : ℕ → List Chunk → ℕ → ℕ → ℕ → View → Type 0
Feeds feeder put ended made at v =
    v.feeds ≡ true → (at ≡ feeder) × (v.put ≡ put) × (v.ended ≡ ended) × (v.made ≡ made)

-- an end that has nobody's right to take took nothing, and none took more marks than it has rights
abbrev pub TakesByRight : View → Type 0
TakesByRight v = (v.takers ≡ 0 → v.taken ≡ []) × (v.marks ≤ v.takers)

-- the end with that number feeds
abbrev pub IsFed : ℕ → List View → Type 0
IsFed feeder views = (v : View) × (get_elem? views feeder ≡ some v) × (v.feeds ≡ true)

-- what every step keeps: one end feeds, and what it put was taken or is in the channel. Chunks and then marks were put,
-- and leave in that order; what left the channel is what the ends took, each once; there are at most two messages and
-- one mark a taker (profile)
pub record Keeps (items : List Message) (views : List View) : Type 0 where
  -- the number of the one end that feeds, and what it did
  pub feeder : ℕ
  pub fed : IsFed feeder views
  pub put : List Chunk
  pub ended : ℕ
  pub made : ℕ
  -- what left the channel
  pub out : List Message
  -- chunks and then marks were put, and leave in that order
  pub order : messages_of put ended ≡ out ++ items
  -- the chunks that left are those that the ends took, each once; so are the marks
  pub chunks : IsPermutation (chunks_in out) (taken_in_all views)
  pub marks : marks_in out ≡ marks_in_all views
  -- of each taker that was made one end has the right to take
  pub takers : sum_by (λ (v : View). v.takers) views ≡ made
  pub few : length items ≤ 2 * made
  -- at most one mark is put for each
  pub one_each : ended ≤ made
  pub feeds : (at : ℕ) (v : View) → get_elem? views at ≡ some v → Feeds feeder put ended made at v
  pub rights : (at : ℕ) (v : View) → get_elem? views at ≡ some v → TakesByRight v

-- the feeder puts chunks before its marks, and at most one mark for each taker (profile)
abbrev pub CanPut : View → Message → Type 0
CanPut v (More c) = (v.feeds ≡ true) × (v.ended ≡ 0)
CanPut v Mark = (v.feeds ≡ true) × (v.ended < v.made)

-- a taker takes until its mark. It is one taker, and no feeder (profile)
abbrev pub CanTake : View → Type 0
CanTake v = (v.feeds ≡ false) × (v.takers ≡ 1) × (v.marks ≡ 0)

-- one end feeds, and no other (profile)
abbrev pub HasOneFeeder : List View → Type 0
HasOneFeeder views = (feeder : ℕ) × IsFed feeder views
    × ((at : ℕ) (v : View) → get_elem? views at ≡ some v → v.feeds ≡ true → at ≡ feeder)

-- what all ends took, with what is in the channel, is what the feeder put, each chunk once and unchanged. Chunks leave
-- in the order in which they were put, and in the channel they stand before marks; there are at most two messages and
-- one mark a taker. Of each taker one end has the right to take, and what an end took it had the right to: nothing
-- without one, and one mark by each. The feeder is the end that knows v (profile)
pub record IsAllThere (items : List Message) (views : List View) (v : View) : Type 0 where
  pub chunks : IsPermutation v.put (taken_in_all views ++ chunks_in items)
  pub marks : v.ended ≡ marks_in_all views + marks_in items
  pub order : (out : List Message) × (messages_of v.put v.ended ≡ out ++ items)
      × IsPermutation (chunks_in out) (taken_in_all views)
  pub last : items ≡ messages_of (chunks_in items) (marks_in items)
  pub few : length items ≤ 2 * v.made
  pub one_each : v.ended ≤ v.made
  pub takers : sum_by (λ (u : View). u.takers) views ≡ v.made
  pub rights : (at : ℕ) (u : View) → get_elem? views at ≡ some u → TakesByRight u
