-- What steps of a lane's ends, in any order, can lead to.
use Rattle.std.specs.Prelude.{◌≡◌, ◌≢◌, ℕ, ◌*◌, ◌<◌, true, false, List, [], ◌∷◌, ◌++◌, length, slice_set}
use mathlib.Core.Option.{some}
use lib.ListN.{get_elem?}
use Rattle.tor_lane.specs.declared.chunk.Message.{Message}
use Rattle.tor_lane.specs.declared.view.View.{View}
use Rattle.tor_lane.specs.Rule.{CanPut, CanTake}
use Rattle.tor_lane.specs.Views.{first, putting, taking, making, fresh, both, spent}

-- what the steps of a lane's ends can lead to, in any order. A lane begins; its feeder makes a taker; it sends while
-- fewer than two messages a taker are in the channel; a taker receives, until its mark; an end learns what another did
-- that does not feed, and of which nothing is left (profile)
pub data IsReached : List Message → List View → Type 0 where
  begins : IsReached [] (first ∷ [])
  makes : (items : List Message) (views : List View) (at : ℕ) (v : View) → IsReached items views
      → get_elem? views at ≡ some v → v.feeds ≡ true
      → IsReached items (slice_set views at (making v) ++ fresh v ∷ [])
  sends : (items : List Message) (views : List View) (at : ℕ) (v : View) (x : Message) → IsReached items views
      → get_elem? views at ≡ some v → CanPut v x → length items < 2 * v.made
      → IsReached (items ++ x ∷ []) (slice_set views at (putting v x))
  receives : (items : List Message) (views : List View) (at : ℕ) (v : View) (x : Message)
      → IsReached (x ∷ items) views → get_elem? views at ≡ some v → CanTake v
      → IsReached items (slice_set views at (taking v x))
  learns : (items : List Message) (views : List View) (at other : ℕ) (v w : View) → IsReached items views
      → get_elem? views at ≡ some v → get_elem? views other ≡ some w → other ≢ at → w.feeds ≡ false
      → IsReached items (slice_set (slice_set views at (both v w)) other spent)
