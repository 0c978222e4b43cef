-- What the ends of a lane know of themselves, between calls.
use Rattle.std.specs.Prelude.{◌≡◌, ℕ, Bool, true, false, List, [], ◌++◌, IsPermutation, if◌then◌else◌}
use Rattle.tor_lane.specs.declared.chunk.Message.{Message}
use Rattle.tor_lane.specs.declared.view.View.{View}
use Rattle.tor_lane.specs.Messages.{messages_of, chunks_in, marks_in}

-- the feeder of so many takers, which has taken nothing
abbrev pub IsFeeding : ℕ → View → Type 0
IsFeeding workers v
    = (v.feeds ≡ true) × (v.made ≡ workers) × (v.takers ≡ 0) × (v.taken ≡ []) × (v.marks ≡ 0)

-- a taker, which has taken one mark where it has stopped, and else none
abbrev pub IsTaking : Bool → View → Type 0
IsTaking stopped v = (v.feeds ≡ false) × (v.takers ≡ 1) × (v.marks ≡ (if stopped then 1 else 0))

-- what left the channel is what is known here to be taken
abbrev pub Settles : View → List Message → Type 0
Settles v items =
    (out : List Message)
    × (messages_of v.put v.ended ≡ out ++ items)
    × IsPermutation (chunks_in out) v.taken
    × (marks_in out ≡ v.marks)
