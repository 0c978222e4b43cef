-- What the feeder knows once it has learned what one taker more did.
use Rattle.std.proofs.Common.{◌≡◌, ℕ, ◌+◌, List, [], ◌∷◌, ◌++◌, length, ap, ◌∙◌, arith, if◌then◌else◌}
use Rattle.std.specs.List.{flat_map}
use Rattle.std.proofs.lemmas.List.{flat_map_more, length_push}
use Rattle.crossbeam_channel.specs.Claims.{view}
use Rattle.tor_lane.specs.declared.taker.Taker.{Taker}
use Rattle.tor_lane.specs.declared.view.View.{View}
use Rattle.tor_lane.specs.Lane.{IsAtMark, taken_by}
use Rattle.tor_lane.specs.Views.{both}
use Rattle.tor_lane.specs.steps.Ends.{IsFeeding}

-- the feeder that knew f, and has learned what those takers did
abbrev pub knowing : View → List Taker → View
knowing f ts = record f { takers = length ts; taken = flat_map taken_by ts; marks = length ts }

-- at first it knows of none
pub knows_none : (workers : ℕ) (f : View) → IsFeeding workers f → f ≡ knowing f []
knows_none workers f is = λ i. record f { takers = is.2 i; taken = is.3 i; marks = is.4 i }

pub absorbed : (f : View) (ys : List Taker) (t : Taker) → IsAtMark t
    → both (knowing f ys) (view t.pass) ≡ knowing f (ys ++ t ∷ [])
absorbed f ys t stopped =
    let one : (view t.pass).takers ≡ 1 = t.taking.1 in
    let mark : (view t.pass).marks ≡ 1 = t.taking.2 ∙ ap (λ b. if b then 1 else 0) stopped in
    let more = length_push ys t in
    let takers : length ys + (view t.pass).takers ≡ length (ys ++ t ∷ []) = omega arith in
    let marks : length ys + (view t.pass).marks ≡ length (ys ++ t ∷ []) = omega arith in
    λ i. record f { takers = takers i; taken = flat_map_more taken_by [] ys t i; marks = marks i }
