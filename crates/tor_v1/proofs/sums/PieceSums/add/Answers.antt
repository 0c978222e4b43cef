-- each part and each run is within what is left
use Rattle.std.proofs.lemmas.Grind.{common_steps}
use Rattle.std.proofs.Common.{◌≡◌, ℕ, ◌+◌, ◌≤◌, List, ◌++◌, length, arith, sym, ap, ap₂, ◌∙◌, subst, add-zero}
use Rattle.std.proofs.Common.{append_assoc, take-append-drop}
use Rattle.tor_v1.specs.Feeding.{HasFed, Feeds}
use Rattle.tor_v1.specs.steps.Room.{HasRoom}
use Rattle.tor_v1.specs.declared.sums.PieceSums.{PieceSums}
use Rattle.tor_v1.proofs.Fed.{room_less}
use Rattle.tor_v1.proofs.sums.PieceSums.add.Goals as goal

-- there is room for a part of what is left
room_of_part : (first sums : PieceSums) (all left part : ℕ) → part ≤ left
    → ((later : ℕ) → HasRoom first (all + later) → HasRoom sums (left + later)) → HasRoom first all → HasRoom sums part
room_of_part first sums all left part le rooms room =
    room_less sums (left + 0) part (omega arith) (rooms 0 (subst (HasRoom first) (sym (add-zero all)) room))

-- a part of what is left was fed
fed_part : (first sums next : PieceSums) (taken part later left all : List ℕ) → part ++ later ≡ left
    → taken ++ left ≡ all → Feeds first sums taken → Feeds sums next part
    → (more : List ℕ) × (more ++ later ≡ all) × Feeds first next more
fed_part first sums next taken part later left all cut whole before fed = (
  taken ++ part,
  append_assoc taken part later ∙ ap (λ xs. taken ++ xs) cut ∙ whole,
  λ p bytes held. subst (HasFed next p) (append_assoc bytes taken part) (fed p (bytes ++ taken) (before p bytes held)),
)

-- and there is room for the rest
room_of_rest : (first sums next : PieceSums) (all left : ℕ) (part later : ℕ) → part + later ≡ left
    → ((more : ℕ) → HasRoom first (all + more) → HasRoom sums (left + more))
    → ((more : ℕ) → HasRoom sums (part + more) → HasRoom next more)
    → (more : ℕ) → HasRoom first (all + more) → HasRoom next (later + more)
room_of_rest first sums next all left part later cut before after more room =
    after (later + more) (subst (HasRoom sums) (let e : left + more ≡ part + (later + more) = omega arith in e)
    (before more room))

pub add_to_piece-requires-clause-room : goal.add_to_piece-requires-clause-room
add_to_piece-requires-clause-room c =
    let cut = c.split_at-else-takes_run.ensures in
    room_of_part c.args.self.now c.parts.self _ (length c.parts.rest.now) _ (omega (arith, cut.front_len, cut.back_len))
    c.parts.invariant.room c.requires

pub add_run-requires-clause-room : goal.add_run-requires-clause-room
add_run-requires-clause-room c =
    let cut = c.split_at.ensures in
    room_of_part c.args.self.now c.parts.self _ (length c.parts.rest.now) _ (omega (arith, cut.front_len, cut.back_len))
    c.parts.invariant.room c.requires

pub parts-preserved : goal.parts-preserved
parts-preserved c =
    let part = c.split_at-else-takes_run.result.0.now in
    let later = c.split_at-else-takes_run.result.1.now in
    let cut = c.split_at-else-takes_run.ensures in
    let fed = c.parts.invariant.fed in
    record {
      fed =
          fed_part c.args.self.now c.parts.self c.add_to_piece.new.self fed.0 part later c.parts.rest.now _
          (ap₂ (λ xs ys. xs ++ ys) cut.front cut.back ∙ take-append-drop c.min-length.result c.parts.rest.now)
          fed.1 fed.2 c.add_to_piece.ensures.fed;
      room =
          room_of_rest c.args.self.now c.parts.self c.add_to_piece.new.self _ (length c.parts.rest.now)
          (length part) (length later) (omega (arith, cut.front_len, cut.back_len))
          c.parts.invariant.room c.add_to_piece.ensures.room;
    }

pub parts-preserved-then-takes_run : goal.parts-preserved-then-takes_run
parts-preserved-then-takes_run c =
    let run = c.split_at.result.0.now in
    let later = c.split_at.result.1.now in
    let cut = c.split_at.ensures in
    let fed = c.parts.invariant.fed in
    record {
      fed =
          fed_part c.args.self.now c.parts.self c.add_run.new.self fed.0 run later c.parts.rest.now _
          (ap₂ (λ xs ys. xs ++ ys) cut.front cut.back ∙ take-append-drop _ c.parts.rest.now)
          fed.1 fed.2 c.add_run.ensures.fed;
      room =
          room_of_rest c.args.self.now c.parts.self c.add_run.new.self _ (length c.parts.rest.now)
          (length run) (length later) (omega (arith, cut.front_len, cut.back_len))
          c.parts.invariant.room c.add_run.ensures.room;
    }

pub returns-clause-fed : goal.returns-clause-fed
returns-clause-fed c = grind (arith, common_steps)
