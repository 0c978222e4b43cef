-- what waited was added at the end
use Rattle.std.proofs.Common.{◌≡◌, ◌++◌, ◌∙◌, [], ap, arith, cond, length-take}
use Rattle.std.proofs.lemmas.List.{take_all}
use Rattle.tor_tree.specs.Kinds.{has_v1}
use Rattle.tor_v1.specs.Piece.{piece_sums}
use Rattle.tor_sums.specs.steps.Room.{held_in}
use Rattle.tor_sums.proofs.Waiting.{ended_sums}
use Rattle.tor_sums.proofs.worker.WorkerSums.finish.Goals as goal

pub returns : goal.returns
returns c = λ kind p bytes unit taken.
    let room = c.args.self.room in
    let long = length-take room.held room.bytes.items in
    let all : c.front.result.now ≡ held_in room =
    c.front.ensures.value ∙ take_all c.count_held.result (held_in room) (omega (arith, long, c.count_held.ensures)) in
    let hashes = c.finish.ensures kind p taken.fed_bytes (taken.fed_unit ++ c.front.result.now)
    (c.add_pieces.ensures kind p taken.fed_bytes taken.fed_unit taken.fed) in
    ended_sums kind p bytes unit c.args.self taken c.finish.result.pieces.items
    (hashes.pieces ∙ ap (λ xs. cond (has_v1 kind) (piece_sums p (taken.fed_unit ++ xs)) []) all)
