-- zeros of whole pieces, and of one
use Rattle.std.proofs.Common.{◌≡◌, ℕ, zero, suc, ◌+◌, ◌-◌, ◌*◌, ◌/◌, ◌<◌, ◌≤◌, length, arith, ap, ◌∙◌, subst}
use Rattle.tor_v1.specs.steps.Room.{HasRoom}
use Rattle.tor_v1.proofs.Fed.{room_less}
use Rattle.tor_v1.proofs.Zeros.{length-zeros}
use Rattle.tor_v1.proofs.sums.PieceSums.add_zeros.Goals as goal

within_left : (left p : ℕ) → 0 < p → left / p * p ≤ left
within_left left p some = omega arith

some_times : (count p : ℕ) → 0 < count → 0 < p → 0 < count * p
some_times zero p many some = absurd (omega (arith, many))
some_times (suc count) p many some =
    let e : suc count * p ≡ count * p + p = omega arith in
    omega (arith, some, e)

pub returns-then-whole-gt0-clause-some : goal.returns-then-whole-gt0-clause-some
returns-then-whole-gt0-clause-some c =
    let some : 0 < c.args.self.now.piece_length = omega (arith, c.args.self.now.allowed.0) in
    (some_times _ _ c.if-whole-gt0.true some, within_left c.args.left c.args.self.now.piece_length some)

pub returns-then-whole-gt0-clause-room : goal.returns-then-whole-gt0-clause-room
returns-then-whole-gt0-clause-room c =
    let some : 0 < c.args.self.now.piece_length = omega (arith, c.args.self.now.allowed.0) in
    let within = within_left c.args.left c.args.self.now.piece_length some in
    let count = c.args.left / c.args.self.now.piece_length * c.args.self.now.piece_length in
    c.add_zero_pieces.ensures.room _ (subst (HasRoom c.args.self.now)
    (let e : c.args.left ≡ count + (c.args.left - count) = omega (arith, within) in e) c.requires.room)

pub add_to_piece-requires-clause-within : goal.add_to_piece-requires-clause-within
add_to_piece-requires-clause-within c =
    let long = ap length c.zeros.ensures ∙ length-zeros c.min-count.result in
    omega (arith, long, c.min-count.ensures, c.args.self.now.within)

pub add_to_piece-requires-clause-room : goal.add_to_piece-requires-clause-room
add_to_piece-requires-clause-room c =
    let long = ap length c.zeros.ensures ∙ length-zeros c.min-count.result in
    room_less c.args.self.now _ _ (omega (arith, long, c.min-count.ensures, c.min-most.ensures)) c.requires.room

pub returns-clause-room : goal.returns-clause-room
returns-clause-room c =
    let long = ap length c.zeros.ensures ∙ length-zeros c.min-count.result in
    c.add_to_piece.ensures.room _ (subst (HasRoom c.args.self.now)
    (let e : c.args.left ≡ length c.zeros.result.now + (c.args.left - c.min-count.result) =
    omega (arith, long, c.min-count.ensures, c.min-most.ensures) in e) c.requires.room)
