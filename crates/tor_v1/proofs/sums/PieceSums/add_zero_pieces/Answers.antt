-- whole pieces of zeros at once, where none is begun
use Rattle.std.proofs.Common.{◌++◌, ◌*◌, ap, arith, ◌∙◌, refl, replicate}
use Rattle.std.specs.List.{flat_map}
use Rattle.tor_v1.proofs.RunSums.{adds_run, room_run, room_after, sums_of_same}
use Rattle.tor_v1.proofs.Zeros.{length-zeros}
use Rattle.tor_v1.proofs.sums.PieceSums.add_zero_pieces.Goals as goal

pub push_often-requires : goal.push_often-requires
push_often-requires c = room_run c.args.count c.args.self.now _ c.requires.none refl c.requires.room

pub returns-clause-fed : goal.returns-clause-fed
returns-clause-fed c = λ p before fed.
    let old = c.args.self.now in
    let count = c.args.count in
    let some = old.allowed.0 in
    adds_run count old p before fed _ _ c.requires.none (length-zeros (count * old.piece_length)) refl c.requires.none
    refl
    (c.push_often.ensures.joined
    ∙ ap (λ sum. old.sums.items ++ flat_map (λ x. x) (replicate count sum)) c.sum_of_zeros-sum.ensures.value
    ∙ ap (λ xs. old.sums.items ++ xs) (sums_of_same old.piece_length (omega arith) count))

pub returns-clause-room : goal.returns-clause-room
returns-clause-room c = λ later room.
    room_after c.args.count c.args.self.now _ later _ _ c.requires.none refl c.push_often.ensures.len
    c.push_often.ensures.capacity room
