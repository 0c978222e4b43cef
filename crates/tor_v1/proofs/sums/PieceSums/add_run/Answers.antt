-- eight pieces at once, where none is begun
use Rattle.std.proofs.Common.{refl}
use Rattle.tor_v1.proofs.RunSums.{adds_run, room_run, room_after}
use Rattle.tor_v1.proofs.sums.PieceSums.add_run.Goals as goal

pub end_run-requires-clause-room : goal.end_run-requires-clause-room
end_run-requires-clause-room c =
    room_run 8 c.args.self.now _ c.requires.fits.none c.requires.length c.requires.room

pub returns-clause-fed : goal.returns-clause-fed
returns-clause-fed c = λ p before fed.
    adds_run 8 c.args.self.now p before fed _ c.args.run.now c.requires.fits.none c.requires.length refl
    c.requires.fits.none refl c.end_run.ensures.hashed

pub returns-clause-room : goal.returns-clause-room
returns-clause-room c = λ later room.
    room_after 8 c.args.self.now _ later _ _ c.requires.fits.none c.requires.length c.end_run.ensures.len
    c.end_run.ensures.capacity room
