-- bytes that begin no piece need no memory
use Rattle.std.proofs.Common.{length}
use Rattle.std.proofs.lemmas.Bool.{false≢true}
use Rattle.tor_v1.proofs.Fed.{room_within}
use Rattle.tor_v1.proofs.sums.PieceSums.feed.Goals as goal

pub returns-in_err-make_room-clause-within : goal.returns-in_err-make_room-clause-within
returns-in_err-make_room-clause-within c = λ p bytes fed le.
    absurd (false≢true
    (c.in_err-make_room.ensures.there (room_within c.args.self.now p bytes fed (length c.args.part.now) le)))
