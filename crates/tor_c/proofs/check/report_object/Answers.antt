-- The text that fits, and the one that does not.
use Rattle.std.proofs.Common.{refl}
use Rattle.tor_c.specs.steps.Told.{object_of}
use Rattle.tor_c.proofs.Reported.{has_room, lacks_room}
use Rattle.tor_c.proofs.check.report_object.Goals as goal

pub returns-then-length-room : goal.returns-then-length-room
returns-then-length-room c =
    lacks_room (object_of c.args.root.now c.args.judged.now) c.args.room.now _ _ c.in-Some.length c.in-Some.ensures
    c.if-length-room.true c.of_text.ensures refl

pub returns-in-Ok : goal.returns-in-Ok
returns-in-Ok c =
    has_room (object_of c.args.root.now c.args.judged.now) c.args.room.now _ _ c.in-Some.length c.in-Some.ensures
    c.if-length-room.false c.of_text-in-Ok.ensures c.in-Ok.ensures.written
