-- the parts so far are there
use Rattle.std.proofs.Common.{◌≡◌, true, take}
use Rattle.std.specs.List.{list_all}
use Rattle.tor_engine.specs.There.{is_part_within}
use Rattle.tor_engine.proofs.pieces.present.is_there.Given as goal

abbrev pub invariant-parts : goal.invariant-parts
invariant-parts l = list_all (is_part_within l.told) (take l.part-index l.part-items) ≡ true
