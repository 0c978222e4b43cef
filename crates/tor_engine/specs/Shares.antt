-- What one worker did with the units that it claimed at a board.
use Rattle.std.specs.Prelude.{◌≡◌, ℕ, List, ◌++◌, map, reverse}
use Rattle.tor_board.specs.Desks.{Desk, GivenUnit}
use Rattle.tor_engine.specs.declared.workers.worker_share.Share.{Share}
use Rattle.tor_sums.specs.declared.unit_sums.UnitSums.{UnitSums}

-- a unit's number, and the hash that it was given with
abbrev pub given_pairs : List GivenUnit → List (ℕ × List ℕ)
given_pairs given = map (λ (g : GivenUnit). (g.unit, g.hash)) given

abbrev pub unit_pair : UnitSums → ℕ × List ℕ
unit_pair sums = (sums.unit, sums.hash)

-- what a worker gave and was told since it began. It is in the order of its gives, each unit with its hash; the seat's
-- lists have the newest first, the share's the oldest (profile)
pub record IsShareOf (old new : Desk) (share : Share UnitSums) : Type 0 where
  pub news : List GivenUnit
  pub given : new.given ≡ news ++ old.given
  pub units : given_pairs news ≡ reverse (map unit_pair share.units.items)
  pub tops : new.tops ≡ reverse share.tops.items ++ old.tops
