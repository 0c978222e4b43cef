-- Two runs of the machine, worked, and what is no event of it.
use Rattle.std.specs.Prelude.{◌≡◌, ℕ, ◌<◌, true, List, [], ◌∷◌, Some, None}
use Rattle.tor_merkle.specs.Stack.{padded_root}
use Rattle.tor_plan.specs.declared.forests.Run.{Run}
use Rattle.tor_board.specs.Desks.{Desk, Way, first, spent}
use Rattle.tor_board.specs.Machine.{Event, Machine, look, claim, hand, arrive, seal, fail, split, join, start, side_of}
use Rattle.tor_board.specs.Machine.{times_arrived, IsStep}

-- The first: units 0 and 1 of one tree, and unit 2 of none. A seat claims, is split, the two give the tree's units, the
-- second to arrive joins and seals, unit 2 fails, the other seat sees it, and the two are joined.
abbrev pub two_units : Run
two_units = record { first = 0; count = 2; level = 0 }

abbrev pub forest : List Run
forest = two_units ∷ []

-- of two seats, the last event first
abbrev pub events : List ℕ → List ℕ → List (ℕ × Event)
events a b = (0, join 1) ∷ (1, look) ∷ (0, fail 2) ∷ (0, claim) ∷ (0, look) ∷ (1, seal) ∷ (1, arrive) ∷ (1, hand 1 b)
    ∷ (0, arrive) ∷ (0, hand 0 a)
    ∷ (1, claim) ∷ (1, look) ∷ (0, split) ∷ (0, claim) ∷ (0, look) ∷ []

abbrev pub left : Way
left = record { tree = 0; run = two_units; level = 0; index = 0 }

abbrev pub right : Way
right = record left { index = 1 }

abbrev pub last_seat : List ℕ → List ℕ → Desk
last_seat a b = record first {
  given = record { unit = 0; hash = a; joined = 0 } ∷ record { unit = 1; hash = b; joined = 1 } ∷ [];
  failed = 2 ∷ [];
  done = true;
  arrivals = 2;
  tops = (0, padded_root 0 (a ∷ b ∷ [])) ∷ [];
}

abbrev pub end : List ℕ → List ℕ → Machine
end a b = record {
  claims = 3;
  least = Some 2;
  arrived = side_of right ∷ side_of left ∷ [];
  desks = last_seat a b ∷ spent ∷ [];
}

-- The second: one seat, and a tree of three units, given in order. Unit 2 has no unit beside it, so its hash rises to
-- the right side of the higher node, to which units 0 and 1 have come.
abbrev pub three_units : Run
three_units = record { first = 0; count = 3; level = 0 }

abbrev pub rising_events : List ℕ → List ℕ → List ℕ → List (ℕ × Event)
rising_events a b c = (0, seal) ∷ (0, arrive) ∷ (0, hand 2 c) ∷ (0, arrive) ∷ (0, arrive) ∷ (0, hand 1 b) ∷ (0, arrive)
    ∷ (0, hand 0 a)
    ∷ (0, claim) ∷ (0, look) ∷ (0, claim) ∷ (0, look) ∷ (0, claim) ∷ (0, look) ∷ []

abbrev pub way_to : ℕ → ℕ → Way
way_to level index = record { tree = 0; run = three_units; level = level; index = index }

abbrev pub rising_seat : List ℕ → List ℕ → List ℕ → Desk
rising_seat a b c = record first {
  given = record { unit = 2; hash = c; joined = 1 } ∷ record { unit = 1; hash = b; joined = 1 }
      ∷ record { unit = 0; hash = a; joined = 0 } ∷ [];
  arrivals = 4;
  tops = (0, padded_root 0 (a ∷ b ∷ c ∷ [])) ∷ [];
}

abbrev pub rising_end : List ℕ → List ℕ → List ℕ → Machine
rising_end a b c = record {
  claims = 3;
  least = None;
  arrived = side_of (way_to 1 1) ∷ side_of (way_to 1 0) ∷ side_of (way_to 0 1) ∷ side_of (way_to 0 0) ∷ [];
  desks = rising_seat a b c ∷ [];
}

-- what is no event: a claim with no look before it; a second arrival from one side; a look, a claim or a failure in a
-- climb; a look of a seat that is done
pub record IsExcluded (units : ℕ) (forest : List Run) : Type 0 where
  pub unlooked : (n : Machine) → IsStep units forest start 0 first claim n → ⊥
  pub twice : (m n : Machine) (seat : ℕ) (d : Desk) (w : Way) → d.climb ≡ Some w
      → 0 < times_arrived (side_of w) m.arrived → IsStep units forest m seat d arrive n → ⊥
  pub look_in_climb : (m n : Machine) (seat : ℕ) (d : Desk) (w : Way) → d.climb ≡ Some w
      → IsStep units forest m seat d look n → ⊥
  pub claim_in_climb : (m n : Machine) (seat : ℕ) (d : Desk) (w : Way) → d.climb ≡ Some w
      → IsStep units forest m seat d claim n → ⊥
  pub fail_in_climb : (m n : Machine) (seat : ℕ) (d : Desk) (w : Way) (u : ℕ) → d.climb ≡ Some w
      → IsStep units forest m seat d (fail u) n → ⊥
  pub look_when_done : (m n : Machine) (seat : ℕ) (d : Desk) → d.done ≡ true → IsStep units forest m seat d look n → ⊥
