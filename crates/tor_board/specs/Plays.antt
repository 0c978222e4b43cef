-- What each step tells: of the step, the seat before, the number found and the seat after.
use Rattle.std.specs.Prelude.{◌≡◌, ◌≢◌, ℕ, ◌-◌, ◌/◌, ◌%◌, ◌<◌, ◌≤◌, true, false, List, [], ◌∷◌, Option, Some, None}
use Rattle.atomic_table.specs.Table.{Me, Step}
use Rattle.tor_board.specs.Weights.{only}
use Rattle.tor_board.specs.Rule.{nobody}
use Rattle.tor_board.specs.Climb.{Climb}
use Rattle.tor_board.specs.Desks.{Has}
use Rattle.tor_board.specs.Rising.{climb_from, climbed, other_slot}
use Rattle.tor_board.specs.Trees.{middle, word_of, slot_of, has_unit}
use Rattle.tor_board.specs.Views.{named, looking, finished, holding, ended, handed, rested, joining, topped, failing}
use Rattle.tor_board.specs.declared.tree.Tree.{Tree}
use Rattle.tor_board.specs.declared.view.View.{View}

-- a seat of the table: what it knows, and its slots
abbrev pub Seated : Type 0
Seated = Me (List ℕ) View

abbrev pub Tells : Type 1
Tells = Step (List ℕ) → Seated → ℕ → Seated → Type 0

-- the seat is there, and in no climb
abbrev pub IsFree : View → Type 0
IsFree v = (0 < v.room) × (v.climb ≡ None)

-- none has failed, and so none of this seat's; or the seat is done
abbrev pub looked : Tells
looked st m n after =
    (n ≡ nobody → (after ≡ (looking m.0, m.1)) × (m.0.failed ≡ []))
    × (n ≢ nobody → after ≡ (finished m.0, m.1))
    × (st.word ≡ 1) × IsFree m.0 × (m.0.done ≡ false)

-- after its look the seat holds the unit that was found, which it did not name, or is done; the step adds 1
abbrev pub claimed : Tells
claimed st m n after =
    (n < m.0.units → (after ≡ (holding m.0 n, m.1)) × (named (only n) m.0 ≡ 0))
    × (m.0.units ≤ n → after ≡ (ended m.0, m.1))
    × (st.word ≡ 0) × IsFree m.0 × (m.0.done ≡ false) × (m.0.looked ≡ true) × (st.first ≡ 1)

-- a held unit is given; in a tree that has it its climb begins, and the seat takes the slot to which the hash rises.
-- What is given is no operand of the step, so this is told for each tree, unit and hash
abbrev pub gave : Option Tree → ℕ → List ℕ → Tells
gave None u hash st m n after = (after ≡ (handed m.0 u hash None, m.1)) × (st.word ≡ 0) × IsFree m.0 × Has m.0.held u
gave (Some t) u hash st m n after =
    let c = climb_from t 0 (u - t.first) hash [] in
    ((z : List ℕ) × (after ≡ (handed m.0 u hash (Some c), (c.slot, z) ∷ m.1))) × (st.word ≡ 0) × IsFree m.0
    × Has m.0.held u × (has_unit t u ≡ true)

-- of the climb c: the first to arrive rests, and its slot is at home; the second has the other side's slot and that of
-- its node, and climbs on
abbrev pub arrived_from : Climb → Seated → ℕ → Seated → Type 0
arrived_from c m n after = (n < 2)
    × (n ≡ 0 → after ≡ (rested m.0, []))
    × (n ≡ 1 → (x : List ℕ) × (z : List ℕ)
    × (after ≡ (joining m.0 (climbed c x), (other_slot c, x) ∷ ((climbed c x).slot, z) ∷ [])))

-- the climb stands at a side of a node, whose word that is
abbrev pub IsAtNode : Climb → ℕ → Type 0
IsAtNode c word =
    let m = middle c.level (c.index / 2) in (m < c.tree.count) × (c.slot ≡ slot_of c.tree m (c.index % 2))
    × (word ≡ word_of c.tree m)

-- the step adds 1
abbrev pub arrived : Tells
arrived st m n after =
    ((c : Climb) → m.0.climb ≡ Some c → arrived_from c m n after × IsAtNode c st.word)
    × (0 < m.0.room) × (c : Climb) × (m.0.climb ≡ Some c) × (st.first ≡ 1)

-- the tree's root is told, and its slot is at home
abbrev pub sealed_from : Climb → Seated → Seated → Type 0
sealed_from c m after = after ≡ (topped m.0 c.tree.number c.hash, [])

-- the climb stands at the top of its tree
abbrev pub IsAtTop : Climb → Type 0
IsAtTop c = (c.level ≡ c.tree.height) × (c.index ≡ 0) × (c.slot ≡ slot_of c.tree 0 0)

abbrev pub sealed : Tells
sealed st m n after =
    ((c : Climb) → m.0.climb ≡ Some c → sealed_from c m after × IsAtTop c)
    × (st.word ≡ 0) × (0 < m.0.room) × (c : Climb) × (m.0.climb ≡ Some c)

abbrev pub failed : Tells
failed st m n after = (after ≡ (failing m.0 st.first, m.1)) × (st.word ≡ 1) × IsFree m.0 × Has m.0.held st.first
