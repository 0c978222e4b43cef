-- The items of an array of JSON, one after another. Only private clauses cite this.
use Rattle.std.specs.Prelude.{ℕ, Bool, true, List, [], ◌∷◌, ◌++◌}
use Rattle.serde_json.specs.Data.{Data}
use Rattle.serde_json.specs.Written.{comma_if, compact_text}

-- items, with a comma before each that others stand before; `later` if some stand before the first
abbrev pub items_front : Bool → List Data → List ℕ
items_front later [] = []
items_front later (one ∷ others) = comma_if later ++ (compact_text one ++ items_front true others)

-- if some stand before what comes after them
abbrev pub are_any : Bool → List Data → Bool
are_any later [] = later
are_any later (one ∷ others) = are_any true others
