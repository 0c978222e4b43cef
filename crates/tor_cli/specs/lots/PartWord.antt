-- The word for one part of so many.
use Rattle.std.specs.Prelude.{◌≡◌, ◌<◌, ◌≤◌, ◌++◌, ℕ, List, codes}
use Rattle.tor_bencode.specs.Spelling.{base_ten}
use Rattle.tor_parts.specs.declared.lot_text.TheConstants.{MAX_LOTS}

-- the word for a lot: its number, counted from 0, a slash, and how many there are, from 1 to 65,536 (profile)
pub record IsPartWord (text : List ℕ) (number lots : ℕ) : Type 0 where
  pub spelled : text ≡ base_ten number ++ (codes "/" ++ base_ten lots)
  pub within : number < lots
  pub few : lots ≤ MAX_LOTS
