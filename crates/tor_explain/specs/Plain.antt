-- Texts that stand in one line.
use Rattle.std.specs.Prelude.{◌==◌, ◌||◌, ◌≢◌, ◌≤◌, ℕ, Bool, false, not, List, [], ◌∷◌, length, nat_lt}
use Rattle.std.specs.List.{All}
use Rattle.tor_explain.specs.declared.line.TheConstants.{MAX_TEXT}

-- the least byte that is no control byte
abbrev pub space : ℕ
space = 32

-- the byte DEL of ASCII
abbrev pub delete : ℕ
delete = 127

-- a byte that is no control byte of ASCII
abbrev pub IsPlain : ℕ → Type 0
IsPlain byte = (space ≤ byte) × (byte ≢ delete)

-- a text without control bytes, of at most 1,024 bytes (profile)
pub record IsPlainText (text : List ℕ) : Type 0 where
  pub plain : All IsPlain text
  pub short : length text ≤ MAX_TEXT

-- the character is a control byte
abbrev pub is_control : ℕ → Bool
is_control c = nat_lt c space || (c == delete)

-- words that begin with a character of ASCII that is no control byte
abbrev pub begins_plain : List ℕ → Bool
begins_plain [] = false
begins_plain (byte ∷ bytes) = not (is_control byte)
