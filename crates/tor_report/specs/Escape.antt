-- The bytes of a text as they stand in a line.
use Rattle.std.specs.Prelude.{ℕ, ◌/◌, ◌%◌, Bool, ◌==◌, nat_lt, ◌||◌, List, [], ◌∷◌, if◌then◌else◌}
use Rattle.std.specs.Char.{digit_char}
use Rattle.std.specs.List.{flat_map}
use Rattle.std.specs.Str.{is_utf8}

abbrev pub backslash : ℕ
backslash = 92

-- the byte before two hexadecimal digits
abbrev pub letter_x : ℕ
letter_x = 120

-- the byte DEL of ASCII
abbrev pub delete : ℕ
delete = 127

-- a control character of ASCII, or the backslash
abbrev pub is_escaped : ℕ → Bool
is_escaped byte = nat_lt byte 32 || (byte == delete) || (byte == backslash)

-- a byte by its two hexadecimal digits in lower case
abbrev pub code_of : ℕ → List ℕ
code_of byte = backslash ∷ letter_x ∷ digit_char (byte / 16) ∷ digit_char (byte % 16) ∷ []

-- the byte itself, or its digits
abbrev pub escape : ℕ → List ℕ
escape byte = if is_escaped byte then code_of byte else byte ∷ []

-- bytes 0 to 31, 127 and the backslash as `\x` and two hexadecimal digits (profile)
abbrev pub escaped : List ℕ → List ℕ
escaped text = flat_map escape text

-- a byte as it stands in a line of ASCII
abbrev pub escape_byte : ℕ → List ℕ
escape_byte byte = if nat_lt byte 128 then escape byte else code_of byte

-- bytes that are no text in a line: those that are not of ASCII are written out too
abbrev pub in_ascii : List ℕ → List ℕ
in_ascii bytes = flat_map escape_byte bytes

-- bytes in a line, whether they are text or not (profile)
abbrev pub escaped_bytes : List ℕ → List ℕ
escaped_bytes bytes = if is_utf8 bytes then escaped bytes else in_ascii bytes

-- bytes as text, which they are, or are made
abbrev pub printable : List ℕ → List ℕ
printable bytes = if is_utf8 bytes then bytes else in_ascii bytes
