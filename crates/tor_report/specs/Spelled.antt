-- How the user's text is spelled where it is written.
use Rattle.std.specs.Prelude.{ℕ, List, [], ◌∷◌, flat_map}
use Rattle.json.specs.Print.{escape as in_json, escape_byte}
use Rattle.tor_report.specs.Escape.{escape, escape_byte as ascii_byte}
use Rattle.tor_report.specs.declared.spelling.Spelling.{Spelling}
use Rattle.tor_report.specs.declared.spelling.Spelling.TheVariants.{AsIs, InLine, InAscii, InJson, AsciiInJson}

-- what stands for a byte
abbrev pub spelled_byte : Spelling → ℕ → List ℕ
spelled_byte AsIs byte = byte ∷ []
spelled_byte InLine byte = escape byte
spelled_byte InAscii byte = ascii_byte byte
spelled_byte InJson byte = escape_byte byte
spelled_byte AsciiInJson byte = in_json (ascii_byte byte)

-- what stands for a text: itself, or the text escaped for a line, a line of ASCII, a string of JSON, or such a line in
-- a string of JSON (RFC 8259, 7; profile)
abbrev pub spelled : Spelling → List ℕ → List ℕ
spelled spelling text = flat_map (spelled_byte spelling) text
