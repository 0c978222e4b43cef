-- The words of a magnet link beside its topics (BEP 9, "magnet URI format").
use Rattle.std.specs.Prelude.{ℕ, ◌==◌, ◌||◌, Bool, List, [], ◌∷◌, ◌++◌, Option, None, Some, flat_map, if◌then◌else◌}
use Rattle.std.specs.Prelude.{codes, nat_le, ◌&&◌}
use Rattle.std.specs.List.{list_any}
use Rattle.percent_encoding.specs.Percent.{percent_encode_byte}

-- a letter or a digit of ASCII
abbrev pub is_alphanumeric : ℕ → Bool
is_alphanumeric byte =
    (nat_le 65 byte && nat_le byte 90) || ((nat_le 97 byte && nat_le byte 122) || (nat_le 48 byte && nat_le byte 57))

-- a letter, a digit, `-`, `.`, `_` or `~` (RFC 3986, "Unreserved Characters")
abbrev pub is_unreserved : ℕ → Bool
is_unreserved byte = is_alphanumeric byte || list_any (λ mark. byte == mark) (codes "-._~")

-- a text in a link: a byte that is unreserved as it is, any other as `%` and its two digits in base sixteen (RFC 3986,
-- "Percent-Encoding")
abbrev pub link_text : List ℕ → List ℕ
link_text bytes = flat_map (λ byte. if is_unreserved byte then byte ∷ [] else percent_encode_byte byte) bytes

-- what stands before a text, and the text, if there is one: `dn` has the name, `tr` a tracker (BEP 9, "magnet URI
-- format")
abbrev pub link_word : List ℕ → Option (List ℕ) → List ℕ
link_word before None = []
link_word before (Some text) = before ++ link_text text
