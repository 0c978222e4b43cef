-- The properties of a file in a file tree (BEP 52, "file tree"), and its attributes (BEP 47, "attr").
use Rattle.std.specs.Prelude.{ℕ, ℤ, pos, unsigned_abs, int_lt, ◌==◌, Bool, false, ◌&&◌, ◌||◌, List, [], length, Option}
use Rattle.std.specs.Prelude.{None, Some, is_some, is_none, unwrap_or, if◌then◌else◌, codes}
use Rattle.tor_bencode.specs.Data.{Data, integer, string, list, dictionary, Pairs, no_pairs, pair}
use Rattle.tor_bencode.specs.Find.{value_of}
use Rattle.tor_tree.specs.Letters.{letters}
use Rattle.tor_tree.specs.Name.{has_byte}
use Rattle.tor_tree.specs.declared.attr.Attr.{Attr}

abbrev pub as_integer : Option Data → Option ℤ
as_integer None = None
as_integer (Some (integer n)) = Some n
as_integer (Some (string bytes)) = None
as_integer (Some (list items)) = None
as_integer (Some (dictionary pairs)) = None

abbrev pub as_string : Option Data → Option (List ℕ)
as_string None = None
as_string (Some (integer n)) = None
as_string (Some (string bytes)) = Some bytes
as_string (Some (list items)) = None
as_string (Some (dictionary pairs)) = None

-- `attr` is there
abbrev pub has_attr : Data → Bool
has_attr file = is_some (value_of (codes "attr") file)

-- the letters of `attr`, if it is absent or a byte string
abbrev pub letters_of : Data → Option (List ℕ)
letters_of file = if is_none (value_of (codes "attr") file) then Some [] else as_string (value_of (codes "attr") file)

-- a dictionary with an integer `length`, whose `attr`, if it is there, is a byte string
abbrev pub are_properties : Data → Bool
are_properties file =
    is_some (as_integer (value_of (codes "length") file))
    && (is_none (value_of (codes "attr") file) || is_some (as_string (value_of (codes "attr") file)))

abbrev pub signed_length : Data → ℤ
signed_length file = unwrap_or (as_integer (value_of (codes "length") file)) (pos 0)

abbrev pub has_negative_length : Data → Bool
has_negative_length file = int_lt (signed_length file) (pos 0)

-- how many bytes the file has
abbrev pub length_of : Data → ℕ
length_of file = unsigned_abs (signed_length file)

abbrev pub pieces_root : Data → Option (List ℕ)
pieces_root file = as_string (value_of (codes "pieces root") file)

abbrev pub is_hash : Option (List ℕ) → Bool
is_hash None = false
is_hash (Some bytes) = length bytes == 32

-- the letters of `attr`: `l` for a symbolic link, `x` for an executable file, `h` for a hidden one
abbrev pub letter_l : ℕ
letter_l = 108

abbrev pub letter_x : ℕ
letter_x = 120

abbrev pub letter_h : ℕ
letter_h = 104

-- the letter is one of `attr`
abbrev pub has_letter : ℕ → Data → Bool
has_letter letter file = has_byte letter (unwrap_or (as_string (value_of (codes "attr") file)) [])

-- one more pair where there is a byte string
abbrev pub with_string : List ℕ → Option (List ℕ) → Pairs → Pairs
with_string key None pairs = pairs
with_string key (Some bytes) pairs = pair key (string bytes) pairs

-- a file's properties: `attr` if a letter is set, `length`, `pieces root` if there is one. They say no more (BEP 52,
-- "file tree"; BEP 47, "attr")
abbrev pub properties_for : Attr → ℕ → Option (List ℕ) → Data
properties_for attr n root =
    dictionary (with_string (codes "attr") (letters attr)
    (pair (codes "length") (integer (pos n)) (with_string (codes "pieces root") root no_pairs)))
