-- What the keys of a foreign torrent say (BEP 3, "metainfo files"; BEP 52, "metainfo files"). What is not there, or not
-- of its type, is found by a condition of its own; here it says nothing.
use Rattle.std.specs.Prelude.{ℕ, pos, negsuc, ◌==◌, Bool, true, false, List, [], ◌∷◌, unsigned_abs, codes}
use Rattle.std.specs.Prelude.{Option, None, Some, is_none, is_some, unwrap_or, if◌then◌else◌}
use Rattle.tor_bencode.specs.Data.{Data, integer, string, list, dictionary, Items, no_items, item, no_pairs}
use Rattle.tor_bencode.specs.Find.{value_of}
use Rattle.tor_tree.specs.Properties.{as_integer, as_string}
use Rattle.tor_tree.specs.declared.kinds.Kind.{Kind}
use Rattle.tor_tree.specs.declared.kinds.Kind.TheVariants.{V1, V2, Hybrid}

-- the value of a key; the empty dictionary where the key is not there
abbrev pub part : List ℕ → Data → Data
part key parts = unwrap_or (value_of key parts) (dictionary no_pairs)

abbrev pub info_of : Data → Data
info_of root = part (codes "info") root

abbrev pub is_there : List ℕ → Data → Bool
is_there key parts = is_some (value_of key parts)

-- the value is this number
abbrev pub is_number : ℕ → Option Data → Bool
is_number n None = false
is_number n (Some (integer (pos m))) = m == n
is_number n (Some (integer (negsuc m))) = false
is_number n (Some (string bytes)) = false
is_number n (Some (list items)) = false
is_number n (Some (dictionary pairs)) = false

-- without `meta version` a torrent is of BEP 3 alone; with it, `pieces` makes it a hybrid (BEP 52, "Upgrade Path")
abbrev pub kind_of : Data → Kind
kind_of info =
    if is_none (value_of (codes "meta version") info) then V1 else (
    if is_none (value_of (codes "pieces") info) then V2 else Hybrid)

-- the bytes of a string
abbrev pub text_of : Data → List ℕ
text_of value = unwrap_or (as_string (Some value)) []

abbrev pub name_of : Data → List ℕ
name_of info = text_of (part (codes "name") info)

abbrev pub piece_length_of : Data → ℕ
piece_length_of info = unsigned_abs (unwrap_or (as_integer (value_of (codes "piece length") info)) (pos 0))

-- BEP 27: only the integer 1 makes it private
abbrev pub is_private : Data → Bool
is_private info = is_number 1 (value_of (codes "private") info)

abbrev pub items_in : Items → List Data
items_in no_items = []
items_in (item value items) = value ∷ items_in items

-- the items of a list; what is none has none
abbrev pub items_of_list : Data → List Data
items_of_list (integer n) = []
items_of_list (string bytes) = []
items_of_list (list items) = items_in items
items_of_list (dictionary pairs) = []

abbrev pub is_list : Data → Bool
is_list (integer n) = false
is_list (string bytes) = false
is_list (list items) = true
is_list (dictionary pairs) = false

abbrev pub is_string : Data → Bool
is_string (integer n) = false
is_string (string bytes) = true
is_string (list items) = false
is_string (dictionary pairs) = false
