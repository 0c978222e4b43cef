-- The `files` of BEP 3 ("info dictionary"), with the letters and the padding of BEP 47 ("attr", "padding files").
use Rattle.std.specs.Prelude.{ℕ, pos, List, [], ◌∷◌, map, Option, Some, option_map, codes, if◌then◌else◌}
use Rattle.tor_bencode.specs.Data.{Data, integer, string, list, dictionary}
use Rattle.tor_bencode.specs.View.{items_of}
use Rattle.tor_spec.specs.Dictionary.{present}
use Rattle.tor_tree.specs.Letters.{letters}
use Rattle.tor_v1.specs.declared.entry.Entry.{Entry}

-- a list of byte strings
abbrev pub strings : List (List ℕ) → Data
strings texts = list (items_of (map string texts))

-- what `attr` says: `p` of padding, else the file's letters. It says nothing if there is none (BEP 47, "attr", "padding
-- files")
abbrev pub attr_of : Entry → Option (List ℕ)
attr_of entry =
    if entry.pad then Some (codes "p") else letters (record { exec = entry.exec; hidden = entry.hidden })

abbrev pub entry_dictionary : Entry → Data
entry_dictionary entry =
    dictionary (present (
    (codes "attr", option_map string (attr_of entry)) ∷
    (codes "length", Some (integer (pos entry.length))) ∷
    (codes "path", Some (strings entry.path)) ∷ []))

-- the value of `files`: a dictionary for each entry (BEP 3, "info dictionary")
abbrev pub files_list : List Entry → Data
files_list entries = list (items_of (map entry_dictionary entries))
