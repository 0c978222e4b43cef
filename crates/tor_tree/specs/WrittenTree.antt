-- The file tree of a list of files (BEP 52, "file tree"), as a function. Each name of a path is a key in the dictionary
-- of its folder, and its value is a dictionary again; below the last name the empty key has the file's properties.
use Rattle.std.specs.Prelude.{ℕ, List, [], ◌∷◌, map, Option, if◌then◌else◌}
use Rattle.std.specs.List.{zip}
use Rattle.tor_bencode.specs.Data.{Data, integer, string, list, dictionary, Pairs, no_pairs, pair}
use Rattle.tor_tree.specs.Path.{name_eq}
use Rattle.tor_tree.specs.Properties.{properties_for}
use Rattle.tor_tree.specs.declared.attr.Attr.{Attr}

-- a folder's dictionary, with what `put` adds to its pairs
abbrev pub put_inside : (Pairs → Pairs) → Data → Data
put_inside put (dictionary pairs) = dictionary (put pairs)
put_inside put (integer n) = integer n
put_inside put (string bytes) = string bytes
put_inside put (list items) = list items

-- what `put` adds goes into the folder of this name, which is the first of all, or is made before them
abbrev pub put_under : List ℕ → (Pairs → Pairs) → Pairs → Pairs
put_under name put no_pairs = pair name (dictionary (put no_pairs)) no_pairs
put_under name put (pair key folder pairs) =
    if name_eq key name
    then pair key (put_inside put folder) pairs
    else pair name (dictionary (put no_pairs)) (pair key folder pairs)

-- a file goes before those that are there: under the empty key where no name of its path is left, else into the folder
-- of the first name
abbrev pub put_first : List (List ℕ) → Data → Pairs → Pairs
put_first [] properties pairs = pair [] properties pairs
put_first (name ∷ names) properties pairs = put_under name (put_first names properties) pairs

-- the pairs of files with their properties, in the order of their paths
abbrev pub pairs_of_files : List (List (List ℕ) × Data) → Pairs
pairs_of_files [] = no_pairs
pairs_of_files (file ∷ files) = put_first file.0 file.1 (pairs_of_files files)

-- files with their properties, of their letters, lengths and pieces roots
abbrev pub with_properties : List (List (List ℕ) × ℕ) → List Attr → List (Option (List ℕ))
    → List (List (List ℕ) × Data)
with_properties files attrs roots =
    map (λ f. (f.0.0, properties_for f.1.0 f.0.1 f.1.1)) (zip files (zip attrs roots))

-- the file tree of files, their letters and their roots. The files have lengths, and are in the order of their paths
-- (BEP 52, "file tree"; BEP 47, "attr")
abbrev pub file_tree : List (List (List ℕ) × ℕ) → List Attr → List (Option (List ℕ)) → Data
file_tree files attrs roots = dictionary (pairs_of_files (with_properties files attrs roots))
