-- The conditions of `specs/valid` computed for worked torrents, written as trees. Hashes that no condition looks at are
-- any bytes.
use Rattle.tor_spec.proofs.Names.{◌≡◌, ℕ, negsuc, List, [], ◌∷◌, ◌++◌, map, Option, None, Some, refl, codes, replicate}
use Rattle.tor_spec.proofs.Names.{is_utf8, chars, encode, ones, Data, integer, string, refusal_of, Condition, RootShape}
use Rattle.tor_spec.proofs.Names.{InfoShape, MetaVersion, PieceLength, Name, LengthAndFiles, FileShape, FileLength}
use Rattle.tor_spec.proofs.Names.{Duplicate, FileAndFolder, NoFiles, TooLarge, Symlink, PiecesLength, MixedNode}
use Rattle.tor_spec.proofs.Names.{RootHash, LayersAbsent, LayerAbsent, LayerLength, FilesDiffer, Alignment, AttrDiffer}
use Rattle.tor_spec.proofs.WorkedTrees.{dict, number, items, bytes, path, size, attr, file, padding, two}

-- a torrent of BEP 3 alone, with `files`
abbrev pub listed : List ℕ → Data → ℕ → Data → Data
listed name files piece_length sums =
    dict ((
      codes "info",
      dict ((codes "files", files) ∷ (codes "name", string name) ∷
          (codes "piece length", number piece_length) ∷ (codes "pieces", sums) ∷ []),
    ) ∷ [])

-- its list may be wrong
abbrev pub of_list : List Data → Data
of_list files = listed (codes "f") (items files) 16384 (bytes 20)

-- a torrent of BEP 3 alone, with `length`
abbrev alone : List (List ℕ × Data) → Data
alone more =
    dict ((
      codes "info",
      dict (more ++ (codes "name", string (codes "a")) ∷
          (codes "piece length", number 16384) ∷ (codes "pieces", bytes 20) ∷ []),
    ) ∷ [])

abbrev rows_of_list : List (Data × Option Condition)
rows_of_list =
    (items [], Some RootShape) ∷ (number 1, Some RootShape) ∷
    (dict [], Some InfoShape) ∷ (dict ((codes "info", items []) ∷ []), Some InfoShape) ∷
    (of_list two, None) ∷
    (listed (codes "f") (items two) 100000 (bytes 20), None) ∷
    (listed (codes "f") (items two) 1 (bytes 60), None) ∷
    (listed (codes "f") (items two) 0 (bytes 60), Some PieceLength) ∷
    (listed (codes "f") (items two) 1073741824 (bytes 20), None) ∷
    (listed (codes "f") (items two) 1073741825 (bytes 20), Some PieceLength) ∷
    (listed (codes "a/b") (items two) 16384 (bytes 20), Some Name) ∷
    (listed [] (items two) 16384 (bytes 20), Some Name) ∷
    (listed (codes "..") (items two) 16384 (bytes 20), Some Name) ∷
    (alone ((codes "files", items two) ∷ size 3 ∷ []), Some LengthAndFiles) ∷
    (alone [], Some LengthAndFiles) ∷
    (alone (size 3 ∷ []), None) ∷
    (alone (size 0 ∷ []), Some PiecesLength) ∷
    (alone (attr (codes "p") ∷ size 3 ∷ []), None) ∷
    (alone (attr (codes "xl") ∷ size 3 ∷ []), Some Symlink) ∷
    (alone ((codes "attr", number 1) ∷ size 3 ∷ []), Some FileShape) ∷
    (alone ((codes "length", integer (negsuc 0)) ∷ []), Some FileLength) ∷
    (listed (codes "f") (number 3) 16384 (bytes 20), Some FileShape) ∷
    (of_list (file 2 [] ∷ file 1 (codes "b") ∷ []), Some FileShape) ∷
    (of_list (dict (size 2 ∷ []) ∷ []), Some FileShape) ∷
    (of_list (dict (size 2 ∷ path [] ∷ []) ∷ []), Some FileShape) ∷
    (of_list (number 2 ∷ []), Some FileShape) ∷
    (of_list (dict ((codes "length", integer (negsuc 0)) ∷ path (codes "a" ∷ []) ∷ []) ∷ []), Some FileLength) ∷
    (of_list (file 2 (codes "a") ∷ file 1 (codes "a") ∷ []), Some Duplicate) ∷
    (of_list (file 2 (codes "a") ∷ dict (size 1 ∷ path (codes "a" ∷ codes "b" ∷ []) ∷ []) ∷ []), Some FileAndFolder) ∷
    (of_list [], Some NoFiles) ∷
    (of_list (padding 3 ∷ []), Some NoFiles) ∷
    (of_list (padding 3 ∷ file 2 (codes "a") ∷ padding 0 ∷ padding 5 ∷ []), None) ∷
    (of_list (file 1125899906842625 (codes "a") ∷ []), Some TooLarge) ∷
    (of_list (file 1 (codes "a") ∷ padding 1125899906842625 ∷ []), Some TooLarge) ∷
    (of_list (dict (attr (codes "l") ∷ size 2 ∷ path (codes "a" ∷ []) ∷ []) ∷ file 1 (codes "b") ∷ []), Some Symlink) ∷
    (listed (codes "f") (items two) 16384 (bytes 40), Some PiecesLength) ∷
    (listed (codes "f") (items two) 16384 (number 20), Some PiecesLength) ∷ []

list_rows : map (λ row. refusal_of row.0) rows_of_list ≡ map (λ row. row.1) rows_of_list
unfolding is_utf8 chars encode
list_rows = refl

-- the properties of a file of so many bytes
abbrev pub properties : ℕ → Data
properties n = dict ((codes "", dict (size n ∷ (codes "pieces root", bytes 32) ∷ [])) ∷ [])

-- a torrent of BEP 52 alone
abbrev pub treed : Data → ℕ → List (List ℕ × Data) → Data
treed tree piece_length layers =
    dict ((
      codes "info",
      dict ((codes "file tree", tree) ∷ (codes "meta version", number 2) ∷
          (codes "name", string (codes "a")) ∷ (codes "piece length", number piece_length) ∷ []),
    ) ∷ layers)

-- with the file a
abbrev of_tree : Data → Data
of_tree node = treed (dict ((codes "a", node) ∷ [])) 16384 []

abbrev layers_of : Data → List (List ℕ × Data)
layers_of layer = (codes "piece layers", dict ((replicate 32 7, layer) ∷ [])) ∷ []

abbrev version : ℕ → Data
version n = dict ((codes "info", dict ((codes "meta version", number n) ∷ [])) ∷ [])

abbrev rows_of_tree : List (Data × Option Condition)
rows_of_tree =
    (version 3, Some MetaVersion) ∷ (version 2, Some PieceLength) ∷
    (of_tree (properties 3), None) ∷
    (treed (dict ((codes "a", properties 3) ∷ [])) 100000 [], Some PieceLength) ∷
    (treed (dict ((codes "a", properties 3) ∷ [])) 8192 [], Some PieceLength) ∷
    (treed (number 1) 16384 [], Some FileShape) ∷
    (treed (dict ((codes "..", properties 3) ∷ [])) 16384 [], Some FileShape) ∷
    (of_tree (number 1), Some FileShape) ∷
    (of_tree (dict ((codes "", dict []) ∷ [])), Some FileShape) ∷
    (of_tree (dict ((codes "", dict ((codes "length", integer (negsuc 0)) ∷ [])) ∷ [])), Some FileLength) ∷
    (of_tree (dict []), Some NoFiles) ∷
    (treed (dict ((codes "a", properties 3) ∷ (codes "d", dict []) ∷ [])) 16384 [], None) ∷
    (of_tree (properties 1125899906842625), Some TooLarge) ∷
    (of_tree (dict ((codes "", dict (attr (codes "l") ∷ size 0 ∷ [])) ∷ [])), Some Symlink) ∷
    (of_tree (dict ((codes "", dict (attr (codes "p") ∷ size 0 ∷ [])) ∷ [])), None) ∷
    (of_tree (dict ((codes "", dict (size 0 ∷ [])) ∷ (codes "b", properties 0) ∷ [])), Some MixedNode) ∷
    (treed (properties 3) 16384 [], Some MixedNode) ∷
    (of_tree (dict ((codes "", dict (size 3 ∷ (codes "pieces root", bytes 31) ∷ [])) ∷ [])), Some RootHash) ∷
    (of_tree (dict ((codes "", dict (size 3 ∷ [])) ∷ [])), Some RootHash) ∷
    (of_tree (dict ((codes "", dict (size 0 ∷ (codes "pieces root", bytes 31) ∷ [])) ∷ [])), None) ∷
    (treed (dict ((codes "a", properties 3) ∷ [])) 16384 ((codes "piece layers", number 1) ∷ []), Some LayersAbsent) ∷
    (of_tree (properties 16385), Some LayersAbsent) ∷
    (treed (dict ((codes "a", properties 16385) ∷ [])) 16384 ((codes "piece layers", dict []) ∷ []), Some LayerAbsent) ∷
    (treed (dict ((codes "a", properties 16385) ∷ [])) 16384 (layers_of (number 1)), Some LayerAbsent) ∷
    (treed (dict ((codes "a", properties 16385) ∷ [])) 16384 (layers_of (bytes 32)), Some LayerLength) ∷
    (treed (dict ((codes "a", properties 3) ∷ [])) 16384 (layers_of (bytes 5)), None) ∷ []

tree_rows : map (λ row. refusal_of row.0) rows_of_tree ≡ map (λ row. row.1) rows_of_tree
unfolding is_utf8 chars encode ones
tree_rows = refl

-- a hybrid of the files a of two bytes and b of one in the tree, and these entries
abbrev pub hybrid : List Data → Data → Data
hybrid files sums =
    dict ((
      codes "info",
      dict (
          (codes "file tree", dict ((codes "a", properties 2) ∷ (codes "b", properties 1) ∷ [])) ∷
          (codes "files", items files) ∷ (codes "meta version", number 2) ∷ (codes "name", string (codes "f")) ∷
          (codes "piece length", number 16384) ∷ (codes "pieces", sums) ∷ []),
    ) ∷ (codes "piece layers", dict []) ∷ [])

-- of the file a alone
abbrev hybrid_alone : List ℕ → Data
hybrid_alone name =
    dict ((
      codes "info",
      dict (
          (codes "file tree", dict ((codes "a", properties 2) ∷ [])) ∷
          size 2 ∷ (codes "meta version", number 2) ∷ (codes "name", string name) ∷
          (codes "piece length", number 16384) ∷ (codes "pieces", bytes 20) ∷ []),
    ) ∷ [])

abbrev rows_of_hybrids : List (Data × Option Condition)
rows_of_hybrids =
    (hybrid (file 2 (codes "a") ∷ padding 16382 ∷ file 1 (codes "b") ∷ []) (bytes 40), None) ∷
    (hybrid (file 2 (codes "a") ∷ padding 16382 ∷ file 1 (codes "b") ∷ padding 16383 ∷ []) (bytes 40), None) ∷
    (hybrid (file 2 (codes "a") ∷ padding 16382 ∷ file 1 (codes "b") ∷ padding 5 ∷ []) (bytes 40), Some Alignment) ∷
    (hybrid (file 2 (codes "a") ∷ padding 32766 ∷ file 1 (codes "b") ∷ []) (bytes 60), Some Alignment) ∷
    (hybrid (file 2 (codes "a") ∷ padding 382 ∷ padding 16000 ∷ padding 0 ∷ file 1 (codes "b") ∷ []) (bytes 40), None) ∷
    (hybrid two (bytes 20), Some Alignment) ∷
    (hybrid (file 2 (codes "a") ∷ padding 16382 ∷ file 2 (codes "b") ∷ []) (bytes 40), Some FilesDiffer) ∷
    (hybrid (file 1 (codes "b") ∷ padding 16383 ∷ file 2 (codes "a") ∷ []) (bytes 40), Some FilesDiffer) ∷
    (hybrid two (bytes 40), Some PiecesLength) ∷
    (hybrid_alone (codes "a"), None) ∷ (hybrid_alone (codes "b"), Some FilesDiffer) ∷ []

-- of a file a with these letters, if any, on each side
abbrev lettered_hybrid : List (List ℕ × Data) → List (List ℕ × Data) → Data
lettered_hybrid tree list =
    dict ((
      codes "info",
      dict (
          (codes "file tree", dict ((codes "a", dict ((codes "", dict (tree ++ size 0 ∷ [])) ∷ [])) ∷ [])) ∷
          (codes "files", items (dict (list ++ size 0 ∷ path (codes "a" ∷ []) ∷ []) ∷ [])) ∷
          (codes "meta version", number 2) ∷ (codes "name", string (codes "f")) ∷
          (codes "piece length", number 16384) ∷ (codes "pieces", bytes 0) ∷ []),
    ) ∷ [])

-- of one file with `length`, where `info` has the letters of the v1 side
abbrev lettered_alone : List (List ℕ × Data) → List (List ℕ × Data) → Data
lettered_alone tree list =
    dict ((
      codes "info",
      dict (list ++
          (codes "file tree", dict ((codes "a", dict ((codes "", dict (tree ++ size 0 ∷ [])) ∷ [])) ∷ [])) ∷
          size 0 ∷ (codes "meta version", number 2) ∷ (codes "name", string (codes "a")) ∷
          (codes "piece length", number 16384) ∷ (codes "pieces", bytes 0) ∷ []),
    ) ∷ [])

abbrev rows_of_letters : List (Data × Option Condition)
rows_of_letters =
    (lettered_hybrid [] [], None) ∷
    (lettered_hybrid (attr (codes "x") ∷ []) [], None) ∷
    (lettered_hybrid [] (attr (codes "x") ∷ []), None) ∷
    (lettered_hybrid (attr (codes "x") ∷ []) (attr (codes "x") ∷ []), None) ∷
    (lettered_hybrid (attr (codes "hx") ∷ []) (attr (codes "xh") ∷ []), None) ∷
    (lettered_hybrid (attr (codes "x") ∷ []) (attr (codes "h") ∷ []), Some AttrDiffer) ∷
    (lettered_hybrid (attr (codes "x") ∷ []) (attr [] ∷ []), Some AttrDiffer) ∷
    (lettered_hybrid (attr [] ∷ []) (attr (codes "h") ∷ []), Some AttrDiffer) ∷
    (lettered_hybrid (attr (codes "hx") ∷ []) (attr (codes "x") ∷ []), Some AttrDiffer) ∷
    (lettered_hybrid (attr (codes "p") ∷ []) (attr (codes "z") ∷ []), None) ∷
    (lettered_hybrid (attr (codes "l") ∷ []) (attr (codes "h") ∷ []), Some Symlink) ∷
    (lettered_alone (attr (codes "x") ∷ []) (attr (codes "x") ∷ []), None) ∷
    (lettered_alone (attr (codes "x") ∷ []) (attr (codes "h") ∷ []), Some AttrDiffer) ∷
    (lettered_alone (attr (codes "x") ∷ []) [], None) ∷ []

letter_rows : map (λ row. refusal_of row.0) rows_of_letters ≡ map (λ row. row.1) rows_of_letters
unfolding is_utf8 chars encode ones
letter_rows = refl

hybrid_rows : map (λ row. refusal_of row.0) rows_of_hybrids ≡ map (λ row. row.1) rows_of_hybrids
unfolding is_utf8 chars encode ones
hybrid_rows = refl
