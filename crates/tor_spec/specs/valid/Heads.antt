-- Conditions on the root and on the keys of `info` that both sides have (BEP 3, "metainfo files" and "info dictionary";
-- BEP 52, "info dictionary").
use Rattle.std.specs.Prelude.{ℕ, ℤ, pos, negsuc, Bool, true, not, ◌&&◌, ◌||◌, List, nat_le, codes}
use Rattle.std.specs.Prelude.{Option, None, Some, is_some}
use Rattle.tor_bencode.specs.Data.{Data}
use Rattle.tor_bencode.specs.Find.{value_of}
use Rattle.tor_merkle.specs.Layer.{is_piece_length}
use Rattle.tor_tree.specs.FileTree.{is_dictionary}
use Rattle.tor_tree.specs.Kinds.{has_v1, has_v2}
use Rattle.tor_tree.specs.Name.{name_fault}
use Rattle.tor_tree.specs.Properties.{as_integer, as_string}
use Rattle.tor_tree.specs.declared.kinds.Kind.{Kind}
use Rattle.tor_v1.specs.Piece.{max_piece_length}
use Rattle.tor_spec.specs.valid.Parts.{is_number, is_there, kind_of}

-- V2: the root is no dictionary (BEP 3, "metainfo files")
abbrev pub root_shape : Data → Bool
root_shape root = not (is_dictionary root)

-- it is not there, or no dictionary
abbrev pub lacks_dictionary : Option Data → Bool
lacks_dictionary None = true
lacks_dictionary (Some value) = not (is_dictionary value)

-- V3: `info` is absent or no dictionary (BEP 3, "metainfo files")
abbrev pub info_shape : Data → Bool
info_shape root = lacks_dictionary (value_of (codes "info") root)

-- V4: `meta version` is there and is not the integer 2 (BEP 52, "info dictionary")
abbrev pub meta_version : Data → Bool
meta_version info =
    is_there (codes "meta version") info && not (is_number 2 (value_of (codes "meta version") info))

-- a torrent of this kind cannot have pieces of this length
abbrev pub is_no_piece_length : Kind → Option ℤ → Bool
is_no_piece_length kind None = true
is_no_piece_length kind (Some (negsuc n)) = true
is_no_piece_length kind (Some (pos n)) =
    not (nat_le 1 n && nat_le n max_piece_length) || (has_v2 kind && not (is_piece_length n))

-- V5: `piece length` is absent, no integer, or not allowed. It is below 1 or above 2^30; or, with a v2 side, no power
-- of two from 2^14 on (BEP 3, "info dictionary"; BEP 52, "info dictionary"; profile)
abbrev pub piece_length : Data → Bool
piece_length info = is_no_piece_length (kind_of info) (as_integer (value_of (codes "piece length") info))

-- a text that is no name, or no text at all
abbrev pub is_no_name : Option (List ℕ) → Bool
is_no_name None = true
is_no_name (Some text) = is_some (name_fault text)

-- V6: `name` is absent, no byte string, or no name (BEP 3, "info dictionary"; BEP 52, "info dictionary")
abbrev pub name : Data → Bool
name info = is_no_name (as_string (value_of (codes "name") info))

-- V7: v1 side: both or neither of `length` and `files` are there (BEP 3, "info dictionary")
abbrev pub length_and_files : Data → Bool
length_and_files info =
    has_v1 (kind_of info) && ((is_there (codes "length") info && is_there (codes "files") info)
    || (not (is_there (codes "length") info) && not (is_there (codes "files") info)))
