-- What a torrent describes.
use Rattle.std.specs.Prelude.{ℕ, Bool, ◌||◌, List, [], ◌∷◌, false, map, sum_by, codes, None, unwrap_or, if◌then◌else◌}
use Rattle.tor_bencode.specs.Data.{Data}
use Rattle.tor_bencode.specs.Span.{span_of}
use Rattle.tor_tree.specs.Kinds.{has_v1, has_v2}
use Rattle.tor_tree.specs.declared.kinds.Kind.{Kind}
use Rattle.tor_tree.specs.declared.tree_file.TreeFile.{TreeFile}
use Rattle.tor_v1.specs.Entries.{pad_entry}
use Rattle.tor_v1.specs.declared.entry.Entry.{Entry}
use Rattle.tor_spec.specs.valid.Layers.{is_long, layer_of, layers_of, pieces_in}
use Rattle.tor_spec.specs.valid.ListSide.{ListedFile, listed_files, side_files, side_piece_count}
use Rattle.tor_spec.specs.valid.Parts.{info_of, is_private, kind_of, name_of, part, piece_length_of, text_of}
use Rattle.tor_spec.specs.valid.TreeSide.{tree_files}

-- a file, and the hashes of its piece layer, if it is longer than a piece
pub record FileView : Type 0 where
  pub file : TreeFile
  pub layer : List (List ℕ)

pub record View : Type 0 where
  pub kind : Kind
  pub name : List ℕ
  pub piece_length : ℕ
  pub is_private : Bool
  -- in the torrent's order, without padding
  pub files : List FileView
  -- of the v1 side, padding among them; without that side none
  pub entries : List Entry
  -- the joined SHA-1 of each piece of the v1 side
  pub pieces : List ℕ
  -- where the bytes of `info` begin and end
  pub info_span : ℕ × ℕ
  -- those of a v2 side are counted file by file
  pub piece_count : ℕ

-- a file of the v1 side alone has no root
abbrev pub file_of_list : ListedFile → FileView
file_of_list listed = record {
  file = record {
    path = listed.path;
    length = listed.size;
    root = None;
    has_attr = listed.has_attr;
    exec = listed.exec;
    hidden = listed.hidden;
  };
  layer = [];
}

-- a file of a hybrid: it has the letters that the tree has for it, or else those of the v1 side
abbrev pub file_of_both : ListedFile → TreeFile → TreeFile
file_of_both listed file = record {
  path = file.path;
  length = file.length;
  root = file.root;
  has_attr = file.has_attr || listed.has_attr;
  exec = if file.has_attr then file.exec else listed.exec;
  hidden = if file.has_attr then file.hidden else listed.hidden;
}

-- the files of the tree, each with the letters of both sides; without a v1 side with its own
abbrev pub lettered : List ListedFile → List TreeFile → List TreeFile
lettered listed [] = []
lettered [] (file ∷ files) = file ∷ lettered [] files
lettered (one ∷ listed) (file ∷ files) = file_of_both one file ∷ lettered listed files

-- the files of a torrent with a v2 side
abbrev pub files_of_both : Data → List TreeFile
files_of_both info = lettered (if has_v1 (kind_of info) then listed_files info else []) (tree_files info)

abbrev pub file_of_tree : Data → TreeFile → FileView
file_of_tree root file = record {
  file = file;
  layer = if is_long (piece_length_of (info_of root)) file then layer_of (layers_of root) file else [];
}

-- the path of padding is shown as `.pad` and its length; it has no letters but its own
abbrev pub entry_of_file : ListedFile → Entry
entry_of_file listed = if listed.pad then pad_entry listed.size else record {
  path = listed.path;
  length = listed.size;
  pad = false;
  exec = listed.exec;
  hidden = listed.hidden;
}

abbrev pub files_of : Data → List FileView
files_of root =
    if has_v2 (kind_of (info_of root)) then map (file_of_tree root) (files_of_both (info_of root))
    else map file_of_list (listed_files (info_of root))

abbrev pub tree_piece_count : Data → ℕ
tree_piece_count info = sum_by (λ file. pieces_in (piece_length_of info) file.length) (tree_files info)

-- what a torrent describes: kind, name, piece length, privacy, files, entries, pieces, where `info` stands. The files
-- have letters, roots and layers, and it is told how many pieces there are (profile)
abbrev pub view_of : Data → View
view_of root =
    let info = info_of root in
    let v1 = has_v1 (kind_of info) in
    record {
      kind = kind_of info;
      name = name_of info;
      piece_length = piece_length_of info;
      is_private = is_private info;
      files = files_of root;
      entries = if v1 then map entry_of_file (side_files info) else [];
      pieces = if v1 then text_of (part (codes "pieces") info) else [];
      info_span = unwrap_or (span_of (codes "info") root) (0, 0);
      piece_count = if has_v2 (kind_of info) then tree_piece_count info else side_piece_count info;
    }
