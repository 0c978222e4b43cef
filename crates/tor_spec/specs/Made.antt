-- Files of which the maker makes a torrent, and what a reader of it is told.
use Rattle.std.specs.Prelude.{◌≡◌, ◌≤◌, ◌<◌, ℕ, All, List, [], ◌∷◌, length, map, true, None, is_some}
use Rattle.std.specs.Prelude.{if◌then◌else◌}
use Rattle.std.specs.List.{Contains}
use Rattle.tor_merkle.specs.Layer.{IsPieceLength, piece_layer, root_of}
use Rattle.tor_tree.specs.FileList.{IsFileList}
use Rattle.tor_tree.specs.Kinds.{has_v1, has_v2}
use Rattle.tor_tree.specs.Letters.{letters}
use Rattle.tor_tree.specs.Name.{name_fault}
use Rattle.tor_tree.specs.declared.attr.Attr.{Attr}
use Rattle.tor_v1.specs.Entries.{v1_entries, with_letters}
use Rattle.tor_spec.specs.Facts.{File}
use Rattle.tor_spec.specs.Metainfo.{pieces_of_files}
use Rattle.tor_spec.specs.Settings.{Settings, layout_of}
use Rattle.tor_spec.specs.valid.View.{FileView, View}

-- the letters of each
abbrev pub attrs_of : List File → List Attr
attrs_of files = map (λ file. file.attr) files

-- paths and lengths
abbrev pub sizes_of : List File → List (List (List ℕ) × ℕ)
sizes_of files = map (λ file. (file.path, length file.content)) files

-- files longer than a piece that have one root have one layer (profile)
abbrev pub HaveOneLayer : ℕ → List File → Type 0
HaveOneLayer piece_length files =
    (one other : File) → Contains files one → Contains files other → piece_length < length one.content →
    piece_length < length other.content → root_of one.content ≡ root_of other.content →
    piece_layer one.content piece_length ≡ piece_layer other.content piece_length

-- files in the order of their paths, and settings, that the maker accepts (profile)
pub record AreMade (settings : Settings) (files : List File) : Type 0 where
  pub piece_length : IsPieceLength settings.piece_length
  pub name : name_fault settings.name ≡ None
  pub list : IsFileList (sizes_of files)
  pub short : All (λ file. length file.path ≤ 64) files
  pub single : settings.single ≡ true → map (λ file. file.path) files ≡ (settings.name ∷ []) ∷ []
  pub layers : HaveOneLayer settings.piece_length files

-- what is told of a file: its letters, and its root and layer where there is a v2 side
abbrev pub made_file : Settings → File → FileView
made_file settings file = record {
  file = record {
    path = file.path;
    length = length file.content;
    root = if has_v2 settings.kind then root_of file.content else None;
    has_attr = is_some (letters file.attr);
    exec = file.attr.exec;
    hidden = file.attr.hidden;
  };
  layer = if has_v2 settings.kind then piece_layer file.content settings.piece_length else [];
}

-- what a torrent describes that was made of these files (profile)
pub record IsViewOfMade (settings : Settings) (made : List File) (view : View) : Type 0 where
  pub kind : view.kind ≡ settings.kind
  pub name : view.name ≡ settings.name
  pub piece_length : view.piece_length ≡ settings.piece_length
  pub is_private : view.is_private ≡ settings.is_private
  pub files : view.files ≡ map (made_file settings) made
  pub entries : view.entries ≡
      (if has_v1 settings.kind
      then with_letters (attrs_of made) (v1_entries (layout_of settings) settings.piece_length (sizes_of made)) else [])
  pub pieces : view.pieces ≡ (if has_v1 settings.kind then pieces_of_files settings made else [])
