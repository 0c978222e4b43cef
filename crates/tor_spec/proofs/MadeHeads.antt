-- What the keys of a torrent's dictionaries have as their values, and what a reader is told of them.
use Rattle.tor_spec.proofs.Names.{◌≡◌, ℕ, pos, codes, Bool, true, false, cond, not, ◌&&◌, List, [], ◌∷◌, length, map}
use Rattle.tor_spec.proofs.Names.{Option, None, Some, is_none, option_map, refl, ap, subst, bytes_eq, bytes_eq-Decides}
use Rattle.tor_spec.proofs.Names.{no_value_before_the_first_key, Data, integer, string, dictionary, keys_of, value_in}
use Rattle.tor_spec.proofs.Names.{value_of, AreRising, root_of, present, when, Facts, File, listed, roots_in}
use Rattle.tor_spec.proofs.Names.{files_list, info_dictionary, total_size, root_dictionary, piece_layers, Settings}
use Rattle.tor_spec.proofs.Names.{layout_of, info_of, is_number, is_private, kind_of, name_of, piece_length_of}
use Rattle.tor_spec.proofs.Names.{is_dictionary, has_v1, has_v2, file_tree, Kind, V1, V2, Hybrid, TreeFile, v1_entries}
use Rattle.tor_spec.proofs.Names.{attrs_in, if◌then◌else◌, is_some, letters, on_entries, single_letters}
use Rattle.tor_spec.proofs.Fields.{keys_above, rising_rest}

-- what the file tree tells of a file
abbrev pub tree_file : File → TreeFile
tree_file file = record {
  path = file.path;
  length = length file.content;
  root = root_of file.content;
  has_attr = is_some (letters file.attr);
  exec = file.attr.exec;
  hidden = file.attr.hidden;
}

-- the value of the first field with this key, if it is there
abbrev pub field_in : List ℕ → List (List ℕ × Option Data) → Option Data
field_in key [] = None
field_in key ((name, value) ∷ fields) = cond (bytes_eq name key) value (field_in key fields)

-- where the keys rise, that is the value of the key
pub value_in-present : (key : List ℕ) (fields : List (List ℕ × Option Data)) → AreRising (map (λ field. field.0) fields)
    → value_in key (present fields) ≡ field_in key fields
value_in-present key [] rising = refl
value_in-present key ((name, None) ∷ fields) rising =
    by_name (bytes_eq name key) refl
    (value_in-present key fields (rising_rest name (map (λ field. field.0) fields) rising))
  where
    by_name : (same : Bool) → bytes_eq name key ≡ same → value_in key (present fields) ≡ field_in key fields
        → value_in key (present fields) ≡ cond same None (field_in key fields)
    by_name true e later =
        no_value_before_the_first_key key (present fields)
        (subst (λ (first : List ℕ). AreRising (first ∷ keys_of (present fields))) ((bytes_eq-Decides name key).0 e)
        (keys_above name fields rising))
    by_name false e later = later
value_in-present key ((name, Some value) ∷ fields) rising =
    ap (λ (later : Option Data). cond (bytes_eq name key) (Some value) later)
    (value_in-present key fields (rising_rest name (map (λ field. field.0) fields) rising))

-- the fields of `info`
abbrev info_fields : Settings → List Facts → List ℕ → List (List ℕ × Option Data)
info_fields settings facts pieces =
    let v1 = has_v1 settings.kind in
    let v2 = has_v2 settings.kind in
    (codes "attr", if v1 && settings.single then option_map string (single_letters facts) else None) ∷
    (codes "file tree", when v2 (file_tree (listed facts) (attrs_in facts) (roots_in facts))) ∷ (
      codes "files",
      when (v1 && not settings.single) (files_list (on_entries (attrs_in facts)
          (v1_entries (layout_of settings) settings.piece_length (listed facts)))),
    ) ∷
    (codes "length", when (v1 && settings.single) (integer (pos (total_size facts)))) ∷
    (codes "meta version", when v2 (integer (pos 2))) ∷
    (codes "name", Some (string settings.name)) ∷
    (codes "piece length", Some (integer (pos settings.piece_length))) ∷
    (codes "pieces", when v1 (string pieces)) ∷
    (codes "private", when settings.is_private (integer (pos 1))) ∷ []

info_value : (settings : Settings) (facts : List Facts) (pieces key : List ℕ)
    → value_of key (info_dictionary settings facts pieces) ≡ field_in key (info_fields settings facts pieces)
info_value settings facts pieces key =
    value_in-present key (info_fields settings facts pieces)
    (refl, (refl, (refl, (refl, (refl, (refl, (refl, (refl, tt))))))))

-- the values of the keys of `info`
pub record IsInfo (settings : Settings) (facts : List Facts) (pieces : List ℕ) (info : Data) : Type 0 where
  pub tree : value_of (codes "file tree") info
      ≡ when (has_v2 settings.kind) (file_tree (listed facts) (attrs_in facts) (roots_in facts))
  pub files : value_of (codes "files") info ≡ when (has_v1 settings.kind && not settings.single)
      (files_list (on_entries (attrs_in facts)
      (v1_entries (layout_of settings) settings.piece_length (listed facts))))
  pub size : value_of (codes "length") info
      ≡ when (has_v1 settings.kind && settings.single) (integer (pos (total_size facts)))
  pub version : value_of (codes "meta version") info ≡ when (has_v2 settings.kind) (integer (pos 2))
  pub name : value_of (codes "name") info ≡ Some (string settings.name)
  pub piece_length : value_of (codes "piece length") info ≡ Some (integer (pos settings.piece_length))
  pub sums : value_of (codes "pieces") info ≡ when (has_v1 settings.kind) (string pieces)
  pub is_private : value_of (codes "private") info ≡ when settings.is_private (integer (pos 1))
  pub attr : value_of (codes "attr") info ≡ (if has_v1 settings.kind && settings.single
      then option_map string (single_letters facts) else None)

pub info_values : (settings : Settings) (facts : List Facts) (pieces : List ℕ)
    → IsInfo settings facts pieces (info_dictionary settings facts pieces)
info_values settings facts pieces = record {
  tree = info_value settings facts pieces (codes "file tree");
  files = info_value settings facts pieces (codes "files");
  size = info_value settings facts pieces (codes "length");
  version = info_value settings facts pieces (codes "meta version");
  name = info_value settings facts pieces (codes "name");
  piece_length = info_value settings facts pieces (codes "piece length");
  sums = info_value settings facts pieces (codes "pieces");
  is_private = info_value settings facts pieces (codes "private");
  attr = info_value settings facts pieces (codes "attr");
}

kind_by_keys : (kind : Kind) (version sums : Data)
    → cond (is_none (when (has_v2 kind) version)) V1 (cond (is_none (when (has_v1 kind) sums)) V2 Hybrid) ≡ kind
kind_by_keys V1 version sums = refl
kind_by_keys V2 version sums = refl
kind_by_keys Hybrid version sums = refl

private_by_key : (there : Bool) → is_number 1 (when there (integer (pos 1))) ≡ there
private_by_key true = refl
private_by_key false = refl

-- what a reader is told by keys that all kinds have
module _ (settings : Settings) (facts : List Facts) (pieces : List ℕ) (info : Data)
    (is : IsInfo settings facts pieces info) where
  pub kind_told : kind_of info ≡ settings.kind
  kind_told = rw (is.version, is.sums) (kind_by_keys settings.kind (integer (pos 2)) (string pieces))

  pub name_told : name_of info ≡ settings.name
  name_told = rw is.name refl

  pub piece_length_told : piece_length_of info ≡ settings.piece_length
  piece_length_told = rw is.piece_length refl

  pub private_told : is_private info ≡ settings.is_private
  private_told = rw is.is_private (private_by_key settings.is_private)

abbrev root_fields : Settings → List Facts → List ℕ → List (List ℕ × Option Data)
root_fields settings facts pieces =
    (codes "announce", option_map string settings.announce) ∷
    (codes "info", Some (info_dictionary settings facts pieces)) ∷
    (codes "piece layers", when (has_v2 settings.kind) (dictionary (piece_layers settings.piece_length facts))) ∷ []

root_value : (settings : Settings) (facts : List Facts) (pieces key : List ℕ)
    → value_of key (root_dictionary settings facts pieces) ≡ field_in key (root_fields settings facts pieces)
root_value settings facts pieces key =
    value_in-present key (root_fields settings facts pieces) (refl, (refl, tt))

-- the root is a dictionary, with the values of its keys
pub record IsRootWith (settings : Settings) (facts : List Facts) (inner root : Data) : Type 0 where
  pub dict : is_dictionary root ≡ true
  pub info : value_of (codes "info") root ≡ Some inner
  pub layers : value_of (codes "piece layers") root
      ≡ when (has_v2 settings.kind) (dictionary (piece_layers settings.piece_length facts))

pub root_values : (settings : Settings) (facts : List Facts) (pieces : List ℕ)
    → IsRootWith settings facts (info_dictionary settings facts pieces) (root_dictionary settings facts pieces)
root_values settings facts pieces = record {
  dict = refl;
  info = root_value settings facts pieces (codes "info");
  layers = root_value settings facts pieces (codes "piece layers");
}

pub info_told : (settings : Settings) (facts : List Facts) (info root : Data) → IsRootWith settings facts info root
    → info_of root ≡ info
info_told settings facts info root is = rw is.info refl
