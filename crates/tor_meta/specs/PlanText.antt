-- The text of a plan: what a torrent is to be made with, its files, and how they are cut, as one dictionary (BEP 3,
-- "bencoding").
use Rattle.std.specs.Prelude.{◌≡◌, ◌<◌, ◌^◌, ℕ, pos, All, List, [], ◌∷◌, Option, None, Some, codes, length, option_map, unwrap_or}
use Rattle.std.specs.List.{flat_map}
use Rattle.std.specs.List.{join_with_byte}
use Rattle.tor_bencode.specs.Data.{Data, dictionary, integer, list, string}
use Rattle.tor_bencode.specs.Spelling.{spelling}
use Rattle.tor_bencode.specs.View.{items_of}
use Rattle.tor_spec.specs.Dictionary.{present, when}
use Rattle.tor_spec.specs.Settings.{Settings}
use Rattle.tor_tree.specs.FileList.{LetteredFiles, files_with_attrs}
use Rattle.tor_tree.specs.Letters.{letters}
use Rattle.tor_tree.specs.Name.{name_fault, slash}
use Rattle.tor_tree.specs.Path.{IsFilePath}
use Rattle.tor_tree.specs.declared.attr.Attr.{Attr}
use Rattle.tor_tree.specs.declared.kinds.Kind.{Kind}
use Rattle.tor_tree.specs.declared.kinds.Kind.TheVariants.{V1, V2, Hybrid}

-- what a plan tells: settings, files with their letters in the order of the torrent, and how many pieces a unit has
-- (profile)
pub record PlanText : Type 0 where
  pub settings : Settings
  pub list : LetteredFiles
  pub span : ℕ

-- what can be told: the name and the paths have no fault, and each number is one of its type. Each file has letters
-- (profile)
pub record IsPlanText (text : PlanText) : Type 0 where
  pub name : name_fault text.settings.name ≡ None
  pub piece_length : text.settings.piece_length < 2 ^ 63
  pub span : text.span < 2 ^ 32
  pub one_each : length text.list.attrs ≡ length text.list.files
  pub named : All (λ file. IsFilePath file.0) text.list.files
  pub small : All (λ file. file.1 < 2 ^ 63) text.list.files

-- the word for a kind
abbrev pub kind_text : Kind → List ℕ
kind_text V1 = codes "v1"
kind_text V2 = codes "v2"
kind_text Hybrid = codes "hybrid"

-- the letters of a file; no byte if it has none
abbrev pub letters_text : Attr → List ℕ
letters_text attr = unwrap_or (letters attr) []

-- the names of a path, `/` between each two. No name has one (profile)
abbrev pub path_text : List (List ℕ) → List ℕ
path_text names = join_with_byte slash names

-- a file as three items: its letters, its length, its path (profile)
abbrev pub file_items : ((List (List ℕ) × ℕ) × Attr) → List Data
file_items file = string (letters_text file.1) ∷ integer (pos file.0.1) ∷ string (path_text file.0.0) ∷ []

-- the fields of a plan: a field that may be absent has no value then. A flag that is set is 1 (profile)
abbrev pub plan_fields : PlanText → List (List ℕ × Option Data)
plan_fields text =
    (codes "announce", option_map string text.settings.announce) ∷
    (codes "files", Some (list (items_of (flat_map file_items (files_with_attrs text.list))))) ∷
    (codes "kind", Some (string (kind_text text.settings.kind))) ∷
    (codes "name", Some (string text.settings.name)) ∷
    (codes "piece length", Some (integer (pos text.settings.piece_length))) ∷
    (codes "private", when text.settings.is_private (integer (pos 1))) ∷
    (codes "single", when text.settings.single (integer (pos 1))) ∷
    (codes "span", Some (integer (pos text.span))) ∷
    (codes "tail", when text.settings.tail (integer (pos 1))) ∷ []

-- a plan as a dictionary: `announce`, `files`, `kind`, `name`, `piece length`, `private`, `single`, `span`, `tail`. The
-- files are one flat list, three items a file (BEP 3, "bencoding"; profile)
abbrev pub plan_dictionary : PlanText → Data
plan_dictionary text = dictionary (present (plan_fields text))

-- its bytes (BEP 3, "bencoding"; profile)
unfoldable pub plan_bytes : PlanText → List ℕ
plan_bytes text = spelling (plan_dictionary text)
