-- The bytes of a metainfo file (BEP 3, "metainfo files"; BEP 52, "metainfo files").
use Rattle.std.specs.Prelude.{ℕ, List, [], ◌∷◌, map, Some, option_map, codes}
use Rattle.tor_bencode.specs.Data.{Data, string, dictionary}
use Rattle.tor_bencode.specs.Spelling.{spelling}
use Rattle.tor_spec.specs.Dictionary.{present, when}
use Rattle.tor_spec.specs.Facts.{Facts, File, facts_of, listed}
use Rattle.tor_spec.specs.InfoDictionary.{info_dictionary}
use Rattle.tor_spec.specs.PieceLayers.{piece_layers}
use Rattle.tor_spec.specs.Settings.{Settings, layout_of}
use Rattle.tor_tree.specs.Kinds.{has_v2}
use Rattle.tor_tree.specs.Letters.{no_letters}
use Rattle.tor_v1.specs.Content.{v1_pieces}
use Rattle.tor_v1.specs.Entries.{v1_entries}

-- the root dictionary
abbrev pub root_dictionary : Settings → List Facts → List ℕ → Data
root_dictionary settings facts pieces =
    dictionary (present (
    (codes "announce", option_map string settings.announce) ∷
    (codes "info", Some (info_dictionary settings facts pieces)) ∷
    (codes "piece layers", when (has_v2 settings.kind) (dictionary (piece_layers settings.piece_length facts))) ∷ []))

abbrev pub facts_of_files : ℕ → List File → List Facts
facts_of_files piece_length files = map (facts_of piece_length) files

-- the joined SHA-1 of each piece of files
abbrev pub pieces_of_files : Settings → List File → List ℕ
pieces_of_files settings files =
    let facts = facts_of_files settings.piece_length files in
    v1_pieces settings.piece_length (v1_entries (layout_of settings) settings.piece_length (listed facts))
    (map (λ file. file.content) files)

-- the spelling of the root dictionary: `announce`, `info`, `piece layers`. It is the whole file, of files in the order
-- of their paths (BEP 52, "metainfo files")
unfoldable pub metainfo : Settings → List File → List ℕ
metainfo settings files =
    spelling (root_dictionary settings (facts_of_files settings.piece_length files) (pieces_of_files settings files))

-- the one file that has this name, without letters
abbrev pub only : List ℕ → List ℕ → List File
only name content = record { path = name ∷ []; content = content; attr = no_letters } ∷ []
