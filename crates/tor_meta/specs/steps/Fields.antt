-- Fields of a dictionary: a key, and a value where it is there.
use Rattle.std.specs.Prelude.{ℕ, pos, ◌&&◌, not, List, [], ◌∷◌, Option, None, Some, option_map, codes}
use Rattle.std.specs.Prelude.{if◌then◌else◌}
use Rattle.tor_bencode.specs.Data.{Data, integer, string}
use Rattle.tor_spec.specs.Dictionary.{when}
use Rattle.tor_spec.specs.Facts.{Facts, attrs_in, listed, roots_in}
use Rattle.tor_spec.specs.FilesList.{files_list}
use Rattle.tor_spec.specs.InfoDictionary.{single_letters, total_size}
use Rattle.tor_spec.specs.Settings.{Settings, layout_of}
use Rattle.tor_tree.specs.Kinds.{has_v1, has_v2}
use Rattle.tor_tree.specs.WrittenTree.{file_tree}
use Rattle.tor_v1.specs.Entries.{v1_entries, with_letters}

-- those of the info dictionary that tell of the files
abbrev pub file_fields : Settings → List Facts → List (List ℕ × Option Data)
file_fields settings facts =
    (codes "attr", if has_v1 settings.kind && settings.single then option_map string (single_letters facts) else None)
    ∷ (codes "file tree", when (has_v2 settings.kind) (file_tree (listed facts) (attrs_in facts) (roots_in facts)))
    ∷ (
      codes "files",
      when (has_v1 settings.kind && not settings.single) (files_list (with_letters (attrs_in facts)
          (v1_entries (layout_of settings) settings.piece_length (listed facts)))),
    ) ∷ (codes "length", when (has_v1 settings.kind && settings.single) (integer (pos (total_size facts)))) ∷ []

-- those after them
abbrev pub head_fields : Settings → List ℕ → List (List ℕ × Option Data)
head_fields settings pieces =
    (codes "meta version", when (has_v2 settings.kind) (integer (pos 2)))
    ∷ (codes "name", Some (string settings.name))
    ∷ (codes "piece length", Some (integer (pos settings.piece_length)))
    ∷ (codes "pieces", when (has_v1 settings.kind) (string pieces))
    ∷ (codes "private", when settings.is_private (integer (pos 1))) ∷ []
