-- The info dictionary (BEP 3, "info dictionary"; BEP 52, "info dictionary"; BEP 27, `private`; BEP 47, `attr`).
use Rattle.std.specs.Prelude.{ℕ, pos, ◌&&◌, not, List, [], ◌∷◌, Option, Some, None, option_map, codes, sum_by}
use Rattle.std.specs.Prelude.{slice_index_or, if◌then◌else◌}
use Rattle.tor_bencode.specs.Data.{Data, integer, string, dictionary}
use Rattle.tor_spec.specs.Dictionary.{present, when}
use Rattle.tor_spec.specs.Facts.{Facts, attrs_in, listed, roots_in}
use Rattle.tor_spec.specs.FilesList.{files_list}
use Rattle.tor_spec.specs.Settings.{Settings, layout_of}
use Rattle.tor_tree.specs.Kinds.{has_v1, has_v2}
use Rattle.tor_tree.specs.Letters.{letters, no_letters}
use Rattle.tor_tree.specs.WrittenTree.{file_tree}
use Rattle.tor_v1.specs.Entries.{v1_entries, with_letters}

-- how many bytes all files have; of one file, how many that has
abbrev pub total_size : List Facts → ℕ
total_size facts = sum_by (λ file. file.size) facts

-- the letters of the one file, if it has any
abbrev pub single_letters : List Facts → Option (List ℕ)
single_letters facts = letters (slice_index_or (attrs_in facts) 0 no_letters)

-- the info dictionary of each kind; beside a single `length` stand the letters of the one file. `pieces` is the joined
-- SHA-1 of each piece (BEP 3, "info dictionary"; BEP 52, "info dictionary"; BEP 27; BEP 47, "attr")
abbrev pub info_dictionary : Settings → List Facts → List ℕ → Data
info_dictionary settings facts pieces =
    let v1 = has_v1 settings.kind in
    let v2 = has_v2 settings.kind in
    dictionary (present (
    (codes "attr", if v1 && settings.single then option_map string (single_letters facts) else None) ∷
    (codes "file tree", when v2 (file_tree (listed facts) (attrs_in facts) (roots_in facts))) ∷ (
      codes "files",
      when (v1 && not settings.single) (files_list (with_letters (attrs_in facts)
          (v1_entries (layout_of settings) settings.piece_length (listed facts)))),
    ) ∷
    (codes "length", when (v1 && settings.single) (integer (pos (total_size facts)))) ∷
    (codes "meta version", when v2 (integer (pos 2))) ∷
    (codes "name", Some (string settings.name)) ∷
    (codes "piece length", Some (integer (pos settings.piece_length))) ∷
    (codes "pieces", when v1 (string pieces)) ∷
    (codes "private", when settings.is_private (integer (pos 1))) ∷ []))
