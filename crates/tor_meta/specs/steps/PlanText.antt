-- The fields of a plan, and what its parts tell. Only private clauses cite these.
use Rattle.std.specs.Prelude.{ℕ, pos, List, [], ◌∷◌, Option, Some, option_map, codes}
use Rattle.std.specs.List.{flat_map}
use Rattle.tor_bencode.specs.Data.{Data, integer, list, string}
use Rattle.tor_bencode.specs.View.{items_of}
use Rattle.tor_meta.specs.Head.{settings_of}
use Rattle.tor_meta.specs.PlanText.{PlanText, file_items, kind_text}
use Rattle.tor_meta.specs.declared.head.Head.{Head}
use Rattle.tor_spec.specs.Dictionary.{when}
use Rattle.tor_spec.specs.Settings.{Settings}
use Rattle.tor_tree.specs.FileList.{LetteredFiles, files_with_attrs}
use Rattle.tor_tree.specs.declared.attr.Attr.{Attr}

-- the text of a plan with this head, these files and letters
abbrev pub text_of : Head → ℕ → List (List (List ℕ) × ℕ) → List Attr → PlanText
text_of head span files attrs =
    record { settings = settings_of head; list = record { files = files; attrs = attrs }; span = span }

-- its fields up to `kind`
abbrev pub fields_before_name : Settings → LetteredFiles → List (List ℕ × Option Data)
fields_before_name settings files =
    (codes "announce", option_map string settings.announce)
    ∷ (codes "files", Some (list (items_of (flat_map file_items (files_with_attrs files)))))
    ∷ (codes "kind", Some (string (kind_text settings.kind))) ∷ []

-- those from `name` on
abbrev pub fields_from_name : Settings → ℕ → List (List ℕ × Option Data)
fields_from_name settings span =
    (codes "name", Some (string settings.name))
    ∷ (codes "piece length", Some (integer (pos settings.piece_length)))
    ∷ (codes "private", when settings.is_private (integer (pos 1)))
    ∷ (codes "single", when settings.single (integer (pos 1)))
    ∷ (codes "span", Some (integer (pos span)))
    ∷ (codes "tail", when settings.tail (integer (pos 1))) ∷ []
