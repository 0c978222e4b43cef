-- What a torrent describes that was judged.
use Rattle.std.specs.Prelude.{◌≡◌, map, None}
use Rattle.std.specs.List.Sorted.{IsStrictlySortedBy}
use Rattle.tor_bencode.specs.Data.{Data}
use Rattle.tor_bencode.specs.Lawful.{IsLawful}
use Rattle.tor_spec.specs.valid.Conditions.{refusal_of}
use Rattle.tor_spec.specs.valid.View.{View, view_of}
use Rattle.tor_tree.specs.Path.{path_cmp}

-- some lawful tree of which no condition holds describes it (profile)
pub record IsViewOfValid (view : View) : Type 0 where
  pub tree : Data
  pub lawful : IsLawful tree
  pub accepted : refusal_of tree ≡ None
  pub described : view ≡ view_of tree

-- the paths of its files strictly rise
abbrev pub HasRisingPaths : View → Type 0
HasRisingPaths view = IsStrictlySortedBy path_cmp (map (λ told. told.file.path) view.files)
