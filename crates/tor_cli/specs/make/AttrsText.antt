-- The text that says which letters of `attr` files have (BEP 47, "attr").
use Rattle.std.specs.Prelude.{◌≡◌, ℕ, false, List, [], ◌++◌, flat_map, codes, IsSome, unwrap_or}
use Rattle.std.specs.List.{All}
use Rattle.tor_tree.specs.FileList.{paths_of, paths_repeat}
use Rattle.tor_tree.specs.Name.{has_byte}
use Rattle.tor_tree.specs.Path.{IsFilePath}
use Rattle.tor_tree.specs.Letters.{letters}
use Rattle.tor_report.specs.Shown.{path_text}
use Rattle.tor_tree.specs.declared.attr.Attr.{Attr}

-- the line of a file: its letters, and its path
abbrev pub attrs_line : List (List ℕ) × Attr → List ℕ
attrs_line file = unwrap_or (letters file.1) [] ++ (codes " " ++ (path_text file.0 ++ codes "\n"))

-- a line for each file: its letters, a space, its path (BEP 47, "attr"; profile)
unfoldable pub attrs_text : List (List (List ℕ) × Attr) → List ℕ
attrs_text files = flat_map attrs_line files

-- the byte that ends a line
abbrev pub line_feed : ℕ
line_feed = 10

-- what a line can be of: a path that stands in one line, and at least one letter
pub record IsLettered (file : List (List ℕ) × Attr) : Type 0 where
  pub path : IsFilePath file.0
  pub in_line : All (λ name. has_byte line_feed name ≡ false) file.0
  pub lettered : IsSome (letters file.1)

-- each file has letters and a path in one line, and no path stands twice. It is what a text can be of: each has a line,
-- and no path has two (profile)
pub record AreLettered (files : List (List (List ℕ) × Attr)) : Type 0 where
  pub each : All IsLettered files
  pub once : paths_repeat (paths_of files) ≡ false
