-- The letters that files get by a list of them (BEP 47, "attr"), which a file of the system may have.
use Rattle.std.specs.Prelude.{◌≡◌, ℕ, List, [], ◌∷◌, map, Option, None, Some, if◌then◌else◌}
use Rattle.std.specs.List.{All, Contains}
use Rattle.tor_meta.specs.Contents.{without_letters}
use Rattle.tor_tree.specs.FileList.{paths_of}
use Rattle.tor_tree.specs.Letters.{no_letters}
use Rattle.tor_tree.specs.Path.{path_eq}
use Rattle.tor_tree.specs.declared.attr.Attr.{Attr}
use Rattle.tor_cli.specs.make.AttrsText.{AreLettered, attrs_text}
use Rattle.tor_cli.specs.Foreign.{OfSome}
use Rattle.tor_cli.specs.declared.proof.claim.ArgumentFault.TheVariants.{Attrs}
use Rattle.tor_cli.specs.declared.fault.Fault.{Fault}
use Rattle.tor_cli.specs.declared.fault.Fault.TheVariants.{Argument, Read, TooLong, Resources}

-- the letters that a path has in a list, and none where it is not there
abbrev pub letters_in : List (List (List ℕ) × Attr) → List (List ℕ) → Attr
letters_in [] path = no_letters
letters_in (file ∷ files) path = if path_eq file.0 path then file.1 else letters_in files path

-- paths, each with its letters in a list
abbrev pub lettered : List (List (List ℕ) × Attr) → List (List (List ℕ)) → List (List (List ℕ) × Attr)
lettered named paths = map (λ path. (path, letters_in named path)) paths

-- each path of a list is among these
abbrev pub AreAmong : List (List (List ℕ)) → List (List (List ℕ) × Attr) → Type 0
AreAmong paths named = All (λ file. Contains paths file.0) named

-- the bytes are the text of those files that have letters. It is that of a list by which these files have their
-- letters, and which names no other (BEP 47, "attr"; profile)
pub record AreLetteredBy (bytes : List ℕ) (files : List (List (List ℕ) × Attr)) : Type 0 where
  pub named : List (List (List ℕ) × Attr)
  pub are : AreLettered named
  pub spelled : attrs_text named ≡ bytes
  pub among : AreAmong (paths_of files) named
  pub each : files ≡ lettered named (paths_of files)

-- files have the letters that some bytes tell, or none. The bytes are those that the program took for a file's; if no
-- file is named, there are no letters (profile)
abbrev pub HaveLetters : Option (List ℕ) → List (List (List ℕ) × Attr) → Type 0
HaveLetters None files = files ≡ without_letters (paths_of files)
HaveLetters (Some place) files = OfSome (λ bytes. AreLetteredBy bytes files)

-- by these bytes no files of these paths have letters (profile)
abbrev pub AreBadAttrs : List (List (List ℕ)) → List ℕ → Type 0
AreBadAttrs paths bytes =
    (files : List (List (List ℕ) × Attr)) → paths_of files ≡ paths → AreLetteredBy bytes files → ⊥

-- why files of these paths get none (profile)
abbrev pub IsNotLettered : Option (List ℕ) → List (List (List ℕ)) → Fault → Type 0
IsNotLettered place paths Resources = Unit {0}
IsNotLettered (Some place) paths (Argument Attrs) = OfSome (AreBadAttrs paths)
IsNotLettered (Some place) paths (Read fault) = Unit {0}
IsNotLettered (Some place) paths TooLong = Unit {0}
IsNotLettered place paths other = ⊥
