-- What is read of a plan. Only private clauses cite these.
use Rattle.std.specs.Prelude.{◌≡◌, ◌<◌, ◌^◌, ◌++◌, ℕ, List, None, length}
use Rattle.std.specs.List.{AllByRecursion}
use Rattle.tor_meta.specs.PlanText.{PlanText, path_text}
use Rattle.tor_meta.specs.declared.head.Head.{Head}
use Rattle.tor_meta.specs.declared.plans.plan_reading.PlanParts.{PlanParts}
use Rattle.tor_meta.specs.steps.PlanText.{text_of}
use Rattle.tor_tree.specs.Name.{name_fault}
use Rattle.tor_tree.specs.Path.{IsFilePath}
use Rattle.tor_tree.specs.declared.attr.Attr.{Attr}

-- the text of a plan with these parts
abbrev pub parts_text : PlanParts → PlanText
parts_text parts = text_of parts.head parts.span parts.files.items parts.attrs.items

-- a head that can be told
pub record IsHeadRead (head : Head) : Type 0 where
  pub name : name_fault head.name ≡ None
  pub piece_length : head.piece_length < 2 ^ 63

-- files that can be told, and letters for each
pub record AreLists (files : List (List (List ℕ) × ℕ)) (attrs : List Attr) : Type 0 where
  pub one_each : length attrs ≡ length files
  pub each : AllByRecursion (λ file. IsFilePath file.0 × (file.1 < 2 ^ 63)) files

-- what was read is this file
pub record IsFileRead (file : (List (List ℕ) × ℕ) × Attr) (read : List (List ℕ) × ℕ × Attr) : Type 0 where
  pub path : read.0 ≡ file.0.0
  pub size : read.1 ≡ file.0.1
  pub attr : read.2 ≡ file.1

-- the names of a path that are still to be read, behind these
pub record IsLeft (path names : List (List ℕ)) (rest : List ℕ) : Type 0 where
  pub left : List (List ℕ)
  pub some : 0 < length left
  pub joined : names ++ left ≡ path
  pub spelled : rest ≡ path_text left
