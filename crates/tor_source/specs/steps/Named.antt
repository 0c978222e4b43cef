-- For the loop of `find` alone: files that were looked for below a folder.
use Rattle.std.specs.Prelude.{◌≡◌, ◌≤◌, ℕ, List, length, map, vec_len}
use Rattle.std.specs.List.{All}
use Rattle.tor_source.specs.Named.{AreParted, path_of}
use Rattle.tor_source.specs.declared.folder.found.FoundFiles.{FoundFiles}
use Rattle.tor_source.specs.declared.folder.named.Sought.{Sought}
use Rattle.tor_source.specs.declared.folder.named.Sought.TheVariants.{File, NotTaken}
use Rattle.tor_tree.specs.declared.paths.TheConstants.{MAX_NAMES}

-- of these files each was taken or refused, and each that was taken has at most 64 names
pub record HasLookedFor (files : List (List (List ℕ))) (found : FoundFiles) : Type 0 where
  pub parted : AreParted files found.paths.items (map path_of found.refused.items)
  pub short : All (λ path. length path ≤ MAX_NAMES) found.paths.items
  pub told : vec_len found.listed.lengths ≡ length found.paths.items

-- a file that so many names lead to is no deeper than it may be
abbrev pub IsSought : ℕ → Sought → Type 0
IsSought depth (File _) = depth ≤ MAX_NAMES
IsSought depth (NotTaken _) = Unit {0}
