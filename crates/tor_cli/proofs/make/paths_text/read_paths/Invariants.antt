-- The paths so far were read; of any paths that the text lists, those after them are left.
use Rattle.std.proofs.Common.{◌≡◌, ℕ, List, ◌++◌, length}
use Rattle.std.specs.List.{All}
use Rattle.tor_tree.specs.Path.{IsFilePath}
use Rattle.tor_cli.specs.make.PathsText.{listed_path, paths_text}
use Rattle.tor_cli.proofs.LinesLeft.{AreLeft}
use Rattle.tor_cli.proofs.make.paths_text.read_paths.Given as goal

abbrev pub invariant-paths : goal.invariant-paths
invariant-paths l =
    record {
      each : All IsFilePath l.paths.items;
      written : l.text ≡ paths_text l.paths.items ++ l.rest;
      left : (all : List (List (List ℕ))) → All IsFilePath all → l.text ≡ paths_text all
          → AreLeft IsFilePath listed_path all l.paths.items l.rest;
    }

abbrev pub decreases-paths : goal.decreases-paths
decreases-paths l = length l.rest
