-- The lines so far were read; of any files that the text is of, those after them are left.
use Rattle.std.proofs.Common.{◌≡◌, ℕ, List, ◌++◌, length}
use Rattle.std.specs.Prelude.{flat_map}
use Rattle.std.specs.List.{All}
use Rattle.tor_cli.specs.make.AttrsText.{IsLettered, attrs_line}
use Rattle.tor_tree.specs.declared.attr.Attr.{Attr}
use Rattle.tor_cli.proofs.LinesLeft.{AreLeft}
use Rattle.tor_cli.proofs.make.attrs_text.read_lines.Given as goal

abbrev pub invariant-lines : goal.invariant-lines
invariant-lines l =
    record {
      each : All IsLettered l.files.items;
      written : l.text ≡ flat_map attrs_line l.files.items ++ l.lines;
      left : (all : List (List (List ℕ) × Attr)) → All IsLettered all → l.text ≡ flat_map attrs_line all
          → AreLeft IsLettered attrs_line all l.files.items l.lines;
    }

abbrev pub decreases-lines : goal.decreases-lines
decreases-lines l = length l.lines
