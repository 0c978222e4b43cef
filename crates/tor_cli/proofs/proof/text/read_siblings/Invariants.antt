-- The lines of the siblings so far were read; of any siblings that the text is of, those after them are left.
use Rattle.std.proofs.Common.{◌≡◌, ℕ, List, ◌++◌, length, ◌≤◌}
use Rattle.std.specs.Prelude.{flat_map}
use Rattle.std.specs.List.{All}
use Rattle.tor_cli.specs.proof.ProofText.{IsHash, sibling_line}
use Rattle.tor_cli.proofs.LinesLeft.{AreLeft}
use Rattle.tor_cli.proofs.proof.text.read_siblings.Given as goal

abbrev pub invariant-lines : goal.invariant-lines
invariant-lines l =
    record {
      hashes : All IsHash l.siblings.items;
      written : l.text ≡ flat_map sibling_line l.siblings.items ++ l.lines;
      count : length l.siblings.items ≤ 36;
      left : (all : List (List ℕ)) → All IsHash all → l.text ≡ flat_map sibling_line all
          → AreLeft IsHash sibling_line all l.siblings.items l.lines;
    }

abbrev pub decreases-lines : goal.decreases-lines
decreases-lines l = length l.lines
