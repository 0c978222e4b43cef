-- The lines of the siblings so far.
use Rattle.std.proofs.Common.{◌≡◌, ◌++◌, take, codes}
use Rattle.std.specs.List.{All}
use Rattle.std.specs.Prelude.{flat_map, string_bytes}
use Rattle.tor_cli.specs.proof.ProofText.{IsHash, index_line, hash_line, sibling_line}
use Rattle.tor_cli.proofs.proof.text.proof_text.Given as goal

abbrev pub invariant-loop-sibling : goal.invariant-loop-sibling
invariant-loop-sibling l =
    record {
      text : string_bytes l.text
          ≡ index_line l.index ++ hash_line (codes "hash ") l.hash
          ++ flat_map sibling_line (take l.sibling-index l.proof.siblings.items);
      hashes : All IsHash (take l.sibling-index l.proof.siblings.items);
    }
