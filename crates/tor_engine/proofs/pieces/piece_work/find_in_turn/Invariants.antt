-- what was found of the pieces so far, none of which fails
use Rattle.std.proofs.Common.{◌≡◌, ◌++◌, ℕ, List, None, length, take}
use Rattle.tor_source.specs.Source.{SourceFacts}
use Rattle.tor_sums.specs.Contents.{contents_in}
use Rattle.tor_sums.specs.steps.Each.{OweEach}
use Rattle.tor_sums.specs.steps.Owing.{Owes}
use Rattle.tor_engine.specs.PieceFault.{pieces_fault}
use Rattle.tor_engine.specs.steps.Pieces.{AreTold}
use Rattle.tor_engine.specs.steps.Unsummed.{FindsPiece}
use Rattle.tor_engine.proofs.pieces.piece_work.find_in_turn.Given as goal

abbrev pub invariant-pieces : goal.invariant-pieces
invariant-pieces g l = record {
  owing : (owed : List ℕ) → Owes l.plan owed l.fn.worker → (own : List ℕ)
      × OweEach (FindsPiece (g.S.FileBytes.is_steady l.source) l.plan
      l.known.lengths.items) (take l.piece-index l.piece-items) l.found.items own
      × Owes l.plan (owed ++ own) l.worker;
  fault : (facts : SourceFacts g.row.S-Fault.Denot) → g.S.FileBytes.is_steady l.source facts →
      AreTold l.known.lengths.items (contents_in facts (length l.plan.lengths)) →
      pieces_fault facts (contents_in facts (length l.plan.lengths)) (take l.piece-index l.piece-items) ≡ None;
}
