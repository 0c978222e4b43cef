-- What a recheck hashes. Only private clauses cite this.
use Rattle.std.specs.Prelude.{ℕ, List, Option}
use Rattle.tor_engine.specs.PieceHashes.{hashes_of_pieces, piece_hashes}
use Rattle.tor_engine.specs.declared.pieces.piece_hash.PieceHash.{PieceHash}
use Rattle.tor_plan.specs.PlanFacts.{PlanFacts, plan_of_entries}
use Rattle.tor_recheck.specs.Lots.{in_lot}
use Rattle.tor_view.specs.Pieces.{entries_to_cut, pieces_of}
use Rattle.tor_recheck.specs.declared.rechecking.TheConstants.{SPAN}
use Rattle.tor_spec.specs.valid.View.{View}

-- the units that a recheck takes
abbrev pub cut_plan : View → PlanFacts
cut_plan view = plan_of_entries view.kind view.piece_length SPAN (entries_to_cut view)

-- what the pieces of a torrent hash to, where its files have these contents
abbrev pub hashes_in : View → List (List ℕ) → List (Option PieceHash)
hashes_in view contents =
    piece_hashes (plan_of_entries view.kind view.piece_length SPAN (entries_to_cut view)) contents

-- what the pieces of a lot hash to
abbrev pub hashes_in_lot : View → ℕ → ℕ → List (List ℕ) → List (Option PieceHash)
hashes_in_lot view lots lot contents =
    hashes_of_pieces (cut_plan view) contents (in_lot lots lot (pieces_of view))
