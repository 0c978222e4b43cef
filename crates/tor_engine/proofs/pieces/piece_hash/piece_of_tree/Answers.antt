-- the hash of each side
use Rattle.std.proofs.Common.{ℕ, List, Option, None, Some, ap, cond, is_some, ◌∙◌}
use Rattle.tor_plan.specs.Content.{unit_content}
use Rattle.tor_tree.specs.Kinds.{has_v1}
use Rattle.tor_v1.specs.Piece.{piece_sums}
use Rattle.tor_engine.specs.steps.Pieces.{hashes_in, owed_to_piece, paid_piece}
use Rattle.tor_engine.specs.steps.Unsummed.{found_of}
use Rattle.tor_engine.proofs.OnePiece.{found_is, is_found, owed_by, pieces_there}
use Rattle.tor_engine.proofs.pieces.piece_hash.piece_of_tree.Goals as goal

pub returns-clause-hashes : goal.returns-clause-hashes
returns-clause-hashes c = λ contents own there of is.
    let plan = c.args.plan.now in
    let piece = c.args.piece.now in
    let v2 = c.merkle_hash_of_piece-v2.result in
    let sums = piece_sums plan.piece_length (unit_content contents piece) in
    ap (λ found. hashes_in (paid_piece found own)) (c.found_of.ensures ∙ ap (λ kind. found_of kind v2) c.kind.ensures)
    ∙ found_is (has_v1 plan.kind) v2 own sums is
    ∙ ap (λ (hash : Option (List ℕ)). Some (record { v1 = cond (has_v1 plan.kind) (Some sums) None; v2 = hash }))
    (c.merkle_hash_of_piece-v2.ensures contents (pieces_there plan contents piece c.requires there) of)

pub returns-clause-owed : goal.returns-clause-owed
returns-clause-owed c =
    let v2 = c.merkle_hash_of_piece-v2.result in
    ap owed_to_piece (c.found_of.ensures ∙ ap (λ kind. found_of kind v2) c.kind.ensures)
    ∙ owed_by (has_v1 c.args.plan.now.kind) v2

pub returns-clause-there : goal.returns-clause-there
returns-clause-there c =
    ap (λ found. is_some (hashes_in found)) c.found_of.ensures
    ∙ is_found (has_v1 c.kind.result) c.merkle_hash_of_piece-v2.result
