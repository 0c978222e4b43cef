-- the tree was ended with the bytes, and their pieces wait
use Rattle.std.proofs.Common.{[], ◌++◌, List, ℕ, ap, arith, length, ◌∙◌, refl, sym, subst}
use Rattle.tor_v1.specs.Piece.{piece_sums, zeros}
use Rattle.tor_sums.specs.Hasher.{IsTreeOf}
use Rattle.tor_sums.specs.declared.hasher.Hashed.{Hashed}
use Rattle.tor_sums.specs.steps.OwingPieces.{OwesPieces}
use Rattle.tor_sums.proofs.OwedSums.{something_in}
use Rattle.tor_streams.proofs.OwedChunks.{is_to_get, own_is}
use Rattle.tor_streams.proofs.chunk_sums.owe_chunk.Goals as goal

pub add_unit-requires-clause-small : goal.add_unit-requires-clause-small
add_unit-requires-clause-small c =
    let long = ap length c.as_slice-bytes.ensures.value in
    omega (arith, long, c.requires.waits.small, c.requires.waits.few)

pub finish_tree-requires : goal.finish_tree-requires
finish_tree-requires c = λ feed is.
    let long = ap length c.as_slice-bytes.ensures.value in
    let none = ap length (c.new-hasher.ensures.empty feed is) in
    omega (arith, long, none, c.requires.waits.small)

pub returns-clause-get : goal.returns-clause-get
returns-clause-get c =
    let chunking = c.args.chunking in
    let chunk = c.args.chunk.now in
    let p = chunking.piece_length in
    let same = c.as_slice-bytes.ensures.value in
    let bytes = c.as_slice-bytes.result.now in
    let some = something_in (length bytes) bytes refl c.if-is_empty.ensures in
    let are = c.in_ok-tree.ensures chunking.kind p [] [] c.new-hasher.ensures.fed in
    let hashed : Hashed = record { tree = c.in_ok-tree.field-0.tree; pieces = c.in_ok-pieces.pieces } in
    is_to_get chunking chunk c.requires.waits (λ none. omega (arith, some, ap length (same ∙ none))) hashed c.new.result
    (c.in_ok-pieces.ensures.room
    ∙ ap (λ xs. length (piece_sums p (xs ++ zeros chunk.zeros))) same)
    (subst (λ (xs : List ℕ). IsTreeOf chunking.kind p xs hashed.tree) same are.tree)
    c.new.ensures.unit c.new.ensures.node c.new.ensures.bare c.new.ensures.pieces

pub returns-clause-owes : goal.returns-clause-owes
returns-clause-owes c = λ owed owes.
    let chunk = c.args.chunk.now in
    let p = c.args.chunking.piece_length in
    subst (λ (own : List ℕ). OwesPieces p (owed ++ own) c.add_unit.new.self)
    (ap (λ xs. piece_sums p (xs ++ zeros chunk.zeros)) c.as_slice-bytes.ensures.value
    ∙ sym (own_is c.args.chunking chunk c.requires.waits))
    (c.in_ok-pieces.ensures.owes owed owes)
