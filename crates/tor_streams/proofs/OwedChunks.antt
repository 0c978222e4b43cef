-- Chunks that get the sums of their pieces.
use Rattle.std.proofs.Common.{◌≡◌, ◌∙◌, ℕ, List, [], ◌∷◌, ◌++◌, length, map, refl, ap, ap₂, sym, cond, ◌≢◌, None}
use Rattle.std.proofs.Common.{Option, subst, sum_by}
use Rattle.std.proofs.lemmas.List.{with_items_is}
use Rattle.std.specs.Option.{ForSome}
use Rattle.std.specs.Vec.{with_items}
use Rattle.tor_lane.specs.declared.chunk.Chunk.{Chunk}
use Rattle.tor_merkle.specs.Feeding.{Feeding}
use Rattle.tor_v1.specs.Piece.{piece_sums, zeros}
use Rattle.tor_sums.specs.Hasher.{IsTreeOf}
use Rattle.tor_sums.specs.UnitSums.{bare_node, node_in}
use Rattle.tor_sums.specs.UnitNodes.{node_over}
use Rattle.tor_sums.specs.declared.hasher.Hashed.{Hashed}
use Rattle.tor_sums.specs.declared.owing_pieces.OwingPieces.{OwingPieces}
use Rattle.tor_sums.specs.declared.unit_sums.UnitSums.{UnitSums}
use Rattle.tor_sums.specs.steps.Each.{OweEach, SumUpEach}
use Rattle.tor_sums.specs.steps.Owing.{paid_each, paid_one}
use Rattle.tor_sums.proofs.PaidSums.{can_pay, owe_next, owe_none, paid_up}
use Rattle.tor_streams.specs.declared.chunking.Chunking.{Chunking}
use Rattle.tor_streams.specs.declared.owed_chunks.ChunkSums.{ChunkSums}
use Rattle.tor_streams.specs.steps.Cuts.{cut_of, facts_of, facts_of_chunk, pieces_of_cut}
use Rattle.tor_streams.specs.steps.OwedChunks.{AreOwed, IsOwed, IsToGet, MayWait, Owes, owed_to_chunk, paid_chunk}
use Rattle.tor_streams.specs.steps.OwedChunks.{sums_in}
use Rattle.tor_streams.proofs.ChunkFacts.{facts_are}

-- ---- one chunk

module _ (chunking : Chunking) (chunk : Chunk) (may : MayWait chunking chunk) where
  abbrev bytes : List ℕ
  bytes = chunk.bytes.items

  abbrev own : List ℕ
  own = pieces_of_cut chunking (cut_of chunk)

  pub own_is : own ≡ piece_sums chunking.piece_length (bytes ++ zeros chunk.zeros)
  own_is = ap (λ b. cond b (piece_sums chunking.piece_length (bytes ++ zeros chunk.zeros)) []) may.summed

  -- what it sums up to once it has them
  pub is_to_get : bytes ≢ [] → (hashed : Hashed) (sums : UnitSums)
      → length hashed.pieces.items ≡ length (piece_sums chunking.piece_length (bytes ++ zeros chunk.zeros))
      → IsTreeOf chunking.kind chunking.piece_length bytes hashed.tree → sums.unit ≡ chunk.unit
      → ForSome hashed.tree (λ (tree : Feeding). tree.bytes ≢ [] →
      node_in sums ≡ node_over tree.piece_length None tree.bytes)
      → (hashed.tree ≡ None → node_in sums ≡ bare_node) → sums.pieces ≡ hashed.pieces
      → IsToGet chunking chunk sums own
  is_to_get some hashed sums room tree unit node bare pieces =
      let long : length hashed.pieces.items ≡ length own = room ∙ sym (ap length own_is) in
      let given : Hashed = record { tree = hashed.tree; pieces = with_items hashed.pieces own } in
      record {
        room = ap (λ v. length v.items) pieces ∙ long;
        facts = facts_are chunking chunk.unit chunk.zeros bytes some given (paid_one sums own)
            (record {
              tree = tree;
              pieces = with_items_is hashed.pieces own (sym long ∙ sym hashed.pieces.ok.0);
            })
            unit node bare (ap (λ v. with_items v own) pieces);
      }

-- ---- all chunks

module _ {A B C : Type 0} (f : B → C) (g : A → C) where
  map_each : (units : List A) (items : List B) → SumUpEach (λ unit one. f one ≡ g unit) units items
      → map f items ≡ map g units
  unfolding SumUpEach
  map_each [] [] each = refl
  map_each [] (one ∷ items) each = absurd each
  map_each (unit ∷ units) [] each = absurd each
  map_each (unit ∷ units) (one ∷ items) each = ap₂ (λ x xs. x ∷ xs) each.0 (map_each units items each.1)

module _ (chunking : Chunking) (chunks : List Chunk) (items : List ChunkSums) (owed : List ℕ)
    (each : OweEach (IsOwed chunking) chunks items owed) where
  pub enough : sum_by owed_to_chunk items ≡ length owed
  enough = can_pay owed_to_chunk paid_chunk (IsOwed chunking) (λ chunk one own is. is.room) chunks items owed each

  pub all_paid : map (λ one. facts_of (sums_in one)) (paid_each owed_to_chunk paid_chunk items owed)
      ≡ map (facts_of_chunk chunking) chunks
  all_paid =
      map_each (λ one. facts_of (sums_in one)) (facts_of_chunk chunking) chunks
      (paid_each owed_to_chunk paid_chunk items owed)
      (paid_up owed_to_chunk paid_chunk (IsOwed chunking) (λ chunk one own is. is.room)
      (λ chunk one. facts_of (sums_in one) ≡ facts_of_chunk chunking chunk) (λ chunk one own is. is.facts) chunks items
      owed each)

-- no chunk was taken
pub owed_none : (chunking : Chunking) (items : List ChunkSums) → items ≡ [] → AreOwed chunking [] items None
owed_none chunking items none = record {
  owed = [];
  owes = refl;
  each = subst (λ (xs : List ChunkSums). OweEach (IsOwed chunking) [] xs []) (sym none) (owe_none (IsOwed chunking));
}

-- one more was
pub owed_more : (chunking : Chunking) (chunks : List Chunk) (chunk : Chunk) (old new : List ChunkSums)
    (owing owing' : Option OwingPieces) (one : ChunkSums) (are : AreOwed chunking chunks old owing) (own : List ℕ)
    → IsOwed chunking chunk one own → Owes chunking.piece_length (are.owed ++ own) owing' → new ≡ old ++ one ∷ []
    → AreOwed chunking (chunks ++ chunk ∷ []) new owing'
owed_more chunking chunks chunk old new owing owing' one are own is owes more = record {
  owed = are.owed ++ own;
  owes = owes;
  each = subst (λ (xs : List ChunkSums). OweEach (IsOwed chunking) (chunks ++ chunk ∷ []) xs (are.owed ++ own))
      (sym more) (owe_next (IsOwed chunking) chunks old are.owed chunk one own are.each is);
}
