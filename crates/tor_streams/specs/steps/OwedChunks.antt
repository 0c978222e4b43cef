-- Chunks to which the sums of their pieces are owed. Only private clauses cite these.
use Rattle.std.specs.Prelude.{◌≡◌, ◌+◌, ◌%◌, ◌≤◌, ℕ, true, List, [], length, Option, None, Some}
use Rattle.tor_lane.specs.declared.chunk.Chunk.{Chunk}
use Rattle.tor_merkle.specs.declared.TheConstants.{MAX_LENGTH}
use Rattle.tor_tree.specs.Kinds.{has_v1}
use Rattle.tor_sums.specs.declared.owing_pieces.OwingPieces.{OwingPieces}
use Rattle.tor_sums.specs.declared.unit_sums.UnitSums.{UnitSums}
use Rattle.tor_sums.specs.steps.Each.{OweEach}
use Rattle.tor_sums.specs.steps.Owing.{paid_one}
use Rattle.tor_sums.specs.steps.OwingPieces.{OwesPieces}
use Rattle.tor_streams.specs.declared.chunk_sums.TheConstants.{MAX_PIECE_THAT_WAITS}
use Rattle.tor_streams.specs.declared.chunking.Chunking.{Chunking}
use Rattle.tor_streams.specs.declared.owed_chunks.ChunkSums.{ChunkSums}
use Rattle.tor_streams.specs.declared.owed_chunks.ChunkSums.TheVariants.{Owed, Whole}
use Rattle.tor_streams.specs.steps.Cuts.{facts_of, facts_of_chunk}

-- a chunk of pieces that are whole, and of no more bytes than a content has
pub record MayWait (chunking : Chunking) (chunk : Chunk) : Type 0 where
  pub summed : has_v1 chunking.kind ≡ true
  pub small : length chunk.bytes.items ≤ MAX_LENGTH
  pub few : chunk.zeros ≤ MAX_PIECE_THAT_WAITS
  pub whole : (length chunk.bytes.items + chunk.zeros) % chunking.piece_length ≡ 0

-- once it has these sums of its pieces, for which it has room, it is what the chunk sums up to
pub record IsToGet (chunking : Chunking) (chunk : Chunk) (sums : UnitSums) (own : List ℕ) : Type 0 where
  pub room : length sums.pieces.items ≡ length own
  pub facts : facts_of (paid_one sums own) ≡ facts_of_chunk chunking chunk

abbrev pub sums_in : ChunkSums → UnitSums
sums_in (Whole sums) = sums
sums_in (Owed sums) = sums

-- how many bytes of sums are owed
abbrev pub owed_to_chunk : ChunkSums → ℕ
owed_to_chunk (Whole sums) = 0
owed_to_chunk (Owed sums) = length sums.pieces.items

abbrev pub paid_chunk : ChunkSums → List ℕ → ChunkSums
paid_chunk (Whole sums) own = Whole sums
paid_chunk (Owed sums) own = Owed (paid_one sums own)

-- these are owed to it: with them it is what the chunk sums up to
pub record IsOwed (chunking : Chunking) (chunk : Chunk) (one : ChunkSums) (own : List ℕ) : Type 0 where
  pub room : owed_to_chunk one ≡ length own
  pub facts : facts_of (sums_in (paid_chunk one own)) ≡ facts_of_chunk chunking chunk

-- all that is owed, where it was begun
abbrev pub Owes : ℕ → List ℕ → Option OwingPieces → Type 0
Owes piece_length owed None = owed ≡ []
Owes piece_length owed (Some pieces) = OwesPieces piece_length owed pieces

-- what was made of these chunks, in their order, and what is owed to them
pub record AreOwed (chunking : Chunking) (chunks : List Chunk) (sums : List ChunkSums) (owing : Option OwingPieces)
    : Type 0 where
  pub owed : List ℕ
  pub owes : Owes chunking.piece_length owed owing
  pub each : OweEach (IsOwed chunking) chunks sums owed
