-- For the invariants of `Feed` and what stands below it alone: bytes that are fed, cut into blocks.
use Rattle.std.specs.Prelude.{◌≡◌, ℕ, ◌+◌, ◌*◌, ◌/◌, ◌%◌, ◌^◌, ◌<◌, ◌≤◌, ◌++◌, List, length, take, drop}
use Rattle.std.specs.Int.{div_ceil}
use Rattle.sha2.specs.declared.Sha256.{Sha256}
use Rattle.sha2.specs.Hashers.{Holds256}
use Rattle.tor_merkle.specs.Block.{leaves}
use Rattle.tor_merkle.specs.Layer.{IsPieceLength}
use Rattle.tor_merkle.specs.steps.Pieces.{Growing}
use Rattle.tor_merkle.specs.declared.TheConstants.{BLOCK_LENGTH, MAX_LENGTH}

-- the bytes fed so far, in pieces of 2 ^ height blocks, and how many hashes of pieces their vector can have
pub record Blocks : Type 0 where
  pub height : ℕ
  pub bytes : List ℕ
  pub capacity : ℕ

-- how many bytes of n fill whole blocks
abbrev pub in_blocks : ℕ → ℕ
in_blocks n = n / BLOCK_LENGTH * BLOCK_LENGTH

-- the leaves are those of the whole blocks, and the hasher holds the bytes after them
pub record KeepsBlocks (count : ℕ) (hasher : Sha256) (done : List (List ℕ)) (bytes : List ℕ) : Type 0 where
  pub counted : count ≡ length bytes
  pub small : count ≤ MAX_LENGTH
  pub whole : done ≡ leaves (take (in_blocks count) bytes)
  pub rest : Holds256 hasher (drop (in_blocks count) bytes)

-- the pieces have their length, and each that was begun has room for its hash
pub record KeepsFeeding (piece_length : ℕ) (blocks : Blocks) : Type 0 where
  pub allowed : IsPieceLength piece_length
  pub low : blocks.height ≤ 16
  pub piece : piece_length ≡ BLOCK_LENGTH * 2 ^ blocks.height
  pub small : length blocks.bytes ≤ MAX_LENGTH
  pub reserved : div_ceil (length blocks.bytes) piece_length ≤ blocks.capacity

-- after bytes more, for whose pieces there was room
abbrev pub after_bytes : Blocks → List ℕ → Blocks
after_bytes blocks more = record {
  height = blocks.height;
  bytes = blocks.bytes ++ more;
  capacity = blocks.capacity;
}

-- the tree has the leaves of all bytes, and room for the hashes of their pieces
pub record KeepsFed (piece_length count : ℕ) (tree : Growing) (bytes : List ℕ) : Type 0 where
  pub counted : count ≡ length bytes
  pub allowed : IsPieceLength piece_length
  pub piece : piece_length ≡ BLOCK_LENGTH * 2 ^ tree.height
  pub whole : tree.leaves ≡ leaves bytes
  pub reserved : div_ceil (length bytes) piece_length ≤ tree.capacity

-- some bytes more, within the last block and within the longest content, and there is room for the pieces begun
pub record FitsBlock (blocks : Blocks) (part : List ℕ) : Type 0 where
  pub some : 0 < length part
  pub within : length blocks.bytes % BLOCK_LENGTH + length part ≤ BLOCK_LENGTH
  pub small : length blocks.bytes + length part ≤ MAX_LENGTH
  pub room : div_ceil (length blocks.bytes + length part) (BLOCK_LENGTH * 2 ^ blocks.height) ≤ blocks.capacity

-- some whole blocks more, at most eight, where none is begun
pub record FitsRun (blocks : Blocks) (run : List ℕ) : Type 0 where
  pub whole : length blocks.bytes % BLOCK_LENGTH ≡ 0
  pub cut : length run % BLOCK_LENGTH ≡ 0
  pub few : length run ≤ 8 * BLOCK_LENGTH
  pub small : length blocks.bytes + length run ≤ MAX_LENGTH
  pub room : div_ceil (length blocks.bytes + length run) (BLOCK_LENGTH * 2 ^ blocks.height) ≤ blocks.capacity
