-- Contents cut into blocks, and the leaves of their trees (BEP 52, "pieces root").
use Rattle.std.specs.Prelude.{ℕ, ◌*◌, List, map, length, take, drop}
use Rattle.std.specs.Int.{div_ceil}
use Rattle.std.specs.List.{range_with_len}
use Rattle.sha2.specs.Sha256.{sha256}
use Rattle.tor_merkle.specs.declared.TheConstants.{BLOCK_LENGTH}

-- the i-th run of size elements, perhaps shorter at the end
abbrev pub run_at : {X : Type 0} → ℕ → List X → ℕ → List X
run_at size xs i = take size (drop (i * size) xs)

-- a content cut every 16,384 bytes. The last block may be shorter (BEP 52, "pieces root")
unfoldable pub blocks : List ℕ → List (List ℕ)
blocks content = map (run_at BLOCK_LENGTH content) (range_with_len 0 (div_ceil (length content) BLOCK_LENGTH))

-- the SHA-256 of each block (BEP 52, "pieces root"; FIPS 180-4, 6.2)
unfoldable pub leaves : List ℕ → List (List ℕ)
leaves content = map sha256 (blocks content)
