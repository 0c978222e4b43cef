-- The text of a proof of a piece.
use Rattle.std.specs.Prelude.{◌≡◌, ◌<◌, ◌≤◌, ◌^◌, ℕ, List, ◌++◌, length, map, flat_map, codes}
use Rattle.std.specs.Char.{to_ascii_lowercase}
use Rattle.std.specs.List.{All}
use Rattle.hex.specs.Hex.{encode_lower}
use Rattle.tor_bencode.specs.Spelling.{base_ten}

-- a hash is 32 bytes
pub record IsHash (hash : List ℕ) : Type 0 where
  pub size : length hash ≡ 32
  pub bytes : All (λ byte. byte < 256) hash

abbrev pub index_line : ℕ → List ℕ
index_line index = codes "index " ++ (base_ten index ++ codes "\n")

-- a word and the digits of a hash
abbrev pub hash_line : List ℕ → List ℕ → List ℕ
hash_line word hash = word ++ (encode_lower hash ++ codes "\n")

abbrev pub sibling_line : List ℕ → List ℕ
sibling_line = hash_line (codes "sibling ")

-- the text of a proof: lines of index, hash and siblings. The siblings are those on the way to the root, lowest first
-- (profile)
unfoldable pub proof_text : ℕ → List ℕ → List (List ℕ) → List ℕ
proof_text index hash siblings =
    index_line index ++ hash_line (codes "hash ") hash ++ flat_map sibling_line siblings

-- an index below 2^64, a hash and at most 36 siblings, of 32 bytes each. It is what a text can be of (profile)
pub record IsProof (index : ℕ) (hash : List ℕ) (siblings : List (List ℕ)) : Type 0 where
  pub below : index < 2 ^ 64
  pub is_hash : IsHash hash
  pub are_hashes : All IsHash siblings
  pub few : length siblings ≤ 36

-- 64 hexadecimal digits of either case, of this hash
abbrev pub IsRootText : List ℕ → List ℕ → Type 0
IsRootText text hash = IsHash hash × (encode_lower hash ≡ map to_ascii_lowercase text)
