-- Info hashes (BEP 3, "info_hash"; BEP 52, "infohash"), and magnet links (BEP 9, "magnet URI format"; BEP 52,
-- "magnet links").
use Rattle.std.specs.Prelude.{◌≡◌, ◌⊎◌, ℕ, List, [], ◌++◌, Option, None, Some, IsSome, codes, if◌then◌else◌}
use Rattle.hex.specs.Hex.{encode_lower}
use Rattle.sha1.specs.Sha1.{sha1}
use Rattle.sha2.specs.Sha256.{sha256}
use Rattle.tor_bencode.specs.Data.{Data}
use Rattle.tor_bencode.specs.Find.{value_of}
use Rattle.tor_bencode.specs.Lawful.{IsLawful}
use Rattle.tor_bencode.specs.Spelling.{spelling}
use Rattle.tor_spec.specs.declared.hashes.Hashes.{Hashes}
use Rattle.tor_tree.specs.Kinds.{has_v1, has_v2}
use Rattle.tor_tree.specs.declared.kinds.Kind.{Kind}

-- the bytes spell a lawful tree that has `info` (BEP 3, "metainfo files")
abbrev pub HasInfo : List ℕ → Type 0
HasInfo bytes = (root : Data) × IsLawful root × (bytes ≡ spelling root) × IsSome (value_of (codes "info") root)

-- the SHA-1 and the SHA-256 of the spelling of `info`. There is each if the kind has that side (BEP 3, "info_hash"; BEP
-- 52, "infohash")
pub record AreInfoHashes (kind : Kind) (info : List ℕ) (hashes : Hashes) : Type 0 where
  pub first : hashes.v1 ≡ (if has_v1 kind then Some (sha1 info) else None)
  pub second : hashes.v2 ≡ (if has_v2 kind then Some (sha256 info) else None)

abbrev pub HasHash : Hashes → Type 0
HasHash hashes = IsSome hashes.v1 ⊎ IsSome hashes.v2

-- a hash of version 1, and one of version 2 as a multihash: 12 says SHA-256, 20 its 32 bytes
abbrev pub btih : List ℕ → List ℕ
btih hash = codes "xt=urn:btih:" ++ encode_lower hash

abbrev pub btmh : List ℕ → List ℕ
btmh hash = codes "xt=urn:btmh:1220" ++ encode_lower hash

abbrev pub topics : Option (List ℕ) → Option (List ℕ) → List ℕ
topics None None = []
topics (Some first) None = btih first
topics None (Some second) = btmh second
topics (Some first) (Some second) = btih first ++ (codes "&" ++ btmh second)

-- `magnet:?`, then `xt=urn:btih:` and `xt=urn:btmh:1220` with the hashes, `&` between. Their digits are in lower case,
-- and there is a topic for each hash (BEP 9, "magnet URI format"; BEP 52, "magnet links")
abbrev pub magnet_link : Hashes → List ℕ
magnet_link hashes = codes "magnet:?" ++ topics hashes.v1 hashes.v2
