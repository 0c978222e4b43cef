-- What was hashed of a lot, as bytes: one dictionary (BEP 3, "bencoding").
use Rattle.std.specs.Prelude.{◌≡◌, ◌<◌, ◌≤◌, ◌%◌, ℕ, pos, List, codes, length}
use Rattle.std.specs.List.{AllByRecursion, flat_map}
use Rattle.tor_bencode.specs.Data.{Data, dictionary, integer, string, pair, no_pairs}
use Rattle.tor_bencode.specs.Spelling.{spelling}
use Rattle.tor_parts.specs.declared.lot_text.TheConstants.{MAX_LOTS}
use Rattle.tor_parts.specs.declared.lot_text.Lot.{Lot}

-- a lot's number, how many there are, the plan's digest, the hashes and SHA-1s of pieces (profile)
pub record LotFacts : Type 0 where
  pub number : ℕ
  pub lots : ℕ
  pub plan : List ℕ
  pub hashes : List (List ℕ)
  pub pieces : List ℕ

abbrev pub facts_of : Lot → LotFacts
facts_of lot = record {
  number = lot.number;
  lots = lot.lots;
  plan = lot.plan;
  hashes = lot.row.hashes.items;
  pieces = lot.row.pieces.items;
}

-- the digest and the hashes of the pieces have 32 bytes each
abbrev pub Is32 : List ℕ → Type 0
Is32 hash = length hash ≡ 32

-- one of at most 65,536 lots, with hashes of 32 bytes and SHA-1s of 20. Its digest has 32 bytes too (profile)
pub record IsLot (facts : LotFacts) : Type 0 where
  pub number : facts.number < facts.lots
  pub lots : facts.lots ≤ MAX_LOTS
  pub pieces : length facts.pieces % 20 ≡ 0
  pub plan : Is32 facts.plan
  pub hashes : AllByRecursion Is32 facts.hashes

abbrev pub joined : List (List ℕ) → List ℕ
joined hashes = flat_map (λ hash. hash) hashes

-- a lot as `hashes`, `part`, `parts`, `pieces` and `plan`. They are the joined hashes, its number, how many there are,
-- the joined SHA-1s, and the digest of its plan (BEP 3, "bencoding"; profile)
abbrev pub lot_dictionary : LotFacts → Data
lot_dictionary facts =
    dictionary (
    pair (codes "hashes") (string (joined facts.hashes)) (
    pair (codes "part") (integer (pos facts.number)) (
    pair (codes "parts") (integer (pos facts.lots)) (
    pair (codes "pieces") (string facts.pieces) (
    pair (codes "plan") (string facts.plan) no_pairs)))))

-- its bytes (BEP 3, "bencoding"; profile)
abbrev pub lot_bytes : LotFacts → List ℕ
lot_bytes facts = spelling (lot_dictionary facts)
