-- What a torrent without fault has.
use Rattle.std.proofs.Common.{◌≡◌, refl, true, false, true≢false, Bool, ℕ, List, ◌∷◌, cond, Option, None, Some, codes}
use Rattle.std.proofs.Common.{unwrap_or}
use Rattle.std.specs.Prelude.{IsSome, drop, find}
use Rattle.tor_bencode.specs.Data.{Data, dictionary, no_pairs}
use Rattle.tor_bencode.specs.Find.{value_of}
use Rattle.tor_spec.specs.Hashes.{HasInfo}
use Rattle.tor_spec.specs.valid.Conditions.{IsTorrentOf, InfoShape, RootShape, conditions, holds, refusal_of}
use Rattle.tor_spec.specs.valid.Heads.{lacks_dictionary}
use Rattle.tor_spec.specs.valid.Parts.{info_of}

none_first : {C : Type 0} (p : C → Bool) (x : C) (xs : List C) → find p (x ∷ xs) ≡ None
    → (p x ≡ false) × (find p xs ≡ None)
none_first p x xs e = by_test (p x) e
  where
    by_test : (b : Bool) → cond b (Some x) (find p xs) ≡ None → (b ≡ false) × (find p xs ≡ None)
    by_test true e = absurd cc
    by_test false e = (refl, e)

there : (found : Option Data) → lacks_dictionary found ≡ false → IsSome found
there None e = absurd (true≢false e)
there (Some value) e = refl

-- V2 and V3 do not hold
info_there : (root : Data) → refusal_of root ≡ None → IsSome (value_of (codes "info") root)
info_there root none =
    let beyond = (none_first (holds root) RootShape (drop 1 conditions) none).1 in
    there (value_of (codes "info") root) (none_first (holds root) InfoShape (drop 2 conditions) beyond).0

pub has_info : (root : Data) (bytes : List ℕ) → IsTorrentOf root bytes → HasInfo bytes
has_info root bytes torrent = (root, torrent.lawful, torrent.spelled, info_there root torrent.accepted)

found_part : (found : Option Data) → IsSome found → found ≡ Some (unwrap_or found (dictionary no_pairs))
found_part None e = absurd cc
found_part (Some value) e = refl

-- what has `info` has it as its part
pub info_found : (root : Data) → refusal_of root ≡ None → value_of (codes "info") root ≡ Some (info_of root)
info_found root none = found_part (value_of (codes "info") root) (info_there root none)
