-- SHA-256: the end of a message, hashed where it lies by itself.
use Rattle.std.proofs.Common.{◌≡◌, ℕ, zero, suc, ◌+◌, ◌-◌, ◌*◌, ◌/◌, ◌%◌, ◌≤◌, List, ◌++◌, length, take, drop}
use Rattle.std.proofs.Common.{arith, ap, sym, ◌∙◌, refl, length-append}
use Rattle.std.proofs.lemmas.List.{drop-append-le, drop-drop, drop-take, take-take}
use Rattle.sha2.specs.Sha256.{final_hash, hash_after, padding}
use Rattle.sha2.proofs.Absorbing256.{hash_after-append}

-- a block within the first m bytes
block_within : (xs : List ℕ) (m i : ℕ) → i * 64 + 64 ≤ m
    → take 64 (drop (i * 64) (take m xs)) ≡ take 64 (drop (i * 64) xs)
block_within xs m i fits =
    let cut : m ≡ i * 64 + (m - i * 64) = omega arith in
    rw (cut, drop-take (i * 64) (m - i * 64) xs) (take-take 64 (m - i * 64) (drop (i * 64) xs) (omega arith))

-- a message of k whole blocks and a rest, its padding, and bytes that begin with the rest and the padding in n blocks
module _ (ini message padding end : List ℕ) (k n : ℕ) (whole : k * 64 ≤ length message)
    (begins : take (n * 64) end ≡ drop (k * 64) message ++ padding) where
  -- block i of the end is block k + i of the padded message
  end_block : (i : ℕ) → i * 64 + 64 ≤ n * 64
      → take 64 (drop (i * 64) end) ≡ take 64 (drop ((k + i) * 64) (message ++ padding))
  end_block i fits =
      let at : (k + i) * 64 ≡ k * 64 + i * 64 = omega arith in
      sym (block_within end (n * 64) i fits)
      ∙ ap (λ (x : List ℕ). take 64 (drop (i * 64) x)) (begins ∙ sym (drop-append-le (k * 64) message padding whole))
      ∙ ap (take 64) (drop-drop (i * 64) (k * 64) (message ++ padding))
      ∙ ap (λ (m : ℕ). take 64 (drop m (message ++ padding))) (sym at)

  pub goes_on : (i t : ℕ) → i ≤ n → t ≡ k + i
      → hash_after (hash_after ini message k) end i ≡ hash_after ini (message ++ padding) t
  unfolding hash_after
  goes_on zero t le is =
      let same : t ≡ k = omega arith in rw same (sym (hash_after-append ini message padding k whole))
  goes_on (suc i) t le is =
      let next : t ≡ suc (k + i) = omega arith in
      rw next (rw (goes_on i (k + i) (omega arith) refl, end_block i (omega arith)) refl)

-- the hash value of a message, whose end is hashed after its whole blocks
pub final_of_end : (ini m end : List ℕ) (k n : ℕ) → k ≡ length m / 64
    → take (n * 64) end ≡ drop (k * 64) m ++ padding (length m) → length m % 64 + length (padding (length m)) ≡ n * 64
    → hash_after (hash_after ini m k) end n ≡ final_hash ini m
final_of_end ini m end k n counted begins whole =
    let p : List ℕ = padding (length m) in
    let blocks : length (m ++ p) / 64 ≡ k + n = omega (arith, length-append m p) in
    goes_on ini m p end k n (omega arith) begins n (length (m ++ p) / 64) (omega arith) blocks
