-- SHA-1: the block that ends a message of whole blocks.
use Rattle.std.proofs.Common.{◌≡◌, ℕ, ◌+◌, ◌-◌, ◌*◌, ◌/◌, ◌%◌, ◌^◌, ◌<◌, ◌≤◌, take, drop, List, ◌∷◌, ◌++◌}
use Rattle.std.proofs.Common.{length-append, length, arith, refl, sym, ap, ◌∙◌}
use Rattle.std.specs.Prelude.{replicate}
use Rattle.std.specs.Int.{w64, to_be_bytes}
use Rattle.sha1.specs.Sha1.{word_at, hash_after, compress, padding, padded_message}
use Rattle.sha1.proofs.Absorbing.{hash_after-append, hash_after_next}
use Rattle.std.proofs.lemmas.List.{drop-append-le, drop_all, take_all, take-append-drop, length-take-le}
use Rattle.std.proofs.lemmas.Nat.{from_be_bytes-to_be_bytes_4}

-- one block after n whole blocks
pub one_block_more : (m p : List ℕ) (n : ℕ) → length m ≡ n * 64 → length p ≡ 64
    → hash_after (m ++ p) (n + 1) ≡ compress (hash_after m n) p
one_block_more m p n lm lp =
    let rest : drop (n * 64) (m ++ p) ≡ p =
    drop-append-le (n * 64) m p (omega arith) ∙ ap (λ (x : List ℕ). x ++ p) (drop_all (n * 64) m (omega arith)) in
    let last : take 64 (drop (n * 64) (m ++ p)) ≡ p = ap (take 64) rest ∙ take_all 64 p (omega arith) in
    rw (hash_after_next (m ++ p) n, last, hash_after-append m p n (omega arith)) refl

-- the hash value of a message of n whole blocks
pub final_one_more : (m p : List ℕ) (n : ℕ) → length m ≡ n * 64 → length p ≡ 64 → p ≡ padding (length m)
    → hash_after (padded_message m) (length (padded_message m) / 64) ≡ compress (hash_after m n) p
final_one_more m p n lm lp is =
    let len : length (m ++ p) ≡ (n + 1) * 64 = omega (arith, length-append m p) in
    let count : length (m ++ p) / 64 ≡ n + 1 = omega arith in
    ap (λ (x : List ℕ). hash_after (m ++ x) (length (m ++ x) / 64)) (sym is)
    ∙ ap (hash_after (m ++ p)) count ∙ one_block_more m p n lm lp

-- the hash value of the message of `size` bytes with which d begins
pub final_of_part : (d : List ℕ) (size n : ℕ) → size ≡ n * 64 → size ≤ length d → length (padding size) ≡ 64
    → hash_after (padded_message (take size d)) (length (padded_message (take size d)) / 64)
    ≡ compress (hash_after d n) (padding size)
final_of_part d size n whole room one =
    let m : List ℕ = take size d in
    let p : List ℕ = padding size in
    let lm : length m ≡ size = length-take-le size d room in
    let first : hash_after d n ≡ hash_after m n =
    ap (λ (x : List ℕ). hash_after x n) (sym (take-append-drop size d))
    ∙ hash_after-append m (drop size d) n (omega arith) in
    final_one_more m p n (omega arith) one (ap padding (sym lm)) ∙ ap (λ (h : List ℕ). compress h p) (sym first)

-- the padding of whole blocks of n bits is one block
abbrev pub padding_block : ℕ → List ℕ
padding_block n = 0x80 ∷ replicate 55 0 ++ to_be_bytes w64 n

pub padding_whole : (size : ℕ) → size % 64 ≡ 0 → size ≤ 2 ^ 28 → padding size ≡ padding_block (size * 8)
padding_whole size whole most =
    let zeros : (119 - size % 64) % 64 ≡ 55 = omega arith in
    let bits : size * 8 % 2 ^ 64 ≡ size * 8 = omega arith in
    rw (zeros, bits) refl

-- its last two words
pub word_fourteen : (n : ℕ) → n < 2 ^ 32 → word_at (padding_block n) (4 * 14) ≡ 0
word_fourteen n h = omega arith

pub word_fifteen : (n : ℕ) → n < 2 ^ 32 → word_at (padding_block n) (4 * 15) ≡ n
word_fifteen n h = from_be_bytes-to_be_bytes_4 n h

pub length-padding_whole : (size : ℕ) → size % 64 ≡ 0 → size ≤ 2 ^ 28 → length (padding size) ≡ 64
length-padding_whole size whole most = ap length (padding_whole size whole most)
