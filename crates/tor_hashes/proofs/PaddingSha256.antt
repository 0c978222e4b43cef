-- SHA-256: the block that ends a message of whole blocks.
use Rattle.std.proofs.Common.{◌≡◌, ℕ, ◌+◌, ◌*◌, ◌/◌, ◌≤◌, take, drop, List, ◌++◌, length-append, length, slice_index}
use Rattle.std.proofs.Common.{arith, refl, sym, ap, ◌∙◌}
use Rattle.sha2.specs.Sha256.{hash_after, compress, final_hash, padding, rounds, round, round_constants}
use Rattle.sha2.proofs.Absorbing256.{hash_after-append, hash_after_next}
use Rattle.sha2.proofs.Schedule256.{rounds_next}
use Rattle.std.proofs.lemmas.List.{drop-append-le, drop_all, take_all, take-append-drop, length-take-le}

-- one block after n whole blocks
pub one_block_more : (i m p : List ℕ) (n : ℕ) → length m ≡ n * 64 → length p ≡ 64
    → hash_after i (m ++ p) (n + 1) ≡ compress (hash_after i m n) p
one_block_more i m p n lm lp =
    let rest : drop (n * 64) (m ++ p) ≡ p =
    drop-append-le (n * 64) m p (omega arith) ∙ ap (λ (x : List ℕ). x ++ p) (drop_all (n * 64) m (omega arith)) in
    let last : take 64 (drop (n * 64) (m ++ p)) ≡ p = ap (take 64) rest ∙ take_all 64 p (omega arith) in
    rw (hash_after_next i (m ++ p) n, last, hash_after-append i m p n (omega arith)) refl

-- the hash value of a message of n whole blocks
pub final_one_more : (i m p : List ℕ) (n : ℕ) → length m ≡ n * 64 → length p ≡ 64 → p ≡ padding (length m)
    → final_hash i m ≡ compress (hash_after i m n) p
final_one_more i m p n lm lp is =
    let len : length (m ++ p) ≡ (n + 1) * 64 = omega (arith, length-append m p) in
    let count : length (m ++ p) / 64 ≡ n + 1 = omega arith in
    ap (λ (x : List ℕ). hash_after i (m ++ x) (length (m ++ x) / 64)) (sym is)
    ∙ ap (hash_after i (m ++ p)) count ∙ one_block_more i m p n lm lp

-- the hash value of the message of `size` bytes with which d begins
pub final_of_part : (i d : List ℕ) (size n : ℕ) → size ≡ n * 64 → size ≤ length d → length (padding size) ≡ 64
    → final_hash i (take size d) ≡ compress (hash_after i d n) (padding size)
final_of_part i d size n whole room one =
    let m : List ℕ = take size d in
    let p : List ℕ = padding size in
    let lm : length m ≡ size = length-take-le size d room in
    let first : hash_after i d n ≡ hash_after i m n =
    ap (λ (x : List ℕ). hash_after i x n) (sym (take-append-drop size d))
    ∙ hash_after-append i m (drop size d) n (omega arith) in
    final_one_more i m p n (omega arith) one (ap padding (sym lm)) ∙ ap (λ (h : List ℕ). compress h p) (sym first)

-- one round more, with the words ws
pub one_round_more : (h v ws : List ℕ) (t x : ℕ) (next : List ℕ) → v ≡ rounds h ws t → x ≡ slice_index ws t
    → next ≡ round v (slice_index round_constants t) x → next ≡ rounds h ws (t + 1)
one_round_more h v ws t x next ev ex en = rw en (rw (rounds_next h ws t, ← ev, ex) refl)
