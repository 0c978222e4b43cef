-- The root that a hash and its siblings name, one level after another, and the tests of the siblings past the end.
use Rattle.tor_merkle.proofs.Names.{◌≡◌, ℕ, ◌/◌, ◌%◌, ◌<◌, Bool, true, false, List, [], ◌∷◌, arith, refl, ap, ◌∙◌}
use Rattle.tor_merkle.proofs.Names.{zero-add, cond-true, cond-false, eq-eqb, ne_eqb, list_all_at, get_or-range_with_len}
use Rattle.tor_merkle.proofs.Names.{length-range_with_len, list_all-from_AllPass, list_all, range_with_len, proof_root}
use Rattle.tor_merkle.proofs.Names.{node_of}

pub proof_root-none : (hash : List ℕ) (index : ℕ) → proof_root hash index [] ≡ hash
unfolding proof_root
proof_root-none hash index = refl

-- at an even index the hash is the left one
pub proof_root-left : (hash : List ℕ) (index : ℕ) (sibling : List ℕ) (siblings : List (List ℕ)) → index % 2 ≡ 0
    → proof_root hash index (sibling ∷ siblings) ≡ proof_root (node_of hash sibling) (index / 2) siblings
unfolding proof_root
proof_root-left hash index sibling siblings even =
    ap (λ x. proof_root x (index / 2) siblings) (cond-true _ _ _ (eq-eqb (index % 2) 0 even))

pub proof_root-right : (hash : List ℕ) (index : ℕ) (sibling : List ℕ) (siblings : List (List ℕ))
    → (index % 2 ≡ 0 → ⊥)
    → proof_root hash index (sibling ∷ siblings) ≡ proof_root (node_of sibling hash) (index / 2) siblings
unfolding proof_root
proof_root-right hash index sibling siblings odd =
    ap (λ x. proof_root x (index / 2) siblings) (cond-false _ _ _ (ne_eqb (index % 2) 0 odd))

-- a test of all numbers below n
pub all_below : (test : ℕ → Bool) (n : ℕ) → ((k : ℕ) → k < n → test k ≡ true)
    → list_all test (range_with_len 0 n) ≡ true
all_below test n all = list_all-from_AllPass test (range_with_len 0 n) (λ k d lt.
    let below : k < n = omega (arith, length-range_with_len 0 n) in
    ap test (get_or-range_with_len 0 n k d below ∙ zero-add k) ∙ all k below)

pub one_below : (test : ℕ → Bool) (n k : ℕ) → k < n → test k ≡ false → list_all test (range_with_len 0 n) ≡ false
one_below test n k lt fails =
    list_all_at test (range_with_len 0 n) k 0 (omega (arith, length-range_with_len 0 n))
    (ap test (get_or-range_with_len 0 n k 0 lt ∙ zero-add k) ∙ fails)
