-- Contents that are joined, the first of which ends with a whole piece: the pieces are those of both.
use Rattle.tor_merkle.proofs.Names.{◌≡◌, ℕ, ◌+◌, ◌-◌, ◌*◌, ◌^◌, ◌<◌, ◌≤◌, List, [], ◌++◌, map, length, take, drop}
use Rattle.tor_merkle.proofs.Names.{arith, inl, inr, sym, ap, ap₂, ◌∙◌, zero-add, length-append, pow_pos}
use Rattle.tor_merkle.proofs.Names.{mul-le-mul_right, le_trans, mul_assoc, mul_comm, cases_lt, get_or_append_left}
use Rattle.tor_merkle.proofs.Names.{get_or-append_right, drop_at, drop-append-le, drop-drop, length-drop, map-append}
use Rattle.tor_merkle.proofs.Names.{take-append-le, length-map-range_with_len, get_or-map-range_with_len, fill_by_all}
use Rattle.tor_merkle.proofs.Names.{div_ceil, range_with_len, sha256, run_at, blocks, leaves, piece_roots, node, nodes}
use Rattle.tor_merkle.proofs.Names.{zero_leaf}
use Rattle.tor_merkle.proofs.Ceil.{ceil_joined, ceil_whole}
use Rattle.tor_merkle.proofs.Content.{length-leaves, piece_roots-nodes}
use Rattle.tor_merkle.proofs.Filled.{node-drop}
use Rattle.tor_merkle.proofs.Node.{node-append}

-- the first a values of a function, and the b after them
values_joined : {X : Type 0} (f g h : ℕ → X) (a b : ℕ) (d : X) → ((i : ℕ) → i < a → f i ≡ g i)
    → ((i : ℕ) → f (a + i) ≡ h i)
    → map f (range_with_len 0 (a + b)) ≡ map g (range_with_len 0 a) ++ map h (range_with_len 0 b)
values_joined f g h a b d first later =
    let xs = map g (range_with_len 0 a) in
    let ys = map h (range_with_len 0 b) in
    let xs_long : length xs ≡ a = length-map-range_with_len g 0 a in
    let ys_long : length ys ≡ b = length-map-range_with_len h 0 b in
    sym (fill_by_all f (xs ++ ys) (a + b) d (omega (arith, length-append xs ys, xs_long, ys_long))
    (λ i lt. elim (cases_lt i a) [
      | inl less ↦
          get_or_append_left xs ys d i (omega (arith, xs_long))
          ∙ get_or-map-range_with_len g 0 a i i d less (zero-add i)
          ∙ sym (first i less)
      | inr more ↦
          get_or-append_right xs ys a i d xs_long more
          ∙ get_or-map-range_with_len h 0 b (i - a) (i - a) d (omega arith) (zero-add (i - a))
          ∙ sym (later (i - a)) ∙ ap f (omega arith)
    ]))

-- whole runs of the first list stay
run_at-append : {X : Type 0} (xs ys : List X) (size i : ℕ) → (i + 1) * size ≤ length xs
    → run_at size (xs ++ ys) i ≡ run_at size xs i
run_at-append xs ys size i le =
    ap (take size) (drop-append-le (i * size) xs ys (omega arith))
    ∙ take-append-le size (drop (i * size) xs) ys (omega (arith, length-drop (i * size) xs))

-- runs past the seam are those of the second list
run_at-joined : {X : Type 0} (xs ys : List X) (size c i : ℕ) → length xs ≡ c * size
    → run_at size (xs ++ ys) (c + i) ≡ run_at size ys i
run_at-joined xs ys size c i long =
    ap (take size)
    (ap (λ n. drop n (xs ++ ys)) (omega arith) ∙ sym (drop-drop (i * size) (c * size) (xs ++ ys))
    ∙ ap (drop (i * size)) (drop_at xs ys (c * size) long))

-- the first content has c whole blocks
pub leaves-joined : (a b : List ℕ) (c : ℕ) → length a ≡ c * 16384 → leaves (a ++ b) ≡ leaves a ++ leaves b
unfolding leaves blocks
leaves-joined a b c long =
    let count : div_ceil (length (a ++ b)) 16384 ≡ c + div_ceil (length b) 16384 =
    ap (λ n. div_ceil n 16384) (length-append a b ∙ ap (λ n. n + length b) long)
    ∙ ceil_joined c (length b) 16384 (omega arith) in
    let before : div_ceil (length a) 16384 ≡ c =
    ap (λ n. div_ceil n 16384) long ∙ ceil_whole c 16384 (omega arith) in
    let more = div_ceil (length b) 16384 in
    let first = map (run_at 16384 a) (range_with_len 0 c) in
    let later = map (run_at 16384 b) (range_with_len 0 more) in
    let cut : map (run_at 16384 (a ++ b)) (range_with_len 0 (c + more)) ≡ first ++ later =
    values_joined (run_at 16384 (a ++ b)) (run_at 16384 a) (run_at 16384 b) c more []
    (λ i lt. run_at-append a b 16384 i (omega (arith, long))) (λ i. run_at-joined a b 16384 c i long) in
    ap (λ n. map sha256 (map (run_at 16384 (a ++ b)) (range_with_len 0 n))) count
    ∙ ap (map sha256) cut
    ∙ map-append sha256 first later
    ∙ ap (λ n. map sha256 (map (run_at 16384 a) (range_with_len 0 n)) ++ map sha256 later) (sym before)

nodes-joined : (xs ys : List (List ℕ)) (k c : ℕ) → length xs ≡ c * 2 ^ k
    → nodes 0 (xs ++ ys) k ≡ nodes 0 xs k ++ nodes 0 ys k
unfolding nodes
nodes-joined xs ys k c long =
    let more = div_ceil (length ys) (2 ^ k) in
    let count : div_ceil (length (xs ++ ys)) (2 ^ k) ≡ c + more =
    ap (λ n. div_ceil n (2 ^ k)) (length-append xs ys ∙ ap (λ n. n + length ys) long)
    ∙ ceil_joined c (length ys) (2 ^ k) (pow_pos k) in
    let before : div_ceil (length xs) (2 ^ k) ≡ c =
    ap (λ n. div_ceil n (2 ^ k)) long ∙ ceil_whole c (2 ^ k) (pow_pos k) in
    let within : (i : ℕ) → i < c → (i + 1) * 2 ^ k ≤ length xs =
    λ i lt. le_trans (mul-le-mul_right {n = c} (2 ^ k) (omega arith)) (omega (arith, long)) in
    ap (λ n. map (node 0 (xs ++ ys) k) (range_with_len 0 n)) count
    ∙ values_joined (node 0 (xs ++ ys) k) (node 0 xs k) (node 0 ys k) c more zero_leaf
    (λ i lt. node-append 0 xs ys k i (within i lt))
    (λ i. sym (node-drop 0 (xs ++ ys) c k i) ∙ ap (λ zs. node 0 zs k i) (drop_at xs ys (c * 2 ^ k) long))
    ∙ ap (λ n. map (node 0 xs k) (range_with_len 0 n) ++ map (node 0 ys k) (range_with_len 0 more)) (sym before)

-- the first content has c whole pieces
pub piece_roots-joined : (a b : List ℕ) (k c : ℕ) → length a ≡ c * (16384 * 2 ^ k)
    → piece_roots (a ++ b) (16384 * 2 ^ k) ≡ piece_roots a (16384 * 2 ^ k) ++ piece_roots b (16384 * 2 ^ k)
piece_roots-joined a b k c long =
    let whole : length a ≡ c * 2 ^ k * 16384 =
    long ∙ ap (λ n. c * n) (mul_comm 16384 (2 ^ k)) ∙ sym (mul_assoc c (2 ^ k) 16384) in
    let count : length (leaves a) ≡ c * 2 ^ k =
    length-leaves a ∙ ap (λ n. div_ceil n 16384) whole ∙ ceil_whole (c * 2 ^ k) 16384 (omega arith) in
    piece_roots-nodes (a ++ b) k
    ∙ ap (λ xs. nodes 0 xs k) (leaves-joined a b (c * 2 ^ k) whole)
    ∙ nodes-joined (leaves a) (leaves b) k c count
    ∙ sym (ap₂ (λ xs ys. xs ++ ys) (piece_roots-nodes a k) (piece_roots-nodes b k))
