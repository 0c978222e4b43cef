-- Sums that are fed whole pieces at once: runs of eight, whose hashes are computed together, and zeros, of which one
-- hash is all.
use Rattle.std.proofs.Common.{◌≡◌, ℕ, zero, suc, ◌+◌, ◌*◌, ◌/◌, ◌%◌, ◌<◌, ◌≤◌, List, [], ◌++◌, map, length, get_or}
use Rattle.std.proofs.Common.{drop, replicate, take}
use Rattle.std.proofs.Common.{arith, ap, ap₂, ◌∙◌, sym, subst, append-nil, length-append, vec_len, vec_capacity}
use Rattle.std.proofs.Common.{add-zero, mul_comm}
use Rattle.std.proofs.lemmas.List.{take_all, drop_all}
use Rattle.std.proofs.lemmas.List.Folds.{flat_map-map}
use Rattle.std.proofs.lemmas.List.FromFn.{fill_by_all}
use Rattle.std.specs.Fork.{slice_chunk}
use Rattle.std.specs.Int.{div_ceil}
use Rattle.std.specs.List.{flat_map, range_with_len}
use Rattle.sha1.specs.Sha1.{Holds, sha1}
use Rattle.tor_v1.specs.Feeding.{HasFed, in_pieces}
use Rattle.tor_v1.specs.Piece.{pieces_of, piece_sums, zeros}
use Rattle.tor_v1.specs.steps.Room.{HasRoom}
use Rattle.tor_v1.specs.declared.sums.PieceSums.{PieceSums}
use Rattle.tor_merkle.proofs.ProvedLaws.{ceil_is, ceil_joined}
use Rattle.tor_v1.proofs.Cut.{piece_sums-nil, sums-append, sums_of_one}
use Rattle.tor_v1.proofs.Fed.{HasFed-append, pos}
use Rattle.tor_v1.proofs.Zeros.{length-zeros, zeros-append, zeros-nil}

-- the hashes of eight pieces are the sums of their run
pub sums-run : (p : ℕ) (run : List ℕ) (hashes : List (List ℕ)) → 0 < p → length run ≡ 8 * p → length hashes ≡ 8
    → ((i : ℕ) → i < 8 → get_or hashes i [] ≡ sha1 (take p (drop (p * i) run)))
    → flat_map (λ x. x) hashes ≡ piece_sums p run
unfolding piece_sums pieces_of
sums-run p run hashes some long count each =
    let cut = slice_chunk run p in
    let eight : div_ceil (length run) p ≡ 8 = ceil_is (length run) p 8 (omega (arith, long)) (omega (arith, long)) in
    ap (flat_map (λ x. x)) (fill_by_all (λ i. sha1 (cut i)) hashes 8 [] count
    (λ i lt. each i lt ∙ ap (λ n. sha1 (take p (drop n run))) (mul_comm p i)))
    ∙ flat_map-map (λ x. x) (λ i. sha1 (cut i)) (range_with_len 0 8)
    ∙ sym (flat_map-map sha1 cut (range_with_len 0 8))
    ∙ ap (λ n. flat_map sha1 (map cut (range_with_len 0 n))) (sym eight)

mul_add : (k count p : ℕ) → (k + count) * p ≡ k * p + count * p
mul_add k count p = omega arith

-- whole pieces where none is begun
pub adds_run : (count : ℕ) (sums : PieceSums) (p : ℕ) (bytes : List ℕ) → HasFed sums p bytes → (sums' : PieceSums)
    (run : List ℕ) → sums.begun ≡ 0 → length run ≡ count * sums.piece_length
    → sums'.piece_length ≡ sums.piece_length → sums'.begun ≡ 0 → sums'.hasher ≡ sums.hasher
    → sums'.sums.items ≡ sums.sums.items ++ piece_sums sums.piece_length run → HasFed sums' p (bytes ++ run)
adds_run count sums p bytes fed sums' run none long cut begun hasher items =
    let positive = pos sums p bytes fed in
    let k = length bytes / p in
    let split : k * p + length bytes % p ≡ length bytes = omega arith in
    let whole : length bytes ≡ k * p = omega (arith, split, none, fed.begun) in
    let more : length run ≡ count * p = long ∙ ap (λ q. count * q) fed.cut_every in
    let all : length (bytes ++ run) ≡ (k + count) * p =
    length-append bytes run ∙ ap₂ (λ a b. a + b) whole more ∙ sym (mul_add k count p) in
    let rest : drop (in_pieces p (length bytes)) bytes ≡ [] = drop_all (k * p) bytes (omega (arith, whole)) in
    let front : take (in_pieces p (length bytes)) bytes ≡ bytes = take_all (k * p) bytes (omega (arith, whole)) in
    subst (HasFed sums' p) (append-nil (bytes ++ run))
    (HasFed-append sums' p (k + count) (bytes ++ run) [] (cut ∙ fed.cut_every) all positive begun
    (items
    ∙ ap₂ (λ xs q. xs ++ piece_sums q run) (fed.whole ∙ ap (piece_sums p) front) fed.cut_every
    ∙ sym (sums-append p positive k bytes run whole))
    (subst (λ h. Holds h []) (sym hasher) (subst (Holds sums.hasher) rest fed.rest)))

-- the hashes of so many more pieces
swap : (a b c : ℕ) → a + (b + c) ≡ b + (a + c)
swap a b c = omega arith

ceil_run : (count begun p later : ℕ) → 0 < p → begun ≡ 0
    → div_ceil (begun + (count * p + later)) p ≡ count + div_ceil (begun + later) p
ceil_run count begun p later some none =
    ap (λ n. div_ceil n p) (swap begun (count * p) later) ∙ ceil_joined count (begun + later) p some

still_fits : (count n n' capacity capacity' q q' : ℕ) → q ≡ count + q' → n' ≡ n + 20 * count → capacity ≤ capacity'
    → n + 20 * q ≤ capacity → n' + 20 * q' ≤ capacity'
still_fits count n n' capacity capacity' q q' more len longer within = omega arith

-- there is room for so many hashes
pub room_run : (count : ℕ) (sums : PieceSums) (more : ℕ) → sums.begun ≡ 0 → more ≡ count * sums.piece_length
    → HasRoom sums more → vec_len sums.sums + 20 * count ≤ vec_capacity sums.sums
room_run count sums more none long room =
    let some : 0 < sums.piece_length = omega (arith, sums.allowed.0) in
    let all : div_ceil (sums.begun + more) sums.piece_length ≡ count =
    ap (λ n. div_ceil n sums.piece_length) (let e : sums.begun + more ≡ more + 0 = omega (arith, none) in e)
    ∙ ap (λ n. div_ceil (n + 0) sums.piece_length) long ∙ ceil_joined count 0 sums.piece_length some
    ∙ ap (λ n. count + n) (ceil_is 0 sums.piece_length 0 (omega arith) (omega arith)) ∙ add-zero count in
    omega (arith, all, room)

-- and after them for what comes later
pub room_after : (count : ℕ) (sums : PieceSums) (more later len capacity : ℕ) → sums.begun ≡ 0
    → more ≡ count * sums.piece_length → len ≡ vec_len sums.sums + 20 * count → vec_capacity sums.sums ≤ capacity
    → HasRoom sums (more + later) → len + 20 * div_ceil (sums.begun + later) sums.piece_length ≤ capacity
room_after count sums more later len capacity none long longer roomier room =
    let some : 0 < sums.piece_length = omega (arith, sums.allowed.0) in
    still_fits count _ _ _ _ _ _ (ap (λ n. div_ceil (sums.begun + (n + later)) sums.piece_length) long
    ∙ ceil_run count sums.begun sums.piece_length later some none) longer roomier room

-- the sums of pieces that are all the same
pub sums_of_same : (p : ℕ) → 0 < p → (count : ℕ)
    → flat_map (λ x. x) (replicate count (sha1 (zeros p))) ≡ piece_sums p (zeros (count * p))
sums_of_same p some zero =
    sym (ap (λ n. piece_sums p (zeros n)) (let e : 0 * p ≡ 0 = omega arith in e) ∙ ap (piece_sums p) zeros-nil
    ∙ piece_sums-nil p some)
sums_of_same p some (suc count) =
    let one : piece_sums p (zeros p) ≡ sha1 (zeros p) =
    sums_of_one p (zeros p) (omega (arith, length-zeros p)) (omega (arith, length-zeros p)) in
    let next : p + count * p ≡ suc count * p = omega arith in
    ap (λ xs. sha1 (zeros p) ++ xs) (sums_of_same p some count)
    ∙ ap (λ xs. xs ++ piece_sums p (zeros (count * p))) (sym one)
    ∙ sym (sums-append p some 1 (zeros p) (zeros (count * p)) (omega (arith, length-zeros p)))
    ∙ ap (piece_sums p) (zeros-append p (count * p) ∙ ap zeros next)
