-- Runs of blocks, whose leaves are computed at once.
use Rattle.tor_merkle.proofs.Names.{◌≡◌, ℕ, ◌+◌, ◌*◌, ◌/◌, ◌%◌, ◌^◌, ◌<◌, ◌≤◌, List, [], ◌++◌, length, get_or}
use Rattle.tor_merkle.proofs.Names.{take, drop, arith, ap, ◌∙◌, sym, subst, length-append, mul_comm, take_all, drop_all}
use Rattle.tor_merkle.proofs.Names.{fill_by_all, map-map, div_ceil, range_with_len, Holds256, sha256, Sha256, run_at}
use Rattle.tor_merkle.proofs.Names.{blocks, leaves, KeepsBlocks, in_blocks}
use Rattle.tor_merkle.proofs.Names.{get_or-take, length-take}
use Rattle.tor_merkle.proofs.Ceil.{below_from_ceil, ceil_at_most}
use Rattle.tor_merkle.proofs.Content.{count-pieces, length-leaves}
use Rattle.tor_merkle.proofs.Joined.{leaves-joined}
use Rattle.tor_merkle.proofs.Leaves.{leaves-whole}

-- the first of the hashes of a run's blocks, of which the last may be shorter, are its leaves
pub leaves-run : (run : List ℕ) (hashes : List (List ℕ)) → length run ≤ length hashes * 16384
    → ((i : ℕ) → 16384 * i < length run → get_or hashes i [] ≡ sha256 (take 16384 (drop (16384 * i) run)))
    → take (div_ceil (length run) 16384) hashes ≡ leaves run
unfolding leaves blocks
leaves-run run hashes enough each =
    let n : ℕ = div_ceil (length run) 16384 in
    let few : n ≤ length hashes = ceil_at_most (length run) 16384 (length hashes) (omega arith) enough in
    fill_by_all (λ i. sha256 (run_at 16384 run i)) (take n hashes) n []
    (length-take n hashes ∙ omega (arith, few))
    (λ i lt. get_or-take n hashes i [] lt
    ∙ each i (omega (arith, below_from_ceil (length run) 16384 i (omega arith) lt))
    ∙ ap (λ m. sha256 (take 16384 (drop m run))) (mul_comm 16384 i))
    ∙ sym (map-map sha256 (run_at 16384 run) (range_with_len 0 n))

module _ (count : ℕ) (hasher : Sha256) (done : List (List ℕ)) (bytes : List ℕ)
    (keeps : KeepsBlocks count hasher done bytes) (whole : count % 16384 ≡ 0) (run : List ℕ) where
  -- where no block is begun, the leaves of a run follow those before it
  pub run_joined : done ++ leaves run ≡ leaves (bytes ++ run)
  run_joined =
      ap (λ xs. xs ++ leaves run) (leaves-whole count hasher done bytes keeps whole)
      ∙ sym (leaves-joined bytes run (count / 16384) (omega (arith, keeps.counted, whole)))

  length-joined : length done + length (leaves run) ≡ length (leaves (bytes ++ run))
  length-joined = sym (length-append done (leaves run)) ∙ ap length run_joined

  -- they are within the tree
  pub run_small : length bytes + length run ≤ 2 ^ 50 → length done + length (leaves run) ≤ 2 ^ 36
  run_small le =
      rw (length-joined, length-leaves (bytes ++ run))
      (ceil_at_most (length (bytes ++ run)) 16384 (2 ^ 36) (omega arith) (omega (arith, length-append bytes run, le)))

  -- and there is room for the pieces begun
  pub run_room : (k capacity : ℕ) → div_ceil (length bytes + length run) (16384 * 2 ^ k) ≤ capacity
      → div_ceil (length done + length (leaves run)) (2 ^ k) ≤ capacity
  run_room k capacity le =
      rw (length-joined, ← count-pieces (bytes ++ run) k, length-append bytes run) le

  -- no block is begun after a run of whole blocks
  pub adds_run : (done' : List (List ℕ)) → length run % 16384 ≡ 0 → length bytes + length run ≤ 2 ^ 50
      → done' ≡ done ++ leaves run → KeepsBlocks (count + length run) hasher done' (bytes ++ run)
  adds_run done' cut small is =
      let n : length (bytes ++ run) ≡ count + length run = length-append bytes run ∙ omega (arith, keeps.counted) in
      let all : in_blocks (count + length run) ≡ count + length run = omega (arith, whole, cut) in
      let none = drop_all (in_blocks count) bytes (omega (arith, keeps.counted, whole)) in
      record {
        counted = sym n;
        small = omega (arith, keeps.counted);
        whole =
            is ∙ run_joined
            ∙ ap leaves (sym (take_all (in_blocks (count + length run)) (bytes ++ run) (omega (arith, n, all))));
        rest =
            subst (Holds256 hasher)
            (none ∙ sym (drop_all (in_blocks (count + length run)) (bytes ++ run) (omega (arith, n, all)))) keeps.rest;
      }
