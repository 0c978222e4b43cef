-- The leaves of a content that grows by parts of blocks.
use Rattle.tor_merkle.proofs.Names.{◌≡◌, ℕ, ◌+◌, ◌*◌, ◌/◌, ◌%◌, ◌^◌, ◌<◌, ◌≤◌, List, [], ◌∷◌, ◌++◌, map, length, take}
use Rattle.tor_merkle.proofs.Names.{drop, arith, refl, ap, ◌∙◌, sym, subst, append_assoc, take-append-drop}
use Rattle.tor_merkle.proofs.Names.{length-append, length-take, length-drop, le_antisymm, append-nil, take-append-le}
use Rattle.tor_merkle.proofs.Names.{drop-append-le, take_all, drop_all, div_ceil, range_with_len, Holds256, sha256}
use Rattle.tor_merkle.proofs.Names.{Sha256, run_at, blocks, leaves, KeepsBlocks, in_blocks}
use Rattle.tor_merkle.proofs.Ceil.{ceil_at_most, ceil_from_below, ceil_whole}
use Rattle.tor_merkle.proofs.Content.{length-leaves, room_of_leaves}
use Rattle.tor_merkle.proofs.Joined.{leaves-joined}

pub leaves-nil : leaves [] ≡ []
unfolding leaves blocks
leaves-nil = refl

-- one block more is one leaf more
one_leaf : (ys : List ℕ) → 0 < length ys → length ys ≤ 16384 → leaves ys ≡ sha256 ys ∷ []
unfolding leaves blocks
one_leaf ys some short =
    let one : div_ceil (length ys) 16384 ≡ 1 = le_antisymm
    (ceil_at_most (length ys) 16384 1 (omega arith) (omega arith))
    (ceil_from_below (length ys) 16384 0 (omega arith) (omega arith)) in
    ap (λ n. map sha256 (map (run_at 16384 ys) (range_with_len 0 n))) one
    ∙ ap (λ xs. sha256 xs ∷ []) (take_all 16384 ys short)

pub leaves-push : (xs ys : List ℕ) (b : ℕ) → length xs ≡ b * 16384 → 0 < length ys → length ys ≤ 16384
    → leaves (xs ++ ys) ≡ leaves xs ++ sha256 ys ∷ []
leaves-push xs ys b whole some short =
    leaves-joined xs ys b whole ∙ ap (λ zs. leaves xs ++ zs) (one_leaf ys some short)

module _ (count : ℕ) (hasher : Sha256) (done : List (List ℕ)) (bytes : List ℕ)
    (keeps : KeepsBlocks count hasher done bytes) where
  within : in_blocks count ≤ length bytes
  within = omega (arith, keeps.counted)

  length-front : length (take (in_blocks count) bytes) ≡ count / 16384 * 16384
  length-front = length-take (in_blocks count) bytes ∙ omega (arith, within)

  pub length-done : length done ≡ count / 16384
  length-done =
      ap length keeps.whole ∙ length-leaves (take (in_blocks count) bytes)
      ∙ ap (λ n. div_ceil n 16384) length-front ∙ ceil_whole (count / 16384) 16384 (omega arith)

  -- one leaf more is within the tree
  pub done_small : (more : ℕ) → count / 16384 * 16384 < length bytes + more → length bytes + more ≤ 2 ^ 50
      → length done < 2 ^ 36
  done_small more lt le = omega (arith, length-done)

  -- and there is room for the pieces begun
  pub done_room : (more k capacity : ℕ) → div_ceil (length bytes + more) (16384 * 2 ^ k) ≤ capacity
      → div_ceil (length done) (2 ^ k) ≤ capacity
  done_room more k capacity =
      room_of_leaves (length done) (length bytes + more) k capacity (omega (arith, length-done, keeps.counted))

  -- a part that does not end its block
  pub adds_open : (part : List ℕ) (hasher' : Sha256) → count % 16384 + length part ≤ 16384
      → length bytes + length part ≤ 2 ^ 50
      → ((count + length part) % 16384 ≡ 0 → ⊥) → ((m : List ℕ) → Holds256 hasher m → Holds256 hasher' (m ++ part))
      → KeepsBlocks (count + length part) hasher' done (bytes ++ part)
  adds_open part hasher' fits small open_still holds =
      let same : in_blocks (count + length part) ≡ in_blocks count =
      ap (λ q. q * 16384) (let q : (count + length part) / 16384 ≡ count / 16384 = omega (arith, open_still) in q) in
      record {
        counted = omega (arith, keeps.counted, length-append bytes part);
        small = omega (arith, keeps.counted);
        whole =
            keeps.whole
            ∙ ap leaves
            (sym (ap (λ n. take n (bytes ++ part)) same ∙ take-append-le (in_blocks count) bytes part within));
        rest =
            subst (Holds256 hasher')
            (sym (ap (λ n. drop n (bytes ++ part)) same ∙ drop-append-le (in_blocks count) bytes part within))
            (holds _ keeps.rest);
      }

  joined : (part : List ℕ) → take (in_blocks count) bytes ++ (drop (in_blocks count) bytes ++ part) ≡ bytes ++ part
  joined part =
      sym (append_assoc (take (in_blocks count) bytes) (drop (in_blocks count) bytes) part)
      ∙ ap (λ xs. xs ++ part) (take-append-drop (in_blocks count) bytes)

  -- the leaves with a last block, whole or not
  pub leaves-last : (part : List ℕ) → 0 < count % 16384 + length part → count % 16384 + length part ≤ 16384
      → done ++ sha256 (drop (in_blocks count) bytes ++ part) ∷ [] ≡ leaves (bytes ++ part)
  leaves-last part some fits =
      let last = drop (in_blocks count) bytes ++ part in
      let long : length last ≡ count % 16384 + length part =
      length-append (drop (in_blocks count) bytes) part
      ∙ omega (arith, length-drop (in_blocks count) bytes, keeps.counted) in
      ap (λ xs. xs ++ sha256 last ∷ []) keeps.whole
      ∙ sym (leaves-push (take (in_blocks count) bytes) last (count / 16384) length-front
      (omega (arith, long)) (omega (arith, long)))
      ∙ ap leaves (joined part)

  -- a part that ends its block
  pub adds_full : (part : List ℕ) (hasher' : Sha256) (done' : List (List ℕ)) → 0 < length part
      → count % 16384 + length part ≤ 16384 → length bytes + length part ≤ 2 ^ 50
      → (count + length part) % 16384 ≡ 0 → done' ≡ done ++ sha256 (drop (in_blocks count) bytes ++ part) ∷ []
      → Holds256 hasher' []
      → KeepsBlocks (count + length part) hasher' done' (bytes ++ part)
  adds_full part hasher' done' some fits small full is holds =
      let long : length (bytes ++ part) ≡ count + length part =
      length-append bytes part ∙ omega (arith, keeps.counted) in
      let all : in_blocks (count + length part) ≡ count + length part = omega (arith, full) in
      record {
        counted = sym long;
        small = omega (arith, keeps.counted);
        whole =
            is ∙ leaves-last part (omega arith) fits
            ∙ ap leaves (sym (take_all (in_blocks (count + length part)) (bytes ++ part) (omega (arith, long, all))));
        rest =
            subst (Holds256 hasher')
            (sym (drop_all (in_blocks (count + length part)) (bytes ++ part) (omega (arith, long, all)))) holds;
      }

  -- at the end: the last block is whole
  pub leaves-whole : count % 16384 ≡ 0 → done ≡ leaves bytes
  leaves-whole full = keeps.whole ∙ ap leaves (take_all (in_blocks count) bytes (omega (arith, full, keeps.counted)))

  -- at the end: the last block is short
  pub leaves-short : 0 < count % 16384 → done ++ sha256 (drop (in_blocks count) bytes) ∷ [] ≡ leaves bytes
  leaves-short some =
      ap (λ xs. done ++ sha256 xs ∷ []) (sym (append-nil (drop (in_blocks count) bytes)))
      ∙ leaves-last [] (omega (arith, some)) (omega arith)
      ∙ ap leaves (append-nil bytes)

-- before the first byte
pub keeps_nothing : (hasher : Sha256) → Holds256 hasher [] → KeepsBlocks 0 hasher [] []
keeps_nothing hasher holds = record {
  counted = refl;
  small = omega arith;
  whole = sym leaves-nil;
  rest = holds;
}
