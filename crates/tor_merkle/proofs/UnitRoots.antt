-- The roots of units of 2 ^ k blocks: over their leaves, over the roots of their pieces, and the root over all of them.
use Rattle.tor_merkle.proofs.Names.{◌≡◌, ℕ, zero, suc, ◌+◌, ◌*◌, ◌^◌, ◌<◌, ◌≤◌, List, [], ◌∷◌, ◌++◌, map, length, drop}
use Rattle.tor_merkle.proofs.Names.{arith, refl, sym, ap, ap₂, ◌∙◌, zero-add, add-one, append-nil, length-take}
use Rattle.tor_merkle.proofs.Names.{length-drop, pow_pos, pow-add, flat_map-append, map_push, map-range_with_len_more}
use Rattle.tor_merkle.proofs.Names.{div_ceil, flat_map, range_with_len, run_at, leaves, pieces_root, piece_roots}
use Rattle.tor_merkle.proofs.Names.{padded_root, padded_subtree, nodes}
use Rattle.tor_merkle.proofs.Ceil.{below_from_ceil, ceil_at_most}
use Rattle.tor_merkle.proofs.Content.{longer_than_piece, only_piece_root, piece_roots-nodes, within_piece}
use Rattle.tor_merkle.proofs.Filled.{node-nodes, padded_root-nodes}
use Rattle.tor_merkle.proofs.Levels.{length-nodes}
use Rattle.tor_merkle.proofs.Node.{subtree_root-padded}
use Rattle.tor_merkle.proofs.Sums.{padded_root-leaves}
use Rattle.tor_merkle.proofs.Units.{roots-units}

pub subtree_over_pieces : (content : List ℕ) (j k : ℕ) → length content ≤ 16384 * 2 ^ (k + j)
    → padded_subtree (k + j) 0 (leaves content) ≡ padded_subtree k j (piece_roots content (16384 * 2 ^ j))
subtree_over_pieces content j k short =
    let all = leaves content in
    let split : 2 ^ (k + j) ≡ 2 ^ k * 2 ^ j = pow-add 2 k j in
    let fits : length all ≤ 2 ^ (k + j) = within_piece content (k + j) short in
    let few : length (nodes 0 all j) ≤ 2 ^ k =
    rw length-nodes (ceil_at_most (length all) (2 ^ j) (2 ^ k) (pow_pos j) (omega (arith, fits, split))) in
    subtree_root-padded 0 all (k + j) fits
    ∙ sym (node-nodes all j k 0)
    ∙ sym (subtree_root-padded j (nodes 0 all j) k few)
    ∙ ap (padded_subtree k j) (sym (piece_roots-nodes content j))

module _ (content : List ℕ) (k : ℕ) where
  abbrev size : ℕ
  size = 16384 * 2 ^ k

  abbrev roots : List ℕ → List (List ℕ)
  roots unit = piece_roots unit size

  abbrev root : List ℕ → List ℕ
  root unit = padded_subtree k 0 (leaves unit)

  abbrev units : ℕ → List (List ℕ)
  units n = map (run_at size content) (range_with_len 0 n)

  -- each unit is one piece
  roots-each : (n : ℕ) → n ≤ div_ceil (length content) size → flat_map roots (units n) ≡ map root (units n)
  roots-each zero le = refl
  roots-each (suc n) le =
      let unit = run_at size content n in
      let pos : 0 < size = omega (arith, pow_pos k) in
      let begun : n * size < length content = below_from_ceil (length content) size n pos (omega arith) in
      let long = length-take size (drop (n * size) content) in
      let left = length-drop (n * size) content in
      let more : units (suc n) ≡ units n ++ unit ∷ [] =
      ap units (sym (add-one n)) ∙ map-range_with_len_more (run_at size content) 0 n n (zero-add n) in
      ap (flat_map roots) more
      ∙ flat_map-append roots (units n) (unit ∷ [])
      ∙ ap₂ (λ xs ys. xs ++ ys) (roots-each n (omega arith))
      (append-nil (roots unit)
      ∙ only_piece_root unit k (omega (arith, begun, long, left)) (omega (arith, long)))
      ∙ sym (map_push root (units n) unit)
      ∙ ap (map root) (sym more)

  pub root_over_units : size < length content
      → pieces_root content ≡ padded_root k (map root (units (div_ceil (length content) size)))
  root_over_units long =
      let one : 1 * size ≡ size = omega arith in
      let all : flat_map roots (units (div_ceil (length content) size)) ≡ roots content =
      ap (λ s. flat_map roots (map (run_at s content) (range_with_len 0 (div_ceil (length content) s)))) (sym one)
      ∙ roots-units content k 1 (omega arith) in
      sym (padded_root-leaves content)
      ∙ sym (padded_root-nodes (leaves content) k (longer_than_piece content k long))
      ∙ ap (padded_root k)
      (sym (piece_roots-nodes content k) ∙ sym all ∙ roots-each (div_ceil (length content) size) (omega arith))
