-- one more node is that of the next two hashes
use Rattle.tor_merkle.proofs.Names.{◌≡◌, ℕ, ◌+◌, ◌*◌, ◌<◌, Option, Some, None, option_map, unwrap_or, Bor, List, []}
use Rattle.tor_merkle.proofs.Names.{◌∷◌, ◌++◌, map, length, get_or, arith, refl, ap, ap₂, ◌∙◌, sym, zero-add, le_refl}
use Rattle.tor_merkle.proofs.Names.{get_or_default, map-range_with_len_more, div_ceil, range_with_len, node_of}
use Rattle.tor_merkle.proofs.Ceil.{below_from_ceil}
use Rattle.tor_merkle.proofs.plain.level_above.Goals as goal

now-unwrap_or : {X : Type 0} (found : Option (Bor X)) (other : Bor X)
    → (unwrap_or found other).now ≡ unwrap_or (option_map (λ x. x.now) found) other.now
now-unwrap_or None other = refl
now-unwrap_or (Some x) other = refl

above_more : (padding : List ℕ) (hashes : List (List ℕ)) (i : ℕ) (left right : List ℕ) → i < div_ceil (length hashes) 2
    → left ≡ get_or hashes (2 * i) [] → right ≡ get_or hashes (2 * i + 1) padding
    → map (λ i. node_of (get_or hashes (2 * i) padding) (get_or hashes (2 * i + 1) padding)) (range_with_len 0 i)
    ++ node_of left right ∷ []
    ≡ map (λ i. node_of (get_or hashes (2 * i) padding) (get_or hashes (2 * i + 1) padding)) (range_with_len 0 (i + 1))
above_more padding hashes i left right lt l r =
    let node = λ (i : ℕ). node_of (get_or hashes (2 * i) padding) (get_or hashes (2 * i + 1) padding) in
    let within : 2 * i < length hashes = omega (arith, below_from_ceil (length hashes) 2 i (omega arith) lt) in
    ap (λ x. map node (range_with_len 0 i) ++ x ∷ [])
    (ap₂ node_of (l ∙ get_or_default hashes (2 * i) [] padding within) r)
    ∙ sym (map-range_with_len_more node 0 i i (zero-add i))

pub loop-i-preserved : goal.loop-i-preserved
loop-i-preserved c =
    let padding = c.args.padding in
    let right : c.unwrap_or-right.result.now ≡ get_or c.args.hashes.now (2 * c.loop-i.i + 1) padding.now =
    ap (λ x. x.now) c.unwrap_or-right.ensures ∙ now-unwrap_or c.get.result padding
    ∙ c.get.ensures.lookup.4 (le_refl _) padding.now in
    c.in_ok-push.ensures.items
    ∙ ap₂ (λ xs x. xs ++ x ∷ []) c.loop-i.invariant c.pair.ensures
    ∙ above_more padding.now c.args.hashes.now c.loop-i.i _ _
    (omega (arith, c.loop-i-test.true, c.div_ceil-count.ensures)) refl right
