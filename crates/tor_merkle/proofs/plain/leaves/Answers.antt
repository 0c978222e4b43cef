-- one more leaf is that of the next block
use Rattle.tor_merkle.proofs.Names.{◌≡◌, ℕ, ◌+◌, ◌-◌, ◌*◌, min, List, [], ◌∷◌, ◌++◌, map, length, take, drop, ap, ap₂}
use Rattle.tor_merkle.proofs.Names.{◌∙◌, sym, zero-add, min_comm, map_push, take_rest, take_min}
use Rattle.tor_merkle.proofs.Names.{map-range_with_len_more, range_with_len, sha256, run_at}
use Rattle.tor_merkle.proofs.plain.leaves.Goals as goal

leaves_more : (content : List ℕ) (size i : ℕ) → map sha256 (map (run_at size content) (range_with_len 0 (i + 1)))
    ≡ map sha256 (map (run_at size content) (range_with_len 0 i)) ++ sha256 (run_at size content i) ∷ []
leaves_more content size i =
    ap (map sha256) (map-range_with_len_more (run_at size content) 0 i i (zero-add i))
    ∙ map_push sha256 (map (run_at size content) (range_with_len 0 i)) (run_at size content i)

-- a cut of the rest, as the code makes it
block_is : (content : List ℕ) (size i n : ℕ)
    → n ≡ min (length (take (length content - i * size) (drop (i * size) content))) size
    → take n (take (length content - i * size) (drop (i * size) content)) ≡ run_at size content i
block_is content size i n e =
    let rest = take_rest content (i * size) in
    ap₂ take (e ∙ ap (λ xs. min (length xs) size) rest ∙ min_comm _ size) rest ∙ take_min size (drop (i * size) content)

pub loop-i-preserved : goal.loop-i-preserved
loop-i-preserved c =
    c.in_ok-push.ensures.items
    ∙ ap₂ (λ xs x. xs ++ x ∷ []) c.loop-i.invariant
    (c.leaf.ensures ∙ ap sha256 (block_is c.args.content.now 16384 c.loop-i.i _ c.min.ensures))
    ∙ sym (leaves_more c.args.content.now 16384 c.loop-i.i)
