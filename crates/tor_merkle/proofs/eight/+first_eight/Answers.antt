-- the hashes themselves, those that eight nodes cover, and more
use Rattle.tor_merkle.proofs.Names.{◌≡◌, ℕ, suc, ◌+◌, ◌-◌, ◌*◌, ◌%◌, ◌^◌, ◌≤◌, length, take, drop, replicate, [], arith}
use Rattle.tor_merkle.proofs.Names.{ap, ◌∙◌, pow_mono, two-pow-succ, get_or-replicate, one_shl, zero_subtree, node}
use Rattle.tor_merkle.proofs.EightNodes.{eight_above, first_of_front, next_of_back, next_past}
use Rattle.tor_merkle.proofs.eight.+first_eight.Goals as goal

-- the width of half the nodes
half_width : (above : ℕ) → above ≤ 36 → 8 * ((1 * 2 ^ (above - 1)) % 2 ^ 64) ≡ 8 * 2 ^ (above - 1)
half_width above low = ap (λ x. 8 * x) (one_shl (above - 1) 64 (omega arith))

pub returns-then-above-eq0-clause-nodes : goal.returns-then-above-eq0-clause-nodes
unfolding node
returns-then-above-eq0-clause-nodes t c = rw c.if-above-eq0.true c.widened.ensures.hashes

pub overflow_mul-half : goal.overflow_mul-half
overflow_mul-half t c =
    let most : 2 ^ (c.args.above - 1) ≤ 2 ^ 36 = pow_mono {i = c.args.above - 1} {j = 36} (omega arith) in
    let width = one_shl (c.args.above - 1) 64 (omega arith) in
    omega (arith, width, most)

pub returns-then-hashes-half-clause-nodes : goal.returns-then-hashes-half-clause-nodes
returns-then-hashes-half-clause-nodes t c =
    let k = c.args.above - 1 in
    let up : suc k ≡ c.args.above = omega arith in
    let covers : length c.args.hashes.now ≤ 8 * 2 ^ k = omega (arith, half_width c.args.above (omega arith)) in
    let zeros = replicate 8 c.zero.result in
    rw (← up)
    (eight_above c.args.level c.args.hashes.now k c.first_eight-left.result zeros c.nodes_over.result
    c.first_eight-left.ensures.nodes
    (λ i lt. get_or-replicate 8 i c.zero.result [] lt ∙ c.zero.ensures ∙ ap zero_subtree (omega arith)
    ∙ next_past c.args.level c.args.hashes.now k i covers)
    c.nodes_over.ensures.first c.nodes_over.ensures.last)

pub first_eight-right-requires : goal.first_eight-right-requires
first_eight-right-requires t c =
    let k = c.args.above - 1 in
    let wide : 2 ^ c.args.above ≡ 2 ^ k + 2 ^ k =
    ap (λ n. 2 ^ n) (let up : c.args.above ≡ suc k = omega arith in up) ∙ two-pow-succ k in
    let width = half_width c.args.above (omega arith) in
    (omega arith, (omega arith, omega (arith, c.split_at.ensures.back_len, width, wide, c.requires.wide)))

pub returns-clause-nodes : goal.returns-clause-nodes
returns-clause-nodes t c =
    let k = c.args.above - 1 in
    let up : suc k ≡ c.args.above = omega arith in
    let hashes = c.args.hashes.now in
    let width = half_width c.args.above (omega arith) in
    rw (← up)
    (eight_above c.args.level hashes k c.first_eight-left-2.result c.first_eight-right.result c.nodes_over-2.result
    (λ i lt. c.first_eight-left-2.ensures.nodes i lt
    ∙ ap (λ xs. node c.args.level xs k i) (c.split_at.ensures.front ∙ ap (λ n. take n hashes) width)
    ∙ first_of_front c.args.level hashes k i lt)
    (λ i lt. c.first_eight-right.ensures.nodes i lt
    ∙ ap (λ xs. node c.args.level xs k i) (c.split_at.ensures.back ∙ ap (λ n. drop n hashes) width)
    ∙ next_of_back c.args.level hashes k i)
    c.nodes_over-2.ensures.first c.nodes_over-2.ensures.last)
