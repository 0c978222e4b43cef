-- one level more, and the last
use Rattle.tor_merkle.proofs.Names.{◌≡◌, ℕ, ◌+◌, ◌*◌, ◌^◌, length, arith, refl, ap, ap₂, ◌∙◌, sym, le_antisymm, inl}
use Rattle.tor_merkle.proofs.Names.{inr, zero-add, add-one, mul_assoc, pow-suc, piece_layer, leaves, eqb-false}
use Rattle.tor_merkle.proofs.Names.{cases_lt, nodes}
use Rattle.tor_merkle.proofs.Climb.{covers_less, more_levels, last_level, height_small, some_node, top_hash, layer_met}
use Rattle.tor_merkle.proofs.Levels.{nodes-zero, level_above-nodes}
use Rattle.tor_merkle.proofs.Lengths.{length_split}
use Rattle.tor_merkle.proofs.Power.{same_power}
use Rattle.tor_merkle.proofs.plain.whole.Goals.{then-width-piece_length, else-width-piece_length}
use Rattle.tor_merkle.specs.Subtree as S
use Rattle.tor_merkle.specs.steps.Plain as P
use Rattle.tor_merkle.proofs.plain.whole.Goals as goal

pub levels-init : goal.levels-init
levels-init c = record {
  hashes = c.in_ok-hashes.ensures ∙ sym (nodes-zero 0 _);
  within = omega arith;
  width = refl;
  passed = λ k _ lt. absurd (omega arith);
  ahead = λ k _ _. c.new-layer.ensures.items;
}

pub zero-requires : goal.zero-requires
zero-requires c = omega (arith, c.levels.invariant.within, height_small c.args.content.now c.requires.size)

pub overflow_add-level : goal.overflow_add-level
overflow_add-level c = omega (arith, c.levels.invariant.within, height_small c.args.content.now c.requires.size)

pub overflow_mul-width : goal.overflow_mul-width
overflow_mul-width c =
    let more =
    more_levels c.args.content.now c.levels.level _ c.levels.invariant.hashes (omega (arith, c.levels.hashes.ok.0)) in
    omega (arith, c.levels.invariant.width, covers_less c.args.content.now c.levels.level more, c.requires.size)

pub levels-smaller : goal.levels-smaller
levels-smaller c =
    let more =
    more_levels c.args.content.now c.levels.level _ c.levels.invariant.hashes (omega (arith, c.levels.hashes.ok.0)) in
    omega arith

pub levels-preserved : goal.levels-preserved
levels-preserved c =
    let more =
    more_levels c.args.content.now c.levels.level _ c.levels.invariant.hashes (omega (arith, c.levels.hashes.ok.0)) in
    let level = c.levels.level in
    let content = c.args.content.now in
    let above =
    c.in_ok-above.ensures
    ∙ ap₂ P.level_above (c.zero.ensures ∙ ap S.zero_subtree (sym (zero-add level)))
    (c.deref.ensures.value ∙ c.levels.invariant.hashes)
    ∙ level_above-nodes 0 (leaves content) level
    ∙ ap (nodes 0 (leaves content)) (sym (add-one level)) in
    let wide = c.levels.invariant.width in
    let wider : c.levels.width * 2 ≡ 16384 * 2 ^ (level + 1) =
    ap (λ n. n * 2) wide ∙ mul_assoc 16384 (2 ^ level) 2 ∙ ap (λ n. 16384 * n) (sym (pow-suc 2 level))
    ∙ ap (λ n. 16384 * 2 ^ n) (sym (add-one level)) in
    elim c.if-width-piece_length.branch [
      | then-width-piece_length w ↦
          let same =
          λ (k : ℕ) (is : c.args.piece_length ≡ 16384 * 2 ^ k).
          same_power 16384 level k (omega arith) (sym wide ∙ w.if-width-piece_length.true ∙ is) in
          record {
            hashes = ap (λ v. v.items) (w.hashes-is ∙ w.replace-layer.ensures.after) ∙ above;
            within = omega arith;
            width = wider;
            passed =
                λ k is _. ap (λ v. v.items) (w.layer-is ∙ w.replace-layer.ensures.value) ∙ c.levels.invariant.hashes
                ∙ ap (nodes 0 (leaves content)) (same k is);
            ahead = λ k is le. absurd (omega (arith, same k is));
          }
      | else-width-piece_length w ↦
          record {
            hashes = ap (λ v. v.items) w.hashes-is ∙ above;
            within = omega arith;
            width = wider;
            passed = λ k is lt. ap (λ v. v.items) w.layer-is ∙ elim (cases_lt k level) [
              | inl less ↦ c.levels.invariant.passed k is less
              | inr more ↦
                  absurd (w.if-width-piece_length.false
                  (wide ∙ ap (λ n. 16384 * 2 ^ n) (le_antisymm more (omega arith)) ∙ sym is))
            ];
            ahead = λ k is le. ap (λ v. v.items) w.layer-is ∙ c.levels.invariant.ahead k is (omega arith);
          }
    ]

pub index-requires : goal.index-requires
index-requires c =
    let some = eqb-false (length c.args.content.now) 0 (sym c.if-is_empty.ensures) in
    let node = some_node c.args.content.now c.levels.level (omega arith) in
    omega (arith, c.levels.hashes.ok.0, ap length c.levels.invariant.hashes, node)

pub returns-clause-root : goal.returns-clause-root
returns-clause-root c =
    let top =
    last_level c.args.content.now c.levels.level _ c.levels.invariant.hashes c.levels.invariant.within
    (omega (arith, c.levels.hashes.ok.0)) in
    let some = eqb-false (length c.args.content.now) 0 (sym c.if-is_empty.ensures) in
    c.index.ensures ∙ top_hash c.args.content.now c.levels.level _ _ (omega arith) top c.levels.invariant.hashes

pub returns-clause-layer : goal.returns-clause-layer
returns-clause-layer c =
    let top =
    last_level c.args.content.now c.levels.level _ c.levels.invariant.hashes c.levels.invariant.within
    (omega (arith, c.levels.hashes.ok.0)) in
    let piece = length_split c.args.piece_length c.requires.piece in
    layer_met c.args.content.now piece.0 c.levels.level _ top (c.levels.invariant.passed piece.0 piece.1)
    (c.levels.invariant.ahead piece.0 piece.1)
    ∙ ap (piece_layer c.args.content.now) (sym piece.1)
