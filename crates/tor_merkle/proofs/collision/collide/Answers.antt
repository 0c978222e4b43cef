-- a level at which two nodes become one, a level at which they do not, and the end
use Rattle.tor_merkle.proofs.Names.{ap, ◌∙◌, sym, both_ways, length_push, bytes_eq-Decides, zip_turn, zip_end}
use Rattle.tor_merkle.proofs.Names.{zip_first, zip_second, iter_rest}
use Rattle.tor_merkle.proofs.Collisions.{walk_begins, walk_goes_up, texts_apart, walks_meet}
use Rattle.tor_merkle.proofs.collision.collide.Goals as goal

pub levels-init : goal.levels-init
levels-init c = record {
  walk = walk_begins _ _ _;
  other_walk = walk_begins _ _ _;
  apart = λ apart. apart;
}

pub returns-then-eq : goal.returns-then-eq
returns-then-eq c = λ root count level proof other_proof apart. (
  λ same.
      texts_apart c.levels.node_index _ _ _ _
      c.children-text.ensures.lengths.0 c.children-text.ensures.lengths.1
      c.children-other_text.ensures.lengths.0 c.children-other_text.ensures.lengths.1
      (c.levels.invariant.apart apart)
      (sym c.children-text.ensures.text ∙ same ∙ c.children-other_text.ensures.text),
  sym c.leaf-node.ensures
      ∙ (bytes_eq-Decides c.leaf-node.result c.leaf-other_node.result).0 (sym c.eq.ensures ∙ c.if-eq.true)
      ∙ c.leaf-other_node.ensures,
)

pub levels-preserved : goal.levels-preserved
levels-preserved c =
    let begun = c.into_iter-sibling-iterator.ensures.into_iter_gives in
    let first =
    ap (λ z. iter_rest (zip_first z)) begun ∙ ap iter_rest c.zip-sibling-items.ensures.first
    ∙ c.iter.ensures.rest ∙ c.deref.ensures.value in
    let second = ap (λ z. iter_rest (zip_second z)) begun ∙ c.zip-sibling-items.ensures.second.0 in
    let turn =
    zip_turn _ _ c.levels.yielded c.into_iter-sibling-iterator.result c.levels.sibling-iterator c.next.new.self _
    first second c.levels.yielded_by _ c.in-Some.is c.next.ensures.steps in
    let more = length_push c.levels.yielded (c.in-Some.sibling, c.in-Some.other_sibling) in
    record {
      walk =
          walk_goes_up _ _ _ _ _ _ _ _ _ _ c.levels.invariant.walk turn.0 (turn.2 _)
          c.children-text.ensures.text c.leaf-node.ensures more;
      other_walk =
          walk_goes_up _ _ _ _ _ _ _ _ _ _ c.levels.invariant.other_walk turn.1 (turn.3 _)
          c.children-other_text.ensures.text c.leaf-other_node.ensures more;
      apart = λ _ same.
          both_ways _ c.if-eq.false
          (c.eq.ensures ∙ (bytes_eq-Decides c.leaf-node.result c.leaf-other_node.result).1 same);
    }

pub returns : goal.returns
returns c = λ root count level proof other_proof apart.
    let begun = c.into_iter-sibling-iterator.ensures.into_iter_gives in
    let first =
    ap (λ z. iter_rest (zip_first z)) begun ∙ ap iter_rest c.zip-sibling-items.ensures.first
    ∙ c.iter.ensures.rest ∙ c.deref.ensures.value in
    let second = ap (λ z. iter_rest (zip_second z)) begun ∙ c.zip-sibling-items.ensures.second.0 in
    let end =
    zip_end _ _ c.levels.yielded c.into_iter-sibling-iterator.result c.levels.sibling-iterator c.next.new.self _
    first second c.levels.yielded_by c.in-None.is c.next.ensures.steps in
    absurd (c.levels.invariant.apart apart
    (walks_meet _ _ _ _ _ _ _ _ _ root count level c.levels.invariant.walk c.levels.invariant.other_walk end
    proof other_proof))
