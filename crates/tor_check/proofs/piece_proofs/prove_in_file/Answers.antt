use Rattle.tor_check.proofs.Names.{◌≡◌, ◌+◌, ◌<◌, ◌≤◌, ◌∙◌, ap, arith, length, rules, subst, sym}
use Rattle.tor_check.proofs.Names.{length-map-range_with_len, siblings_of, height, TreeFile}
use Rattle.tor_check.proofs.Heights.{low_root}
use Rattle.tor_check.proofs.PieceSteps.{proof_of_root}
use Rattle.tor_check.proofs.piece_proofs.prove_in_file.Goals.{After-piece_level}
use Rattle.tor_check.proofs.piece_proofs.prove_in_file.Goals as goal

pub returns-in-Some-clause-proved : goal.returns-in-Some-clause-proved
returns-in-Some-clause-proved c =
    let p = c.args.piece_length in
    let short = subst (λ (file : TreeFile). file.length ≤ p) c.file.ensures c.if-file-piece_length.true in
    let first : c.args.index ≡ 0 = search rules in
    let root = ap (λ (file : TreeFile). file.root) (sym c.file-then-file-piece_length.ensures) ∙ c.in-Some.is in
    proof_of_root p c.args.told.now c.args.index c.in-Some.root c.new-siblings.result.items short root first
    c.new-siblings.ensures.items

-- the layer of a file has a low root
low_layer : (c : After-piece_level) → c.piece_level.result + height (length c.layer-layer.result.now) ≤ 36
low_layer c =
    let p = c.args.piece_length in
    let tree = c.requires.tree in
    let long = subst (λ (file : TreeFile). p < file.length) c.file.ensures c.if-file-piece_length.false in
    low_root p c.args.told.now.file.length (length c.layer-layer.result.now) c.piece_level.result c.requires.allowed
    tree.small long (ap length c.layer-layer.ensures ∙ tree.pieces long) c.piece_level.ensures.value

pub prove-requires : goal.prove-requires
prove-requires c = record { low = low_layer c }

pub returns-in-Ok-clause-few : goal.returns-in-Ok-clause-few
unfolding siblings_of
returns-in-Ok-clause-few c =
    let layer = c.layer-layer.result.now in
    let levels : length c.in-Ok.proof.siblings.items ≡ height (length layer) =
    ap length c.in-Ok.ensures.siblings ∙ length-map-range_with_len _ 0 (height (length layer)) in
    let low = low_layer (goal.at.returns-in-Ok-clause-few c).After-piece_level in
    omega (arith, levels, low)
