use Rattle.std.proofs.lemmas.Grind.{common_steps}
use Rattle.std.proofs.Common.{ℕ, List, ◌≡◌, ◌-◌, ◌<◌, Option, Some, None, IsSome, length, get_or, arith, ap}
use Rattle.std.proofs.Common.{◌∙◌, refl}
use Rattle.std.proofs.lemmas.Slice.Zip.{AllZip-long}
use Rattle.tor_spec.specs.PieceLayers.{joined}
use Rattle.tor_tree.specs.TidyTree.{HasItsRoot}
use Rattle.tor_meta.proofs.LayerSteps.{layer_left_out, layer_put, zip_at}
use Rattle.tor_meta.proofs.fields.layers.by_root.Goals as goal

pub bounds : goal.bounds
bounds c =
    let same = AllZip-long HasItsRoot c.args.files.now c.args.roots.now c.requires.rooted in
    omega (arith, same, c.files.invariant.within, c.files-test.true)

pub unreachable-requires : goal.unreachable-requires
unreachable-requires c =
    let k = c.files.left - 1 in
    let within : k < length c.args.files.now = omega (arith, c.files.invariant.within, c.files-test.true) in
    let rooted =
    zip_at HasItsRoot c.args.files.now c.args.roots.now k c.index-files-left.result None c.requires.rooted within in
    no_root (get_or c.args.roots.now k None) (rooted.1 (omega (arith, c.if-files-left.true))) c.in_default.not-Some
  where
    no_root : (root : Option (List ℕ)) → IsSome root → ((x : List ℕ) → root ≡ Some x → ⊥) → ⊥
    no_root None there none = cc
    no_root (Some x) there none = none x refl

pub files-preserved-in_ok-insert : goal.files-preserved-in_ok-insert
files-preserved-in_ok-insert c = record {
  within = omega (arith, c.files.invariant.within);
  passed = λ facts is_listed is_roots is_layers.
      layer_put c.args.piece_length c.args.files.now c.args.roots.now c.args.layers.now c.files.left c.files-test.true
      c.files.invariant.within c.index-files-left.result
      None c.index-layers-left.result c.in-Some.root c.in_ok-joined_hashes.field-0 c.files.by_root.entries
      c.insert.new.self.entries
      c.if-files-left.true c.in-Some.is (c.in_ok-joined_hashes.ensures
      ∙ ap joined (c.deref.ensures.value ∙ ap (λ layer. layer.items) c.index-layers-left.is))
      c.in_ok-insert.ensures.entries
      facts is_listed is_roots is_layers (c.files.invariant.passed facts is_listed is_roots is_layers);
}

pub files-preserved-in_ok-insert-2 : goal.files-preserved-in_ok-insert-2
files-preserved-in_ok-insert-2 c = record {
  within = omega (arith, c.files.invariant.within);
  passed = λ facts is_listed is_roots is_layers.
      layer_put c.args.piece_length c.args.files.now c.args.roots.now c.args.layers.now c.files.left c.files-test.true
      c.files.invariant.within c.index-files-left.result
      None c.index-layers-left.result c.in-Some.root c.in_ok-joined_hashes.field-0 c.files.by_root.entries
      c.insert.new.self.entries
      c.if-files-left.true c.in-Some.is (c.in_ok-joined_hashes.ensures
      ∙ ap joined (c.deref.ensures.value ∙ ap (λ layer. layer.items) c.index-layers-left.is))
      c.in_ok-insert.ensures.entries
      facts is_listed is_roots is_layers (c.files.invariant.passed facts is_listed is_roots is_layers);
}

pub files-preserved : goal.files-preserved
files-preserved c = record {
  within = omega (arith, c.files.invariant.within);
  passed = λ facts is_listed is_roots is_layers.
      layer_left_out c.args.piece_length c.args.files.now c.args.roots.now c.args.layers.now c.files.left
      c.files-test.true c.files.invariant.within c.index-files-left.result
      c.files.by_root.entries c.if-files-left.false
      facts is_listed is_roots is_layers (c.files.invariant.passed facts is_listed is_roots is_layers);
}

pub files-init : goal.files-init
files-init c = grind (arith, common_steps)

pub bounds-roots-left : goal.bounds-roots-left
bounds-roots-left c = grind (arith, common_steps)
