use Rattle.tor_bencode.proofs.Names.{◌-◌, ◌+◌, ◌≡◌, drop, refl, sym, ap, ◌∙◌, subst, arith, false≢true}
use Rattle.tor_bencode.proofs.Rising.{KeysRise, KeysRise-from, KeysRise-last}
use Rattle.tor_bencode.proofs.tree.keys_rise.Goals as goal

pub returns-then-not-comes_before : goal.returns-then-not-comes_before
returns-then-not-comes_before c =
    let step =
    KeysRise-from c.args.pairs.now
    (c.loop-i.i - 1) c.loop-i.i c.index-pairs-i.result c.index-pairs-i-in-loop-i.result _ _ (omega arith) (omega arith)
    (c.deref.ensures.value ∙ ap (λ p. p.0.items) c.index-pairs-i.is)
    (c.deref-in-loop-i.ensures.value ∙ ap (λ p. p.0.items) c.index-pairs-i-in-loop-i.is) in (
      λ e. absurd (false≢true e),
      λ h. sym c.if-not-comes_before.true ∙ c.comes_before.ensures.1 (step.0 (c.loop-i.invariant.1 h)).0,
    )

pub loop-i-preserved : goal.loop-i-preserved
loop-i-preserved c =
    let step =
    KeysRise-from c.args.pairs.now
    (c.loop-i.i - 1) c.loop-i.i c.index-pairs-i.result c.index-pairs-i-in-loop-i.result _ _ (omega arith) (omega arith)
    (c.deref.ensures.value ∙ ap (λ p. p.0.items) c.index-pairs-i.is)
    (c.deref-in-loop-i.ensures.value ∙ ap (λ p. p.0.items) c.index-pairs-i-in-loop-i.is) in
    let here : c.loop-i.i + 1 - 1 ≡ c.loop-i.i = omega arith in
    let order = c.comes_before.ensures.0 c.if-not-comes_before.false in (
      λ h. c.loop-i.invariant.0 (step.1 (order, subst (λ n. KeysRise (drop n c.args.pairs.now)) here h)),
      λ h. subst (λ n. KeysRise (drop n c.args.pairs.now)) (sym here) (step.0 (c.loop-i.invariant.1 h)).1,
    )

pub returns : goal.returns
returns c =
    let rising = KeysRise-last c.args.pairs.now (c.loop-i.i - 1) (omega arith) in
    (λ _. c.loop-i.invariant.0 rising, λ _. refl)
