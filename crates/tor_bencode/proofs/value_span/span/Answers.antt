use Rattle.tor_bencode.proofs.Names.{◌≡◌, ◌-◌, length, take, drop, sym, ap, ◌∙◌, arith, length-take, length-drop}
use Rattle.tor_bencode.proofs.Names.{span_in}
use Rattle.tor_bencode.proofs.SkippedPairs.{open_pairs, next_pair, none_left, span_found, span_later}
use Rattle.tor_bencode.proofs.value_span.span.Goals as goal

pub pairs-init : goal.pairs-init
pairs-init c =
    let size : length (take (length c.args.bytes.now - 1) (drop 1 c.args.bytes.now)) ≡ length c.args.bytes.now - 1 =
    simp (length-take, length-drop) (omega arith) in (
      omega arith,
      λ d lawful is.
          let inside = open_pairs d c.args.bytes.now lawful is (omega arith) in
          let at : 1 ≡ length c.args.bytes.now - length (take (length c.args.bytes.now - 1) (drop 1 c.args.bytes.now)) =
          omega arith in
          (inside.0, inside.1, inside.2, inside.3 c.args.key.now ∙ ap (λ n. span_in n c.args.key.now inside.0) at),
    )

pub returns-in_default-string : goal.returns-in_default-string
returns-in_default-string c =
    λ d lawful is.
    let left = c.pairs.invariant.1 d lawful is in
    none_left left.0 c.pairs.rest.now c.args.key.now _ c.in_default-string.field-0 left.2
    c.in_default-string.ensures.no_memory c.in_default-string.ensures.read ∙ sym left.3

pub returns-in_default-skip : goal.returns-in_default-skip
returns-in_default-skip c =
    λ d lawful is.
    let left = c.pairs.invariant.1 d lawful is in
    let next =
    next_pair left.0 c.pairs.rest.now c.in-Ok.name.now c.in-Ok.after.now left.1 left.2 c.in-Ok.ensures.read in
    absurd (c.in_default-skip.ensures.skipped next.value _ next.lawful next.follows)

pub returns-then-eq : goal.returns-then-eq
returns-then-eq c =
    λ d lawful is.
    let left = c.pairs.invariant.1 d lawful is in
    let next =
    next_pair left.0 c.pairs.rest.now c.in-Ok.name.now c.in-Ok.after.now left.1 left.2 c.in-Ok.ensures.read in
    let then = c.in-Some.ensures.skipped next.value _ next.lawful next.follows in
    span_found left.0 c.args.bytes.now c.pairs.rest.now c.in-Ok.name.now c.in-Ok.after.now c.in-Some.next.now
    c.args.key.now next c.pairs.invariant.0 then (sym c.eq.ensures ∙ c.if-eq.true) ∙ sym left.3

pub pairs-preserved : goal.pairs-preserved
pairs-preserved c = (
  omega (arith, c.pairs.invariant.0, c.in-Ok.ensures.shorter, c.in-Some.ensures.shorter),
  λ d lawful is.
      let left = c.pairs.invariant.1 d lawful is in
      let next =
      next_pair left.0 c.pairs.rest.now c.in-Ok.name.now c.in-Ok.after.now left.1 left.2 c.in-Ok.ensures.read in
      let then = c.in-Some.ensures.skipped next.value _ next.lawful next.follows in (
        next.others,
        next.lawful_others,
        then,
        left.3 ∙ span_later left.0 c.args.bytes.now c.pairs.rest.now c.in-Ok.name.now c.in-Ok.after.now
            c.in-Some.next.now c.args.key.now next c.pairs.invariant.0 then (sym c.eq.ensures ∙ c.if-eq.false),
      ),
)
