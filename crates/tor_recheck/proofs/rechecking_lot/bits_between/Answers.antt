-- one bit more
use Rattle.tor_recheck.proofs.Names.{◌≡◌, ◌∙◌, ◌∷◌, ◌++◌, [], ◌+◌, ◌-◌, ◌<◌, ap, ap₂, arith, drop, false, get_or, length, sym}
use Rattle.tor_recheck.proofs.Names.{take, take_more, get_or-drop, length-drop}
use Rattle.tor_view.proofs.FileBits.{bit_tested}
use Rattle.tor_recheck.proofs.rechecking_lot.bits_between.Goals as goal

pub pieces-preserved : goal.pieces-preserved
pieces-preserved c =
    let bits = c.args.bits.now in
    let from = c.args.from in
    let i = c.pieces.index in
    let low = c.pieces.auto.index in
    let rest = drop from bits in
    let lt : i - from < length rest =
    omega (arith, c.pieces-test.true, c.requires.within, low, length-drop from bits) in
    let here : from + (i - from) ≡ i = omega (arith, low) in
    let next : i - from + 1 ≡ i + 1 - from = omega (arith, low) in
    c.in_ok-push.ensures.ok
    ∙ ap₂ (λ (before : _) bit. before ++ bit ∷ []) c.pieces.invariant
    (sym (bit_tested bits i c.get.result c.eq.result c.get.ensures c.eq.ensures)
    ∙ sym (get_or-drop from bits (i - from) false ∙ ap (λ n. get_or bits n false) here))
    ∙ sym (take_more rest (i - from) false lt)
    ∙ ap (λ n. take n rest) next
