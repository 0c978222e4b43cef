use Rattle.tor_view.proofs.Names.{◌∙◌, ◌<◌, ◌≤◌, Bool, List, ap, sym, length, arith, take_all, set_count}
use Rattle.std.proofs.lemmas.Grind.{common_steps}
use Rattle.tor_view.proofs.Counted.{test_tells, one_more, none_more}
use Rattle.tor_view.proofs.ReadBack.{length-packed_bits}
use Rattle.tor_view.proofs.bits.Bits.count_set.Goals.{then-eq, else-eq}
use Rattle.tor_view.proofs.bits.Bits.count_set.Goals as goal

pub pieces-preserved : goal.pieces-preserved
pieces-preserved c =
    let bits = c.args.self.now in
    let count = ap (λ (b : List Bool). length b) (sym c.self.view_is) in
    let lt : c.pieces.index < length bits =
    omega (arith, count, length-packed_bits c.self.inside.bytes.items c.self.inside.count) in
    let tested = test_tells bits c.pieces.index c.get.result c.eq.result lt c.get.ensures c.eq.ensures in
    elim c.if-eq.branch [
      | then-eq w ↦
          one_more bits c.pieces.index c.pieces.set c.if-eq.set lt c.pieces.invariant (tested ∙ w.if-eq.true) w.set-is
      | else-eq w ↦
          none_more bits c.pieces.index c.pieces.set c.if-eq.set lt c.pieces.invariant (tested ∙ w.if-eq.false) w.set-is
    ]

pub returns : goal.returns
returns c =
    let bits = c.args.self.now in
    let count = ap (λ (b : List Bool). length b) (sym c.self.view_is) in
    let all : length bits ≤ c.pieces.index =
    omega (arith, count, length-packed_bits c.self.inside.bytes.items c.self.inside.count) in
    c.pieces.invariant ∙ ap (λ (b : List Bool). set_count b) (take_all c.pieces.index bits all)

pub overflow_add-set : goal.overflow_add-set
overflow_add-set c = grind (arith, common_steps)
