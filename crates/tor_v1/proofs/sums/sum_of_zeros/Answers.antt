-- each part is of what is left
use Rattle.std.proofs.Common.{◌≡◌, [], ◌+◌, ◌-◌, ◌++◌, arith, sym, ap, ◌∙◌, subst}
use Rattle.sha1.specs.Sha1.{Holds}
use Rattle.tor_v1.specs.Piece.{zeros}
use Rattle.tor_v1.proofs.Zeros.{zeros-nil, zeros-append}
use Rattle.tor_v1.proofs.sums.sum_of_zeros.Goals as goal

pub parts-init : goal.parts-init
parts-init c = record {
  within = omega arith;
  holds =
      let none : zeros (c.args.count - c.args.count) ≡ [] =
      ap zeros (let e : c.args.count - c.args.count ≡ 0 = omega arith in e) ∙ zeros-nil in
      subst (Holds c.new-hasher.result) (sym none) c.new-hasher.ensures;
}

pub parts-preserved : goal.parts-preserved
parts-preserved c =
    let n = c.min-length.result in
    let fed = c.args.count - c.parts.left in
    let later = c.args.count - (c.parts.left - n) in
    let sum : fed + n ≡ later = omega (arith, c.min-length.ensures, c.parts.invariant.within) in
    record {
      within = omega (arith, c.parts.invariant.within);
      holds = subst (Holds c.update.new.self)
          (ap (λ xs. zeros fed ++ xs) c.zeros.ensures ∙ zeros-append fed n ∙ ap zeros sum)
          (c.update.ensures (zeros fed) c.parts.invariant.holds);
    }
