-- what was added is of what is left
use Rattle.std.proofs.Common.{◌≡◌, [], sym, append-nil, ◌+◌, ◌-◌, ◌++◌, arith, ap, ◌∙◌, subst, append_assoc}
use Rattle.tor_v1.specs.Feeding.{HasFed}
use Rattle.tor_v1.specs.Piece.{zeros}
use Rattle.std.proofs.lemmas.Bool.{false≢true}
use Rattle.tor_v1.proofs.Fed.{room_within}
use Rattle.tor_v1.proofs.Zeros.{zeros-nil, zeros-append}
use Rattle.tor_v1.proofs.sums.PieceSums.feed_zeros.Goals as goal

pub returns-in_err-make_room-clause-within : goal.returns-in_err-make_room-clause-within
returns-in_err-make_room-clause-within c = λ p bytes fed le.
    absurd (false≢true (c.in_err-make_room.ensures.there (room_within c.args.self.now p bytes fed c.args.count le)))

pub parts-init : goal.parts-init
parts-init c = record {
  within = omega arith;
  fed = λ p before fed.
      let none : zeros (c.args.count - c.args.count) ≡ [] =
      ap zeros (let e : c.args.count - c.args.count ≡ 0 = omega arith in e) ∙ zeros-nil in
      subst (HasFed c.make_room.new.self p) (sym (ap (λ xs. before ++ xs) none ∙ append-nil before)) fed;
  room = c.in_ok-make_room.ensures.room;
}

pub parts-preserved : goal.parts-preserved
parts-preserved c =
    let n = c.add_zeros-left.result in
    let fed = c.args.count - c.parts.left in
    let later = c.args.count - (c.parts.left - n) in
    let sum : fed + n ≡ later = omega (arith, c.add_zeros-left.ensures.some, c.parts.invariant.within) in
    let all : zeros fed ++ zeros n ≡ zeros later = zeros-append fed n ∙ ap zeros sum in
    record {
      within = omega (arith, c.parts.invariant.within);
      fed = λ p before held.
          let same : (before ++ zeros fed) ++ zeros n ≡ before ++ zeros later =
          rw (append_assoc before (zeros fed) (zeros n), all) in
          subst (HasFed c.add_zeros-left.new.self p) same
          (c.add_zeros-left.ensures.fed p (before ++ zeros fed) (c.parts.invariant.fed p before held));
      room = c.add_zeros-left.ensures.room;
    }
