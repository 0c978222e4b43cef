-- the unit ends at a piece's end, or ends the pieces
use Rattle.std.proofs.Common.{◌++◌, ◌∙◌, [], ap, refl}
use Rattle.tor_sums.proofs.OwedSums.{ends, goes_on, nothing_in, on_ok_more, pos, whole_count}
use Rattle.tor_sums.proofs.owing.OwingSums.end_unit.Goals as goal

pub returns-then-is_empty : goal.returns-then-is_empty
returns-then-is_empty c = λ owed joined with long.
    let plan = c.args.plan.now in
    let old = c.args.self.now in
    let is = c.requires.planned in
    on_ok_more c.reserve.result
    (λ can. goes_on plan is owed joined old with _
    (whole_count plan.piece_length c.args.count joined (pos plan is) (c.goes_on.ensures c.if-goes_on.true)
    long)
    (nothing_in old.ended.len old.ended.items old.ended.ok.0 c.if-is_empty.ensures) refl
    (record {
      taken = c.reserve.ensures.keeps plan.kind plan.piece_length [] (with.before ++ joined) with.fresh.taken;
      begun = c.reserve.ensures.begun ∙ with.fresh.begun;
    }) can) c.reserve.ensures.room

pub returns : goal.returns
returns c = λ owed joined with long.
    let plan = c.args.plan.now in
    let own = c.in_ok-own.ensures in
    ends plan c.requires.planned owed joined c.args.self.now with _ c.in_ok-own.own.items
    (own.sums plan.kind plan.piece_length [] (with.before ++ joined) with.fresh.taken)
    (c.in_ok-extend_from_slice.ensures.items ∙ ap (λ xs. c.args.self.now.ended.items ++ xs) c.deref.ensures.value)
    own.next own.none
