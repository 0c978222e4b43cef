-- each step
use Rattle.std.proofs.Common.{◌<◌, length, map, arith, ap, sym, ◌∙◌}
use Rattle.std.proofs.lemmas.List.{get_or-map, length-map}
use Rattle.std.proofs.lemmas.List.Edits.{swapped_from_swap}
use Rattle.std.proofs.lemmas.List.Sorted.{IsPermutation-map}
use Rattle.tor_sums.proofs.Placing.{at_end, below_at, goes_on, map_swap, some_item, swaps}
use Rattle.tor_sums.proofs.places.step.Goals as goal

pub returns-then-place-items-clause-step : goal.returns-then-place-items-clause-step
returns-then-place-items-clause-step g c = λ number steps gives has few.
    let long = length-map c.args.items.now number in
    at_end steps c.args.place (map number c.args.items.now) has (omega (arith, long, c.if-place-items.true))
    (omega (arith, long, few))

pub returns-then-own-place-clause-step : goal.returns-then-own-place-clause-step
returns-then-own-place-clause-step g c = λ number steps gives has few.
    let items = c.args.items.now in
    let place = c.args.place in
    let there : place < length items = omega (arith, c.if-place-items.false) in
    let d = some_item items place there in
    let own = get_or-map number items place d 0 there ∙ sym (gives _ _ (c.number_at-own.ensures d)) in
    goes_on steps place (map number items) has (omega (arith, there, length-map items number))
    (omega (arith, own, c.if-own-place.true))

pub returns-then-own-items-clause-step : goal.returns-then-own-items-clause-step
returns-then-own-items-clause-step g c = λ number steps gives has few.
    let items = c.args.items.now in
    let place = c.args.place in
    let there : place < length items = omega (arith, c.if-place-items.false) in
    let d = some_item items place there in
    let own = get_or-map number items place d 0 there ∙ sym (gives _ _ (c.number_at-own.ensures d)) in
    let long = length-map items number in
    let low = below_at (length (map number items)) (map number items) place has.are.1 (omega (arith, there, long)) in
    absurd (omega (arith, low, own, long, c.if-own-items.true))

pub returns-clause-step : goal.returns-clause-step
returns-clause-step g c = λ number steps gives has few.
    let items = c.args.items.now in
    let place = c.args.place in
    let there : place < length items = omega (arith, c.if-place-items.false) in
    let below : c.number_at-own.result < length items = omega (arith, c.if-own-items.false) in
    let d = some_item items place there in
    let own = get_or-map number items place d 0 there ∙ sym (gives _ _ (c.number_at-own.ensures d)) in
    let long = length-map items number in
    let numbers = map number items in
    swaps steps place c.number_at-own.result numbers (map number c.swap.new.self) has (omega (arith, there, long)) own
    (λ same. omega (arith, same, c.if-own-place.false))
    (IsPermutation-map number items c.swap.new.self c.swap.ensures.permutation)
    (swapped_from_swap numbers (map number c.swap.new.self) place c.number_at-own.result 0
    (omega (arith, there, long)) (omega (arith, below, long))
    (ap (map number) c.swap.ensures.after ∙ map_swap number items place c.number_at-own.result there below))
