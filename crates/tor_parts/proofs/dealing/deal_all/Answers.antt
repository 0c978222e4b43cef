-- one lot more
use Rattle.std.proofs.Common.{◌≡◌, ◌≤◌, ◌∙◌, ◌+◌, ◌/◌, ◌%◌, ◌^◌, ◌∷◌, [], ℕ, List, ap, ap₂, arith, drop, get_or, inl, inr}
use Rattle.std.proofs.Common.{cond, length, subst, sym, take}
use Rattle.std.proofs.Math.Seq.{take-add}
use Rattle.std.proofs.lemmas.Bool.{cases_lt, lt-ltb}
use Rattle.std.proofs.lemmas.List.{drop-drop, get_or_append_left, get_or_push, length-append}
use Rattle.std.proofs.lemmas.List.Sums.{sum_by-append}
use Rattle.std.specs.List.{All}
use Rattle.tor_parts.specs.Dealing.{bytes_of, first_byte, units_before}
use Rattle.tor_parts.proofs.DealtUnits.{byte_grows, resumed}
use Rattle.tor_parts.proofs.PlanUnits.{small_units}
use Rattle.tor_plan.specs.PlanFacts.{IsPlan, PlanFacts}
use Rattle.tor_plan.specs.WithinEntries.{unit_length}
use Rattle.tor_plan.specs.declared.units.PlanUnit.{PlanUnit}
use Rattle.tor_parts.proofs.dealing.deal_all.Goals as goal

small : (plan : PlanFacts) (units : List PlanUnit) → IsPlan plan → units ≡ plan.units
    → All (λ unit. unit_length unit ≤ 2 ^ 40) units
small plan units is same =
    subst (λ (us : List PlanUnit). All (λ unit. unit_length unit ≤ 2 ^ 40) us) (sym same) (small_units plan is)

pub total_of-total-requires-clause-small : goal.total_of-total-requires-clause-small
total_of-total-requires-clause-small c =
    small c.args.plan.now c.units-units.result.now c.units-units.ensures.planned c.units-units.ensures.value

pub first_from-requires-clause-small : goal.first_from-requires-clause-small
first_from-requires-clause-small c =
    small c.args.plan.now c.units-units.result.now c.units-units.ensures.planned c.units-units.ensures.value

pub lots-preserved : goal.lots-preserved
lots-preserved c =
    let units = c.units-units.result.now in
    let lots = c.args.lots in
    let lot = c.lots.lot in
    let unit = c.lots.unit in
    let byte = c.lots.byte in
    let total = c.total_of-total.result in
    let first = c.first_byte-first.result in
    let n = units_before first byte (drop unit units) in
    let pushed = c.in_ok-push.ensures.items in
    let old = c.lots.firsts.items in
    let now = c.first_from.result.0 in
    let is : first ≡ first_byte total lots lot =
    c.first_byte-first.ensures
    ∙ ap₂ (λ (a : ℕ) (b : ℕ). first_byte total a b) c.from.ensures c.from-in-lots.ensures in
    let next = c.first_from.ensures.first in
    let here : units_before first 0 units ≡ now =
    c.lots.invariant.before first (omega (arith, is)) ∙ sym next in
    record {
      counted = omega (arith, ap length pushed, length-append old (now ∷ []), c.lots.invariant.counted);
      first = λ k below. elim (cases_lt k lot) [
        | inl less ↦
            ap (λ (xs : List ℕ). get_or xs k 0) pushed
            ∙ get_or_append_left old (now ∷ []) 0 k (omega (arith, less, c.lots.invariant.counted))
            ∙ c.lots.invariant.first k less
        | inr most ↦
            let same : k ≡ lot = omega (arith, below, most) in
            ap (λ (xs : List ℕ). get_or xs k 0) pushed
            ∙ get_or_push old now 0 k (omega (arith, same, c.lots.invariant.counted))
            ∙ sym here
            ∙ ap (λ b. units_before b 0 units) (is ∙ ap₂ (λ (t : ℕ) (m : ℕ). first_byte t lots m) c.total_of-total.ensures (sym same))
            ∙ sym (ap (λ b. cond b (units_before (first_byte (bytes_of units) lots k) 0 units) (length units))
            (lt-ltb k lots (omega (arith, same, c.lots-test.true))))
      ];
      within = c.first_from.ensures.within;
      begins = c.first_from.ensures.at;
      before = λ later le.
          let grows = byte_grows (total / lots) (total % lots) lot in
          let go_on = c.lots.invariant.before later (omega (arith, le, grows)) in
          let again = resumed first later byte (drop unit units) (omega (arith, le, grows, is)) in
          let dropped : drop n (drop unit units) ≡ drop now units =
          drop-drop n unit units ∙ ap (λ k. drop k units) (sym next) in
          let long : byte + bytes_of (take n (drop unit units)) ≡ c.first_from.result.1 =
          ap (λ m. m + bytes_of (take n (drop unit units))) c.lots.invariant.begins
          ∙ sym (sum_by-append unit_length (take unit units) (take n (drop unit units)))
          ∙ ap bytes_of (sym (take-add unit n units) ∙ ap (λ k. take k units) (sym next))
          ∙ sym c.first_from.ensures.at in
          let rest = ap₂ (λ (m : ℕ) (us : List PlanUnit). units_before later m us) long dropped in
          omega (arith, go_on, again, rest, next);
    }
