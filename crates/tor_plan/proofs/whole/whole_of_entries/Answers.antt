-- padding fits in; one entry more, and all
use Rattle.tor_plan.proofs.Names.{◌+◌, arith, ap, ◌∙◌, drop, drop_all, joined, whole_from, whole_unit}
use Rattle.tor_plan.proofs.WholeUnits.{next_padding, past_all, past_file, past_padding, whole_length, zeros_fit}
use Rattle.tor_plan.proofs.whole.whole_of_entries.Goals.{then-entry, else-entry+in_ok-add_file}
use Rattle.tor_plan.proofs.whole.whole_of_entries.Goals as goal

pub add_zeros-requires : goal.add_zeros-requires
add_zeros-requires c =
    let entries = c.args.entries.now in
    let i = c.entries.entry-index in
    let entry = c.entry-item.result in
    let all = whole_unit entries in
    let next = next_padding entries i entry c.entries-test.true c.entry-item.is c.entries.whole all c.entries.index
    c.entries.invariant.all c.if-entry.true in
    let rest = whole_from c.entries.index (drop (i + 1) entries) in
    omega (arith, zeros_fit c.entries.whole rest all entry.length next, whole_length 0 entries, c.requires.small)

pub entries-preserved : goal.entries-preserved
entries-preserved c =
    let entries = c.args.entries.now in
    let i = c.entries.entry-index in
    let entry = c.entry-item.result in
    let lt = c.entries-test.true in
    let is = c.entry-item.is in
    let old = c.entries.invariant in
    let index = c.entries.index in
    let all = whole_unit entries in
    elim c.if-entry.branch [
      | then-entry w ↦ record {
        few = omega (arith, old.few, w.index-is);
        all = ap (λ n. joined c.if-entry.whole (whole_from n (drop (i + 1) entries))) w.index-is
            ∙ past_padding entries i entry lt is c.entries.whole all index old.all c.if-entry.whole w.if-entry.true
            (w.whole-is ∙ w.add_zeros.ensures.value);
      }
      | else-entry+in_ok-add_file w ↦ record {
        few = omega (arith, old.few, w.index-is);
        all = ap (λ n. joined c.if-entry.whole (whole_from n (drop (i + 1) entries))) w.index-is
            ∙ past_file entries i entry lt is c.entries.whole all index old.all c.if-entry.whole w.if-entry.false
            (w.whole-is ∙ w.in_ok-add_file.ensures);
      }
    ]

pub returns : goal.returns
returns c =
    past_all c.entries.whole _ c.entries.index _
    (drop_all c.entries.entry-index c.args.entries.now c.entries-test.false) c.entries.invariant.all
