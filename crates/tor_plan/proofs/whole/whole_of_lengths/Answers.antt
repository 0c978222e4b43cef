-- one file more, and all
use Rattle.tor_plan.proofs.Names.{◌<◌, ◌≤◌, [], get_or, get_or_default, subst, sym, length-map, arith, refl, drop_all}
use Rattle.tor_plan.proofs.Names.{file_entry, unnamed, whole_unit}
use Rattle.tor_plan.proofs.Unnamed.{unnamed_at}
use Rattle.tor_plan.proofs.WholeUnits.{past_all, past_file}
use Rattle.tor_plan.proofs.whole.whole_of_lengths.Goals as goal

pub files-preserved : goal.files-preserved
files-preserved c =
    let ms = c.args.lengths.now in
    let i = c.files.length-index in
    let m = get_or ms i 0 in
    let lt = c.files-test.true in
    let old = c.files.invariant in
    record {
      few = omega (arith, old.few);
      all = past_file (unnamed ms) i (file_entry ([], m))
          (subst (λ n. i < n) (sym (length-map ms (λ n. file_entry ([], n)))) lt)
          (unnamed_at ms i m lt (get_or_default ms i 0 m lt)) c.files.whole (whole_unit (unnamed ms)) c.files.index
          old.all c.add_file.new.whole refl c.in_ok-add_file.ensures;
    }

pub returns : goal.returns
returns c =
    let ms = c.args.lengths.now in
    let i = c.files.length-index in
    past_all c.files.whole _ c.files.index _
    (drop_all i (unnamed ms) (subst (λ n. n ≤ i) (sym (length-map ms (λ n. file_entry ([], n)))) c.files-test.false))
    c.files.invariant.all
