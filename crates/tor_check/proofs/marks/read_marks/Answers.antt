use Rattle.tor_check.proofs.Names.{refl, sym, w64, to_z-of_z, view}
use Rattle.tor_check.proofs.MarkLemmas.{marks_from}
use Rattle.tor_check.proofs.marks.read_marks.Goals as goal

pub returns : goal.returns
returns c =
    let marks =
    marks_from (view c.args.item.now) c.in_ok-length.length c.in_ok-letters.letters.now
    (sym c.in_ok-length.ensures.value) (sym c.in_ok-letters.ensures) in
    let same = to_z-of_z w64 c.in_ok-length.length c.in_ok-length.ensures.fits in
    rw (
      same,
      marks,
      c.has_attr.ensures,
      c.contains.ensures.value,
      c.contains-2.ensures.value,
      c.contains-3.ensures.value,
      c.contains-4.ensures.value,
    ) refl
