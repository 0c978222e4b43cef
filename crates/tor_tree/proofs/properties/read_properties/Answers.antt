use Rattle.tor_tree.proofs.Cited.{refl, sym, w64, to_z-of_z, ref_view}
use Rattle.tor_tree.proofs.PropertyLemmas.{facts_from}
use Rattle.tor_tree.proofs.properties.read_properties.Goals as goal

pub returns : goal.returns
returns c =
    let facts = facts_from (ref_view c.args.item.now) c.in_ok-length.length c.in_ok-letters.letters.now
    (sym c.in_ok-length.ensures.value) (sym c.in_ok-letters.ensures) in
    let same = to_z-of_z w64 c.in_ok-length.length c.in_ok-length.ensures.fits in
    rw (
      same,
      facts,
      c.hash_of.ensures,
      c.has_attr.ensures,
      c.contains.ensures.value,
      c.contains-2.ensures.value,
      c.contains-3.ensures.value,
    ) refl
