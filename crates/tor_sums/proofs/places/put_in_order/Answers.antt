-- the slice is the whole vector
use Rattle.std.proofs.Common.{List, IsPermutation, length, map, ap, subst, sym, ◌∙◌}
use Rattle.std.proofs.lemmas.List.Sorted.{length_permutation}
use Rattle.std.specs.List.{range_with_len}
use Rattle.tor_sums.specs.steps.Places.{AreNumbers}
use Rattle.tor_sums.proofs.WholeSlice.{written_whole}
use Rattle.tor_sums.proofs.places.put_in_order.Goals as goal

pub returns : goal.returns
returns g c =
    let items = c.args.items.items in
    let new = c.put_in_place.new.items in
    let value = c.as_mut_slice.ensures.value in
    let long = length_permutation c.as_mut_slice.result.now new c.put_in_place.ensures.same ∙ ap length value in
    let whole = written_whole items new c.args.items.len long c.args.items.ok.0 in
    record {
      same = subst (IsPermutation items) (sym whole)
          (subst (λ (xs : List g.row.T.Denot). IsPermutation xs new) value c.put_in_place.ensures.same);
      placed = λ number gives are. ap (map number) whole
          ∙ c.put_in_place.ensures.placed number gives
          (subst (λ (xs : List g.row.T.Denot). AreNumbers (map number xs)) (sym value) are)
          ∙ ap (λ (xs : List g.row.T.Denot). range_with_len 0 (length xs)) value;
    }
