-- one row more, and all
use Rattle.std.proofs.Common.{◌∙◌, ◌++◌, ap}
use Rattle.std.proofs.lemmas.List.{take_all}
use Rattle.tor_parts.specs.JoinedRows.{hashes_of, sums_of}
use Rattle.tor_parts.proofs.FlatMaps.{joined_more}
use Rattle.tor_parts.proofs.rows.hashes_and_sums.Goals as goal

pub rows-preserved : goal.rows-preserved
rows-preserved c =
    let rows = c.args.rows.now in
    let index = c.rows.row-index in
    let row = c.row-item.result in
    let there = c.rows-test.true in
    let before = c.rows.invariant in record {
      hashes =
          c.in_ok-extend_from_slice.ensures.items
          ∙ ap (λ xs. c.rows.hashes.items ++ xs) (c.deref.ensures.value ∙ ap (λ row. row.hashes.items) c.row-item.is)
          ∙ joined_more (λ row. row.hashes.items) rows index row c.rows.hashes.items there before.hashes;
      pieces =
          c.in_ok-extend_from_slice-2.ensures.items
          ∙ ap (λ xs. c.rows.pieces.items ++ xs)
          (c.deref-in-rows.ensures.value ∙ ap (λ row. row.pieces.items) c.row-item.is)
          ∙ joined_more (λ row. row.pieces.items) rows index row c.rows.pieces.items there before.pieces;
    }

pub returns : goal.returns
returns c =
    let all = take_all c.rows.row-index c.args.rows.now c.rows-test.false in
    (c.rows.invariant.hashes ∙ ap hashes_of all, c.rows.invariant.pieces ∙ ap sums_of all)
