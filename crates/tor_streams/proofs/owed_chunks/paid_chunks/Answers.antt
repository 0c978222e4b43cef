-- each gets what is owed to it
use Rattle.std.proofs.Common.{◌∙◌, ap, arith, length, map, sum_by}
use Rattle.tor_sums.specs.steps.Owing.{paid_each}
use Rattle.tor_sums.proofs.PaidSums.{paid_length}
use Rattle.tor_sums.proofs.WholeSlice.{written_whole}
use Rattle.tor_streams.specs.steps.Cuts.{facts_of}
use Rattle.tor_streams.specs.steps.OwedChunks.{owed_to_chunk, paid_chunk, sums_in}
use Rattle.tor_streams.proofs.OwedChunks.{all_paid, enough}
use Rattle.tor_streams.proofs.owed_chunks.paid_chunks.Goals as goal

pub pay-requires : goal.pay-requires
pay-requires c =
    let are = c.requires.2 in
    let p = c.requires.0.piece_length in
    let same = ap length (c.deref.ensures.value ∙ c.all_owed-owed.ensures p are.owed are.owes) in
    let items = ap (sum_by owed_to_chunk) c.as_mut_slice.ensures.value in
    let total = enough c.requires.0 c.requires.1 c.args.sums.items are.owed are.each in
    omega (arith, same, items, total)

pub returns : goal.returns
returns c = λ chunking chunks are.
    let old = c.args.sums in
    let same = c.deref.ensures.value ∙ c.all_owed-owed.ensures chunking.piece_length are.owed are.owes in
    let paid = c.pay.ensures.paid
    ∙ ap (λ xs. paid_each owed_to_chunk paid_chunk xs c.deref.result.now) c.as_mut_slice.ensures.value
    ∙ ap (paid_each owed_to_chunk paid_chunk old.items) same in
    let long = ap length paid ∙ paid_length owed_to_chunk paid_chunk old.items are.owed in
    ap (map (λ one. facts_of (sums_in one))) (written_whole old.items c.pay.new.items old.len long old.ok.0 ∙ paid)
    ∙ all_paid chunking chunks old.items are.owed are.each
