-- what they sum up to stands behind what was there
use Rattle.std.proofs.Common.{◌++◌, ap, map, ◌∙◌}
use Rattle.std.proofs.lemmas.List.{map-append}
use Rattle.std.proofs.lemmas.Simd.{map-map}
use Rattle.tor_streams.specs.steps.Cuts.{facts_of}
use Rattle.tor_streams.specs.steps.OwedChunks.{sums_in}
use Rattle.tor_streams.proofs.owed_chunks.settle_chunks.Goals as goal

pub returns : goal.returns
returns c = λ chunking chunks are.
    let old = c.args.all.now.items in
    let new = c.paid_chunks-sums.result.items in
    ap (map facts_of) c.in_ok-push_sums.ensures ∙ map-append facts_of old (map sums_in new)
    ∙ ap (λ xs. map facts_of old ++ xs) (map-map facts_of sums_in new
    ∙ c.paid_chunks-sums.ensures chunking chunks are)
