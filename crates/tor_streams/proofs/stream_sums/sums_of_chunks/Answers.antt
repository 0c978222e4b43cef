-- the pieces of what the contents are joined to
use Rattle.std.proofs.Common.{ℕ, List, Result, Ok, Err, IfOk, ap, subst, ◌∙◌, sym}
use Rattle.std.proofs.lemmas.List.Folds.{flat_map-map}
use Rattle.std.specs.List.{flat_map}
use Rattle.tor_plan.specs.Content.{AreContentsOfFiles, cut_content}
use Rattle.tor_streams.specs.Streams.{AreSumsOfContents}
use Rattle.tor_sums.specs.Sums.{AreSumsOf}
use Rattle.tor_sums.specs.declared.sums.Sums.{Sums}
use Rattle.tor_sums.specs.declared.unit_sums.UnitSums.{UnitSums}
use Rattle.tor_streams.specs.declared.chunking.Chunking.{Chunking}
use Rattle.tor_streams.specs.steps.ChunkNodes.{SumUpCuts}
use Rattle.tor_streams.specs.steps.Cuts.{pieces_of_cut, stream_cuts}
use Rattle.tor_streams.proofs.StreamPieces.{pieces_of_stream}
use Rattle.tor_streams.proofs.stream_sums.sums_of_chunks.Goals as goal

for_all_files : {E : Type 0} (chunking : Chunking) (contents : List (List ℕ)) (made : Result Sums E)
    → ((files : List (List (List ℕ) × ℕ)) → AreContentsOfFiles files contents
    → IfOk made (AreSumsOf chunking.kind chunking.piece_length contents
    (cut_content chunking.kind chunking.tail chunking.piece_length files contents)))
    → IfOk made (AreSumsOfContents chunking.kind chunking.tail chunking.piece_length contents)
for_all_files chunking contents (Ok sums) each = each
for_all_files chunking contents (Err error) each = tt

pub trees_of_stream-requires-clause-chunks : goal.trees_of_stream-requires-clause-chunks
trees_of_stream-requires-clause-chunks c =
    let chunks = c.requires.chunks in (
      chunks.0,
      subst (λ (lengths : List ℕ). SumUpCuts c.args.chunking chunks.0 lengths c.args.chunks.now)
          (sym c.deref.ensures.value) chunks.1,
    )

pub returns : goal.returns
returns c = λ contents are.
    let chunking = c.args.chunking in
    let chunks = c.args.chunks.now in
    let own = λ (sums : UnitSums). sums.pieces.items in
    let trees = c.in_ok-trees.ensures contents
    (subst (λ (lengths : List ℕ). SumUpCuts chunking contents lengths chunks) (sym c.deref.ensures.value) are) in
    for_all_files chunking contents c.sums_with.result
    (λ files fit.
    c.sums_with.ensures.summed chunking.kind chunking.piece_length contents
    (cut_content chunking.kind chunking.tail chunking.piece_length files contents) are.counted trees
    (sym (flat_map-map (λ (hash : List ℕ). hash) own chunks)
    ∙ ap (flat_map (λ (hash : List ℕ). hash)) are.pieces
    ∙ flat_map-map (λ (hash : List ℕ). hash) (pieces_of_cut chunking) (stream_cuts chunking contents)
    ∙ pieces_of_stream chunking c.requires.cut files contents fit))
