-- the hasher was fed the bytes, and the zeros after them
use Rattle.std.proofs.Common.{[], ap, length, ◌∙◌}
use Rattle.tor_streams.proofs.ChunkFacts.{facts_are}
use Rattle.tor_streams.proofs.chunk_sums.sum_chunk.Goals as goal

pub returns : goal.returns
returns c =
    let chunking = c.args.chunking in
    let kind = chunking.kind in
    let p = chunking.piece_length in
    let bytes = c.args.chunk.now.bytes.items in
    let n = c.args.chunk.now.zeros in
    let fed = c.in_ok-feed_pieces.ensures.fed kind p [] [] c.new-hasher.ensures.fed in
    let all = c.in_ok-feed_zeros.ensures.fed kind p [] c.as_slice-bytes.result.now fed in
    let are = rw c.as_slice-bytes.ensures.value at (c.in_ok-hashed.ensures kind p _ _ all) in
    facts_are chunking c.args.chunk.now.unit n bytes
    (λ none. c.if-length-eq0.false (ap length (c.as_slice-bytes.ensures.value ∙ none))) _ c.new.result
    are c.new.ensures.unit
    c.new.ensures.node c.new.ensures.bare c.new.ensures.pieces
