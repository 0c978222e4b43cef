-- several chunks, none, or one
use Rattle.std.proofs.Common.{◌≡◌, ◌≤◌, ◌*◌, length, arith, ap, sym, ◌∙◌, Some, zero-mul}
use Rattle.std.proofs.lemmas.Grind.{div_ceil_times}
use Rattle.std.specs.Int.{div_ceil}
use Rattle.tor_sums.proofs.FileNodes.{empty_tree}
use Rattle.tor_streams.proofs.ChunkTrees.{many, only_chunk, some_length, some_root}
use Rattle.tor_streams.proofs.stream_sums.tree_of_content.Goals as goal

pub returns-then-length-chunking : goal.returns-then-length-chunking
returns-then-length-chunking c = λ content are.
    let tree = c.in_ok-root.ensures content are in
    (ap Some tree.0 ∙ sym (some_root content (omega (arith, c.if-length-chunking.true, are.counted))), tree.1)

pub returns-then-own-eq0 : goal.returns-then-own-eq0
returns-then-own-eq0 c = λ content are.
    let size = c.args.chunking.size in
    let some = some_length size c.requires.cut.chunk in
    let none : div_ceil (length content) size ≡ 0 =
    sym (many c.args.chunking some content c.args.own.now are.nodes 0) ∙ c.if-own-eq0.true in
    let zero : div_ceil (length content) size * size ≡ 0 = ap (λ n. n * size) none ∙ zero-mul size in
    let empty : length content ≤ 0 = omega (arith, (div_ceil_times (length content) size some).0, zero) in
    let tree = empty_tree content c.args.chunking.piece_length empty in
    (tree.0, c.new.ensures.items ∙ tree.1)

pub returns : goal.returns
returns c = λ content are.
    let size = c.args.chunking.size in
    let is = c.index-own-0.is in
    let one = only_chunk c.args.chunking (some_length size c.requires.cut.chunk) content c.args.own.now
    c.index-own-0.result are.nodes (omega (arith, c.if-length-chunking.false, are.counted))
    (omega (arith, c.if-own-eq0.false)) in (
      ap (λ o. Some o.hash) is ∙ ap (λ n. Some n.0) one.1 ∙ sym (some_root content one.0),
      c.in_ok-layer.ensures.items ∙ c.deref.ensures.value ∙ ap (λ o. o.layer.items) is ∙ ap (λ n. n.1) one.1,
    )
