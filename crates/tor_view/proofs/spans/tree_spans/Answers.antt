-- one file after the other
use Rattle.tor_view.proofs.Names.{◌≡◌, ℕ, ◌+◌, ◌∙◌, ◌∷◌, ◌++◌, [], ap, ap₂, subst, sym, arith, append-nil, drop}
use Rattle.tor_view.proofs.Names.{drop_all}
use Rattle.tor_view.proofs.Names.{div_ceil, tree_spans, TreeFile}
use Rattle.tor_view.proofs.SpanSteps.{count_of_files, pieces_left, tree_step}
use Rattle.tor_view.proofs.spans.tree_spans.Goals as goal

pub overflow_add-after : goal.overflow_add-after
overflow_add-after c =
    let p = c.args.piece_length in
    let count = c.div_ceil.ensures ∙ ap (λ (file : TreeFile). div_ceil file.length p) c.file.ensures in
    let left = pieces_left p c.files.first c.files.file-index _ c.args.files.now c.file-item.result c.files-test.true
    c.file-item.is c.files.invariant.pieces in
    omega (arith, left, count, c.requires.few)

pub files-preserved : goal.files-preserved
files-preserved c =
    let p = c.args.piece_length in
    let first = c.files.first in
    let i = c.files.file-index in
    let files = c.args.files.now in
    let told = c.file-item.result in
    let spans = c.files.spans.items in
    let here = c.files-test.true in
    let count = c.div_ceil.ensures ∙ ap (λ (file : TreeFile). div_ceil file.length p) c.file.ensures in
    let pushed = c.in_ok-push.ensures.items
    ∙ ap₂ (λ m n. spans ++ record { length = m; first = first; after = first + n; lead = 0 } ∷ [])
    (ap (λ (file : TreeFile). file.length) c.file.ensures) count in
    record {
      spans = subst (λ (n : ℕ). c.push.new.self.items ++ tree_spans p (first + n) (drop (i + 1) files)
          ≡ tree_spans p 0 files) (sym count)
          (tree_step p first i files told spans _ _ here c.file-item.is c.files.invariant.spans pushed);
      pieces = subst (λ (n : ℕ). first + n + count_of_files p (drop (i + 1) files) ≡ count_of_files p files) (sym count)
          (pieces_left p first i _ files told here c.file-item.is c.files.invariant.pieces);
    }

pub returns : goal.returns
returns c =
    let spans = c.files.spans.items in
    sym (append-nil spans)
    ∙ ap (λ left. spans ++ tree_spans c.args.piece_length c.files.first left)
    (sym (drop_all c.files.file-index c.args.files.now c.files-test.false))
    ∙ c.files.invariant.spans
