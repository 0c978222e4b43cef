-- the spans so far and those of what is left are all, and so are the pieces
use Rattle.tor_view.proofs.Names.{◌≡◌, ◌+◌, ◌++◌, drop, tree_spans}
use Rattle.tor_view.proofs.SpanSteps.{count_of_files}
use Rattle.tor_view.proofs.spans.tree_spans.Given as goal

abbrev pub invariant-files : goal.invariant-files
invariant-files l =
    let left = drop l.file-index l.files in
    record {
      spans : l.spans.items ++ tree_spans l.piece_length l.first left ≡ tree_spans l.piece_length 0 l.files;
      pieces : l.first + count_of_files l.piece_length left ≡ count_of_files l.piece_length l.files;
    }
