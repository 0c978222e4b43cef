-- What was fed so far, and the entries that are left, are the whole content.
use Rattle.std.proofs.Common.{◌≡◌, ℕ, List, ◌++◌, drop}
use Rattle.std.specs.Slice.Iter.{iter_rest}
use Rattle.tor_meta.specs.steps.Contents.{bytes_of}
use Rattle.tor_v1.specs.Content.{joined_content}
use Rattle.tor_v1.specs.Feeding.{HasFed}
use Rattle.tor_meta.proofs.sums.sum_pieces.Given as goal

abbrev pub invariant-loop-entry : goal.invariant-loop-entry
invariant-loop-entry l =
    (fed : List ℕ) × HasFed l.sums l.piece_length fed
    × (fed ++ joined_content (drop l.entry-index l.entries) (bytes_of (iter_rest l.left))
    ≡ joined_content l.entries (bytes_of l.contents))
