-- the spans so far and those of what is left are all, and so are the bytes
use Rattle.tor_view.proofs.Names.{◌≡◌, ◌+◌, ◌++◌, drop, entries_length, joined_spans}
use Rattle.tor_view.proofs.spans.joined_spans.Given as goal

abbrev pub invariant-entries : goal.invariant-entries
invariant-entries l =
    let left = drop l.entry-index l.entries in
    record {
      spans : l.spans.items ++ joined_spans l.piece_length l.start left ≡ joined_spans l.piece_length 0 l.entries;
      bytes : l.start + entries_length left ≡ entries_length l.entries;
    }
