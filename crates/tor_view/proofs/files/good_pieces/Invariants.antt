-- the pieces so far that hold were counted
use Rattle.tor_view.proofs.Names.{◌≡◌, ◌≤◌, ◌-◌, max}
use Rattle.tor_view.proofs.FileBits.{held_up_to}
use Rattle.tor_view.proofs.files.good_pieces.Given as goal

abbrev pub invariant-pieces : goal.invariant-pieces
invariant-pieces l = record {
  counted : l.good ≡ held_up_to l.held l.span.first l.index;
  few : l.good ≤ l.index - l.span.first;
  within : l.index ≤ max l.span.first l.span.after;
}
