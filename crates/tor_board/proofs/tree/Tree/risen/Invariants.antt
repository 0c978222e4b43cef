-- the hash so far rises where the first one does
use Rattle.tor_board.proofs.Names.{◌*◌, ◌-◌, ◌<◌, ◌^◌, ◌≡◌, ◌≤◌, raised, risen}
use Rattle.tor_board.proofs.tree.Tree.risen.Given as goal

abbrev pub decreases-levels : goal.decreases-levels
decreases-levels l = l.self.height - l.spot.level

abbrev pub invariant-levels : goal.invariant-levels
invariant-levels l = let s = l.spot in let f = l.fn.start in record {
  low : s.level ≤ l.self.height;
  within : s.index * 2 ^ s.level < l.self.count;
  level : (risen l.self (l.self.height - s.level) s.level s.index).0
      ≡ (risen l.self (l.self.height - f.level) f.level f.index).0;
  index : (risen l.self (l.self.height - s.level) s.level s.index).1
      ≡ (risen l.self (l.self.height - f.level) f.level f.index).1;
  hash : raised l.self (l.self.height - s.level) s.level s.index s.hash
      ≡ raised l.self (l.self.height - f.level) f.level f.index f.hash;
}
