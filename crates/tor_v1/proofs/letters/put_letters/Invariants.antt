use Rattle.std.proofs.Common.{◌≡◌, ◌≤◌, ◌++◌, drop, take}
use Rattle.tor_v1.specs.Entries.{with_letters}
use Rattle.tor_v1.proofs.letters.put_letters.Given as goal

-- the entries so far, and those that are left with the letters that are left
abbrev pub invariant-entries : goal.invariant-entries
invariant-entries l =
    (l.count ≤ l.entry-index)
    × (take l.entry-index l.entries ++ with_letters (drop l.count l.attrs) (drop l.entry-index l.entries)
    ≡ with_letters l.attrs l.fn.entries)
