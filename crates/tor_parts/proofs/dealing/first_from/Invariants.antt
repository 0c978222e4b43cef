-- the units so far begin before the byte
use Rattle.std.proofs.Common.{◌≡◌, ◌≤◌, ◌*◌, ◌+◌, ◌^◌, drop, length, take}
use Rattle.tor_parts.specs.Dealing.{bytes_of, units_before}
use Rattle.tor_parts.proofs.dealing.first_from.Given as goal

abbrev pub invariant-units : goal.invariant-units
invariant-units l = record {
  counted : l.index + units_before l.byte l.begins (drop l.index l.units)
      ≡ l.from + units_before l.byte l.at (drop l.from l.units);
  begins : l.begins ≡ bytes_of (take l.index l.units);
  within : l.index ≤ length l.units;
  few : l.begins ≤ l.index * 2 ^ 40;
}
