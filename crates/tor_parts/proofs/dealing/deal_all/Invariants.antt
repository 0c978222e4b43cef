-- the lots so far
use Rattle.std.proofs.Common.{◌≡◌, ◌≤◌, ◌<◌, ◌+◌, ℕ, drop, get_or, length, take}
use Rattle.tor_parts.specs.Dealing.{bytes_of, first_byte, first_unit, units_before}
use Rattle.tor_parts.proofs.dealing.deal_all.Given as goal

abbrev pub invariant-lots : goal.invariant-lots
invariant-lots l = record {
  counted : length l.firsts.items ≡ l.lot;
  first : (lot : ℕ) → lot < l.lot → get_or l.firsts.items lot 0 ≡ first_unit l.lots lot l.units;
  within : l.unit ≤ length l.units;
  begins : l.byte ≡ bytes_of (take l.unit l.units);
  before : (byte : ℕ) → first_byte l.total l.lots l.lot ≤ byte
      → units_before byte 0 l.units ≡ l.unit + units_before byte l.byte (drop l.unit l.units);
}
