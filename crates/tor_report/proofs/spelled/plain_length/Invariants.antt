-- The bytes so far stand for themselves.
use Rattle.std.proofs.Common.{◌≡◌, take}
use Rattle.tor_report.specs.Spelled.{spelled}
use Rattle.tor_report.proofs.spelled.plain_length.Given as goal

abbrev pub invariant-bytes : goal.invariant-bytes
invariant-bytes l = spelled l.spelling (take l.index l.text) ≡ take l.index l.text
