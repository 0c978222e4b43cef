-- The dictionary of a lot is a lawful tree, and has the values of its keys.
use Rattle.std.proofs.Common.{◌<◌, ◌^◌, ℕ, pos, arith, refl, rules}
use Rattle.std.proofs.lemmas.Int.{ints}
use Rattle.std.specs.Prelude.{FitsSigned}
use Rattle.std.specs.Int.{w64}
use Rattle.tor_bencode.specs.Lawful.{IsLawful}
use Rattle.tor_parts.specs.LotText.{LotFacts, lot_dictionary}

fits : (n : ℕ) → n < 2 ^ 63 → FitsSigned w64 (pos n)
fits n small = search (rules, ints)

pub lot_is_lawful : (facts : LotFacts) → facts.number < 2 ^ 63 → facts.lots < 2 ^ 63
    → IsLawful (lot_dictionary facts)
lot_is_lawful facts number lots = record {
  keys = ((refl, (refl, (refl, (refl, tt)))), (tt, (tt, (tt, (tt, (tt, tt))))));
  integers = (tt, (fits facts.number number, (fits facts.lots lots, (tt, (tt, tt)))));
  nesting = omega arith;
}
