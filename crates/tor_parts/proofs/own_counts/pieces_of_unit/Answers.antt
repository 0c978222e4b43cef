-- a part has no more pieces than bytes
use Rattle.std.proofs.Common.{◌<◌, ◌≤◌, ◌+◌, ℕ, List, [], ◌∷◌, ap, arith, sum_by}
use Rattle.std.proofs.lemmas.List.Sums.{sum_by-cons}
use Rattle.std.specs.Int.{div_ceil}
use Rattle.tor_merkle.proofs.ProvedLaws.{ceil_few}
use Rattle.tor_plan.specs.declared.units.Part.{Part}
use Rattle.tor_parts.proofs.own_counts.pieces_of_unit.Goals as goal

few : (p : ℕ) → 0 < p → (parts : List Part)
    → sum_by (λ part. div_ceil part.length p) parts ≤ sum_by (λ part. part.length + part.zeros) parts
few p pos [] = omega arith
few p pos (part ∷ parts) =
    omega (
      arith,
      few p pos parts,
      ceil_few part.length p pos,
      sum_by-cons (λ (part : Part). div_ceil part.length p) part parts,
      sum_by-cons (λ (part : Part). part.length + part.zeros) part parts,
    )

pub returns-clause-few : goal.returns-clause-few
returns-clause-few c =
    let p = c.args.piece_length in
    omega (
      arith,
      c.count_of.ensures,
      ap (sum_by (λ (part : Part). div_ceil part.length p)) c.as_slice.ensures,
      few p c.requires.piece c.args.unit.now.parts,
      c.requires.small,
    )
