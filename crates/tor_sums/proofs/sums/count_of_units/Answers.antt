-- a node of a file has room for its units
use Rattle.std.proofs.Common.{◌≡◌, ◌-◌, ◌*◌, ◌%◌, ◌^◌, ◌≤◌, ℕ, Some, arith, pow_mono, ap, subst, sym, refl, ◌∙◌}
use Rattle.std.specs.Int.{div_ceil}
use Rattle.tor_sums.proofs.Levels.{few_below}
use Rattle.tor_sums.proofs.sums.count_of_units.Goals as goal

pub overflow_mul-level : goal.overflow_mul-level
overflow_mul-level c = omega (arith, pow_mono (c.requires.low c.in-Some.level c.in-Some.is))

pub returns-in-Some-clause-few : goal.returns-in-Some-clause-few
returns-in-Some-clause-few c = λ k is.
    let same : Some c.in-Some.level ≡ Some k = sym c.in-Some.is ∙ is in
    let level : c.in-Some.level ≡ k = cc in
    let low = c.requires.low k is in
    let wide : 16384 * (1 * 2 ^ c.in-Some.level % 18446744073709551616) ≡ 16384 * 2 ^ k =
    rw level (omega (arith, pow_mono low)) in
    subst (λ (n : ℕ). n ≤ 2 ^ (36 - k)) (sym (c.div_ceil.ensures ∙ ap (div_ceil c.args.size) wide))
    (few_below c.args.size (16384 * 2 ^ k) k 36 refl low c.requires.small)
