use Rattle.std.proofs.Common.{◌≡◌, ℕ, ◌*◌, ◌/◌, ◌-◌, ◌<◌, ◌≤◌, List, [], drop, length, inl, inr}
use Rattle.std.proofs.Common.{rules, arith, ap, sym, ◌∙◌, length-drop}
use Rattle.std.proofs.lemmas.Bool.{cases_lt}
use Rattle.std.proofs.lemmas.Grind.{get_or-set_at}
use Rattle.std.proofs.lemmas.List.{get_or-set_other, take_all}
use Rattle.sha2.specs.Sha256.{sha256}
use Rattle.tor_hashes.proofs.last_blocks.last_block_hashes.Goals as goal

pub returns-clause-hashes : goal.returns-clause-hashes
returns-clause-hashes c i lt =
    let b = c.args.blocks.now in
    let last : ℕ = c.saturating_sub-last.result / 16384 in
    let counted : last ≡ (length b - 1) / 16384 = ap (λ n. n / 16384) c.saturating_sub-last.ensures in
    elim (cases_lt i last) [
      | inl less ↦
          get_or-set_other c.earlier_hashes-hashes.result last i _ [] (λ same. omega (arith, less, same))
          ∙ c.earlier_hashes-hashes.ensures i less
      | inr more ↦
          let same : i ≡ last = omega (arith, counted, more, lt, c.requires) in
          let rest : List ℕ = drop (16384 * i) b in
          let short : length rest ≤ 16384 = omega (arith, length-drop (16384 * i) b, same, counted) in
          let in_bounds : last < length c.earlier_hashes-hashes.result = search rules in
          get_or-set_at c.earlier_hashes-hashes.result last i _ [] same in_bounds ∙ c.ended_hash.ensures
          ∙ ap sha256 (c.split_at.ensures.back ∙ ap (λ (n : ℕ). drop (16384 * n) b) (sym same)
          ∙ sym (take_all 16384 rest short))
    ]
