-- the chunks are the hashes
use Rattle.std.proofs.Common.{◌≤◌, ◌*◌, ◌/◌, ℕ, List, arith, length, subst, sym, ◌∙◌}
use Rattle.std.specs.List.{AllByRecursion}
use Rattle.tor_parts.specs.LotText.{Is32}
use Rattle.tor_parts.proofs.LotHashes.{chunks_are_32, chunks_joined}
use Rattle.tor_parts.proofs.lot_text.row_of.Goals as goal

pub returns-clause-is : goal.returns-clause-is
returns-clause-is c =
    let bytes = c.args.hashes.now in
    let within : length bytes / 32 * 32 ≤ length bytes = omega arith in
    subst (λ (hashes : List (List ℕ)). AllByRecursion Is32 hashes)
    (sym (c.in_ok-from_slice.ensures.items ∙ c.as_chunks.ensures.front))
    (chunks_are_32 (length bytes / 32) bytes within)

pub returns-clause-hashes : goal.returns-clause-hashes
returns-clause-hashes c = λ all are same.
    c.in_ok-from_slice.ensures.items ∙ c.as_chunks.ensures.front ∙ chunks_joined c.args.hashes.now all are same
