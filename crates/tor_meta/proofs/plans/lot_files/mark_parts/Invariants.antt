use Rattle.std.proofs.Common.{◌≡◌, ◌||◌, ◌==◌, ℕ, false, slice_index_or, take, vec_len}
use Rattle.std.specs.List.{list_any}
use Rattle.tor_meta.proofs.plans.lot_files.mark_parts.Given as goal

abbrev pub invariant-parts : goal.invariant-parts
invariant-parts l = (vec_len l.own ≡ vec_len l.initial.own)
    × ((file : ℕ) → slice_index_or l.own.items file false ≡ (slice_index_or l.initial.own.items file false
    || list_any (λ part. part.file == file) (take l.part-index l.parts)))
