use Rattle.std.proofs.Common.{◌≡◌, ◌||◌, ℕ, false, slice_index_or, take, vec_len}
use Rattle.tor_meta.specs.Lots.{has_bytes_of}
use Rattle.tor_meta.proofs.plans.lot_files.mark_units.Given as goal

abbrev pub invariant-units : goal.invariant-units
invariant-units l = (vec_len l.own ≡ vec_len l.initial.own)
    × ((file : ℕ) → slice_index_or l.own.items file false ≡ (slice_index_or l.initial.own.items file false
    || has_bytes_of (take l.unit-index l.units) file))
