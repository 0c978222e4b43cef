-- a piece has bytes
use Rattle.tor_recheck.proofs.Names.{◌<◌, ap₂, flat_map, hashes_of_file, subst, sym, View}
use Rattle.tor_view.proofs.NoCondition.{some_bytes}
use Rattle.tor_recheck.proofs.merkle_hashes.ToldHashes.of.Goals as goal

pub invariant_of-result : goal.invariant_of-result
invariant_of-result c =
    let valid = c.files.ensures.valid in
    let some = subst (λ (view : View). 0 < view.piece_length) (sym valid.described)
    (some_bytes valid.tree valid.accepted) in
    subst (λ n. 0 < n) (sym c.piece_length.ensures) some

pub returns : goal.returns
returns c = ap₂ (λ n files. flat_map (hashes_of_file n) files) c.piece_length.ensures c.files.ensures.value
