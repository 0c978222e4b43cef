-- Which paths are extra, in rows worked out by hand.
use Rattle.std.proofs.Common.{◌≡◌, true, false, [], ◌∷◌, codes, refl}
use Rattle.tor_source.specs.Extra.{extra_paths, is_extra}

known_is_none : is_extra (codes "a" ∷ codes "d/c" ∷ []) (codes "d/c") ≡ false
known_is_none = refl

other_is_one : is_extra (codes "a" ∷ codes "d/c" ∷ []) (codes "d/e") ≡ true
other_is_one = refl

padding_is_none : is_extra [] (codes ".pad/5") ≡ false
padding_is_none = refl

dotted_is_one : is_extra [] (codes ".pads") ≡ true
dotted_is_one = refl

-- files `a` and `d/c`, and a link `l`
beside : extra_paths ((codes "a" ∷ []) ∷ (codes "d" ∷ codes "c" ∷ []) ∷ []) (codes "l" ∷ [])
    ((codes "d" ∷ codes "c" ∷ []) ∷ []) ≡ codes "a" ∷ codes "l" ∷ []
beside = refl
