-- Pieces of which none is there, held as their number.
use Rattle.std.proofs.Common.{◌≡◌, ◌∙◌, ℕ, ◌+◌, ◌-◌, ◌<◌, ◌≤◌, suc, zero, List, [], ◌∷◌, ◌++◌, drop, length, map}
use Rattle.std.proofs.Common.{Bool, true, false, ◌&&◌, None, add-one, ap, arith, get_or, refl, replicate}
use Rattle.std.specs.List.{flat_map, list_all}
use Rattle.std.proofs.Math.ListN.{get_or-append}
use Rattle.std.proofs.Math.Seq.{drop-append-add, drop-cons}
use Rattle.std.proofs.lemmas.List.{get_or-map, length-append, length-map}
use Rattle.tor_sums.specs.steps.Owing.{paid_each}
use Rattle.tor_engine.specs.declared.pieces.piece_hash.FoundPiece.{FoundPiece}
use Rattle.tor_engine.specs.declared.pieces.piece_hash.FoundPiece.TheVariants.{Hashed, Missing, Unsummed}
use Rattle.tor_engine.specs.declared.pieces.piece_work.UnitPieces.{UnitPieces}
use Rattle.tor_engine.specs.steps.FoundRow.{is_missing}
use Rattle.tor_engine.specs.steps.UnitHashes.{hashes_of_unit}
use Rattle.tor_engine.specs.steps.Pieces.{hashes_in, owed_to_piece, paid_piece}

-- nothing is owed to them, and none has hashes
pub missing_paid : (count : ℕ) (sums : List ℕ)
    → replicate count Missing ≡ paid_each owed_to_piece paid_piece (replicate count Missing) sums
unfolding paid_each
missing_paid zero sums = refl
missing_paid (suc count) sums = ap (λ rest. Missing ∷ rest) (missing_paid count sums)

pub missing_hashes : (count : ℕ) → map hashes_in (replicate count Missing) ≡ replicate count None
missing_hashes zero = refl
missing_hashes (suc count) = ap (λ rest. None ∷ rest) (missing_hashes count)

all_missing_from : (one : FoundPiece) (rest : Bool) → (is_missing one && rest) ≡ true
    → (one ≡ Missing) × (rest ≡ true)
all_missing_from Missing true e = (refl, refl)
all_missing_from Missing false e = cc
all_missing_from (Hashed hashes) rest e = cc
all_missing_from (Unsummed v2) rest e = cc

-- all of them, if each is missing
pub all_missing : (found : List FoundPiece) → list_all is_missing found ≡ true → replicate (length found) Missing ≡ found
all_missing [] e = refl
all_missing (one ∷ found) e =
    let both = all_missing_from one (list_all is_missing found) e in
    rw (both.0, all_missing found both.1) refl

-- the next hash is of the first unit, if not all of its are taken
pub next_of_unit : (unit : UnitPieces) (later : List UnitPieces) (taken : ℕ) → taken < length unit.pieces
    → drop taken (flat_map hashes_of_unit (unit ∷ later))
    ≡ hashes_in (get_or unit.pieces taken Missing) ∷ drop (taken + 1) (flat_map hashes_of_unit (unit ∷ later))
next_of_unit unit later taken within =
    let own = hashes_of_unit unit in
    let rest = flat_map hashes_of_unit later in
    let long : taken < length own = omega (arith, within, length-map unit.pieces hashes_in) in
    let all = drop-cons (own ++ rest) taken None (omega (arith, long, length-append own rest)) in
    let first = get_or-append own rest None taken long ∙ get_or-map hashes_in unit.pieces taken Missing None within in
    rw add-one (all ∙ ap (λ hash. hash ∷ drop (suc taken) (own ++ rest)) first)

-- or of a later one
pub past_unit : (unit : UnitPieces) (later : List UnitPieces) (taken : ℕ) → length unit.pieces ≤ taken
    → drop taken (flat_map hashes_of_unit (unit ∷ later))
    ≡ drop (taken - length unit.pieces) (flat_map hashes_of_unit later)
past_unit unit later taken past =
    let own = hashes_of_unit unit in
    let rest = flat_map hashes_of_unit later in
    let left = taken - length unit.pieces in
    let is : taken ≡ length own + left = omega (arith, past, length-map unit.pieces hashes_in) in
    ap (λ k. drop k (own ++ rest)) is ∙ drop-append-add own rest left

-- without units none is left
pub none_left : (units : List UnitPieces) (taken : ℕ) → length units ≡ 0 → drop taken (flat_map hashes_of_unit units) ≡ []
none_left [] zero none = refl
none_left [] (suc taken) none = refl
none_left (unit ∷ units) taken none = absurd (omega arith)
