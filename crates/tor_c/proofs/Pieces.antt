-- No bytes are no piece of a file that has some.
use Rattle.std.proofs.Common.{◌≡◌, ◌*◌, ◌-◌, ◌<◌, ◌≤◌, ℕ, zero, suc, Bool, true, false, List, arith, refl, inl, inr}
use Rattle.std.proofs.Common.{length}
use Rattle.std.proofs.Common.{◌∙◌, sym}
use Rattle.std.specs.Prelude.{◌==◌, min}
use Rattle.std.proofs.lemmas.Bool.{cases_lt, cond-true, cond-false, lt-ltb, le-ltb, eqb-true}
use Rattle.tor_merkle.proofs.ProvedLaws.{ceil_at_most, piece_length_bounds}
use Rattle.tor_merkle.specs.Layer.{IsPieceLength}
use Rattle.tor_merkle.specs.Proof.{proof_count}
use Rattle.tor_c.specs.Proofs.{are_proved, piece_size}
use Rattle.tor_c.specs.declared.claim.Claim.{Claim}

-- a piece that would begin past the end has no proof
few_hashes : (size p index : ℕ) → 0 < p → 0 < size → size ≤ index * p → proof_count size p ≤ index
few_hashes size p index pos some past = elim (cases_lt p size) [
  | inl long ↦ rw (cond-true _ _ _ (lt-ltb p size long)) (ceil_at_most size p index pos past)
  | inr short ↦ rw (cond-false _ _ _ (le-ltb p size short)) (one index past)
]
  where
    one : (i : ℕ) → size ≤ i * p → 1 ≤ i
    one zero past = absurd (omega (arith, some, past))
    one (suc i) past = omega arith

-- of which no byte is left there
past_end : (p size start : ℕ) → 0 < p → 0 ≡ min p (size - start) → size ≤ start
past_end p size start pos e = omega (arith, pos, e)

pub none_of_empty : (c : Claim) (bytes : List ℕ) (siblings : List (List ℕ)) → IsPieceLength c.piece_length
    → 0 < c.size → length bytes ≡ 0 → are_proved c bytes siblings ≡ false
none_of_empty c bytes siblings allowed some empty = by_size (length bytes == piece_size c) refl
  where
    pos : 0 < c.piece_length
    pos = let bounds = (piece_length_bounds c.piece_length).0 allowed in omega (arith, bounds.1)

    beyond : length bytes ≡ piece_size c → proof_count c.size c.piece_length ≤ c.index
    beyond same = few_hashes c.size c.piece_length c.index pos some
        (past_end c.piece_length c.size (c.index * c.piece_length) pos (sym empty ∙ same))

    by_size : (b : Bool) → (length bytes == piece_size c) ≡ b → are_proved c bytes siblings ≡ false
    by_size false e = rw e refl
    by_size true e = rw (e, le-ltb c.index (proof_count c.size c.piece_length) (beyond (eqb-true _ _ e))) refl
