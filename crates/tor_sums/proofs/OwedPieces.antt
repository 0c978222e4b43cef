-- What is owed to units in memory, and one unit more.
use Rattle.std.proofs.Common.{◌≡◌, ◌+◌, ◌*◌, ◌%◌, ◌<◌, ℕ, List, [], ◌++◌, length, ap, ap₂, sym, subst, ◌∙◌}
use Rattle.std.proofs.Common.{append_assoc, arith, length-append}
use Rattle.tor_tree.specs.declared.kinds.Kind.TheVariants.{V1}
use Rattle.tor_v1.specs.Piece.{piece_sums, zeros}
use Rattle.tor_v1.proofs.ProvedLaws.{length_of_zeros, piece_sums-nil, sums_of_joined}
use Rattle.tor_sums.specs.declared.owing_pieces.OwingPieces.{OwingPieces}
use Rattle.tor_sums.specs.steps.OwingPieces.{OwesPieces}
use Rattle.tor_sums.specs.steps.Room.{count_in}
use Rattle.tor_sums.specs.steps.Worker.{CanFinish, HasTaken}
use Rattle.tor_sums.proofs.OwedSums.{can_finish, whole_count}

module _ (p : ℕ) (some : 0 < p) where
  pub pieces_none : (owing : OwingPieces) → HasTaken V1 p [] [] owing.sums → count_in owing.sums.room ≡ 0
      → OwesPieces p [] owing
  pieces_none owing taken none = record {
    joined = [];
    taken = taken;
    whole = (0, let e : 0 ≡ 0 * p = omega arith in e);
    is_owed = piece_sums-nil p some;
    can = can_finish owing.sums none;
  }

  mul-add : (n m p : ℕ) → (n + m) * p ≡ n * p + m * p
  mul-add n m p = omega arith

  pub pieces_more : (owed bytes : List ℕ) (n : ℕ) (old new : OwingPieces) (owes : OwesPieces p owed old)
      → (length bytes + n) % p ≡ 0 → HasTaken V1 p [] ((owes.joined ++ bytes) ++ zeros n) new.sums
      → CanFinish new.sums → OwesPieces p (owed ++ piece_sums p (bytes ++ zeros n)) new
  pieces_more owed bytes n old new owes ends taken can =
      let unit = bytes ++ zeros n in
      let all = append_assoc owes.joined bytes (zeros n) in
      let long : length unit ≡ length bytes + n =
      length-append bytes (zeros n) ∙ ap (λ k. length bytes + k) (length_of_zeros n) in
      let own = whole_count p (length bytes + n) unit some ends long in
      record {
        joined = owes.joined ++ unit;
        taken = subst (λ (xs : List ℕ). HasTaken V1 p [] xs new.sums) all taken;
        whole = (
          owes.whole.0 + own.0,
          length-append owes.joined unit ∙ ap₂ (λ a b. a + b) owes.whole.1 own.1
              ∙ sym (mul-add owes.whole.0 own.0 p),
        );
        is_owed = sums_of_joined p owes.whole.0 owes.joined unit some owes.whole.1
            ∙ ap (λ xs. xs ++ piece_sums p unit) owes.is_owed;
        can = can;
      }
