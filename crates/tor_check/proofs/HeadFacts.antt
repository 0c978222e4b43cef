-- What a head without fault tells of the piece length.
use Rattle.tor_check.proofs.Names.{◌≡◌, ℕ, ℤ, pos, negsuc, ◌≤◌, true, false, true≢false, Bool, not, ◌&&◌, Option, None}
use Rattle.tor_check.proofs.Names.{Some, codes, refl, sym, unwrap_or, unsigned_abs, nat_le, Data, value_of, first_in}
use Rattle.tor_check.proofs.Names.{head_conditions, IsPieceLength, is_piece_length, holds, is_no_piece_length, info_of}
use Rattle.tor_check.proofs.Names.{kind_of, piece_length_of, has_v2, as_integer, Kind, max_piece_length}
use Rattle.std.proofs.lemmas.Bool.{leb-true}
use Rattle.tor_check.proofs.Bounds.{found_none, first_or}

-- a piece length that a torrent of the kind can have
pub record IsAllowed (kind : Kind) (n : ℕ) : Type 0 where
  pub some : 1 ≤ n
  pub few : n ≤ max_piece_length
  pub tree : has_v2 kind ≡ true → IsPieceLength n

pub not_false : (b : Bool) → not b ≡ false → b ≡ true
not_false true e = refl
not_false false e = absurd (true≢false e)

both_true : (a b : Bool) → (a && b) ≡ true → (a ≡ true) × (b ≡ true)
both_true true b e = (refl, e)
both_true false b e = absurd (true≢false (sym e))

pub allowed_by : (kind : Kind) (found : Option ℤ) → is_no_piece_length kind found ≡ false
    → IsAllowed kind (unsigned_abs (unwrap_or found (pos 0)))
allowed_by kind None e = absurd (true≢false e)
allowed_by kind (Some (negsuc n)) e = absurd (true≢false e)
allowed_by kind (Some (pos n)) e =
    let parts = first_or (not (nat_le 1 n && nat_le n max_piece_length)) (has_v2 kind && not (is_piece_length n)) e in
    let bounds = both_true (nat_le 1 n) (nat_le n max_piece_length) (not_false _ parts.0) in
    record {
      some = leb-true 1 n bounds.0;
      few = leb-true n max_piece_length bounds.1;
      tree = λ v2. not_false (is_piece_length n) (rw v2 at parts.1);
    }

pub allowed : (root : Data) (n : ℕ) → first_in head_conditions root ≡ None → n ≡ piece_length_of (info_of root)
    → IsAllowed (kind_of (info_of root)) n
allowed root n none is =
    let fifth = (found_none (holds root) head_conditions none).1.1.1.0 in
    rw is (allowed_by (kind_of (info_of root)) (as_integer (value_of (codes "piece length") (info_of root))) fifth)
