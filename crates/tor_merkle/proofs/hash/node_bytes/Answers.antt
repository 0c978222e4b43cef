-- the second half is written after the first
use Rattle.tor_merkle.proofs.Names.{◌≡◌, ℕ, List, ◌++◌, length, drop, arith, refl, ap, ap₂, ◌∙◌, take_at, drop_at}
use Rattle.tor_merkle.proofs.Names.{drop_all, append-nil, length-append, put_mid}
use Rattle.tor_merkle.proofs.hash.node_bytes.Goals as goal

second_half : (n : ℕ) (a b z : List ℕ) → length a ≡ n → length z ≡ n → put_mid n n (a ++ z) b ≡ a ++ b
second_half n a b z e rest =
    ap₂ (λ x y. x ++ (b ++ y)) (take_at a z n e) (ap (drop n) (drop_at a z n e) ∙ drop_all n z (omega arith))
    ∙ ap (λ x. a ++ x) (append-nil b)

pub returns-clause-bytes : goal.returns-clause-bytes
returns-clause-bytes c =
    second_half 32 c.copy_from_slice.new.self c.copy_from_slice-2.new.self _ c.copy_from_slice.ensures.len refl
    ∙ ap₂ (λ x y. x ++ y) (c.copy_from_slice.ensures.after ∙ c.as_slice.ensures)
    (c.copy_from_slice-2.ensures.after ∙ c.as_slice-2.ensures)

pub returns-clause-long : goal.returns-clause-long
returns-clause-long c =
    ap length (returns-clause-bytes c) ∙ length-append c.args.left.now c.args.right.now ∙ omega arith
