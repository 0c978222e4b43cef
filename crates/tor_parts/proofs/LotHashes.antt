-- The hashes that joined bytes are, 32 bytes each.
use Rattle.std.proofs.Common.{◌≡◌, ◌≤◌, ◌<◌, get_or, ℕ, zero, suc, ◌+◌, ◌*◌, ◌/◌, List, [], ◌∷◌, ◌++◌, length, take}
use Rattle.std.proofs.Common.{drop, refl, subst, ap, ap₂, sym, ◌∙◌, arith}
use Rattle.std.proofs.ByRecursion.{All-push}
use Rattle.std.proofs.Math.Seq.{drop-append_seam, take-append_seam}
use Rattle.std.proofs.lemmas.List.{length-append, length-drop, length-take-le, take_more}
use Rattle.std.specs.List.{AllByRecursion}
use Rattle.std.specs.Simd.{first_chunks}
use Rattle.tor_parts.specs.LotText.{Is32, joined}

pub chunks_are_32 : (n : ℕ) (bytes : List ℕ) → n * 32 ≤ length bytes → AllByRecursion Is32 (first_chunks 32 n bytes)
chunks_are_32 zero bytes within = tt
chunks_are_32 (suc n) bytes within = (
  length-take-le 32 bytes (omega (arith, within)),
  chunks_are_32 n (drop 32 bytes) (omega (arith, within, length-drop 32 bytes)),
)

long_joined : (hashes : List (List ℕ)) → AllByRecursion Is32 hashes → length (joined hashes) ≡ length hashes * 32
long_joined [] are = refl
long_joined (hash ∷ hashes) are =
    omega (arith, length-append hash (joined hashes), are.0, long_joined hashes are.1)

chunks_of : (hashes : List (List ℕ)) → AllByRecursion Is32 hashes
    → first_chunks 32 (length hashes) (joined hashes) ≡ hashes
chunks_of [] are = refl
chunks_of (hash ∷ hashes) are =
    ap₂ (λ x xs. x ∷ xs)
    (ap (λ n. take n (hash ++ joined hashes)) (sym are.0) ∙ take-append_seam hash (joined hashes))
    (ap (first_chunks 32 (length hashes))
    (ap (λ n. drop n (hash ++ joined hashes)) (sym are.0) ∙ drop-append_seam hash (joined hashes))
    ∙ chunks_of hashes are.1)

pub chunks_joined : (bytes : List ℕ) (hashes : List (List ℕ)) → AllByRecursion Is32 hashes → bytes ≡ joined hashes
    → first_chunks 32 (length bytes / 32) bytes ≡ hashes
chunks_joined bytes hashes are same =
    let count : length bytes / 32 ≡ length hashes = omega (arith, ap length same, long_joined hashes are) in
    ap₂ (λ n bs. first_chunks 32 n bs) count same ∙ chunks_of hashes are

pub all_more : (xs : List (List ℕ)) (i : ℕ) (d : List ℕ) → i < length xs → AllByRecursion Is32 (take i xs)
    → Is32 (get_or xs i d) → AllByRecursion Is32 (take (i + 1) xs)
all_more xs i d there all is =
    subst (AllByRecursion Is32) (sym (take_more xs i d there)) (All-push Is32 (take i xs) (get_or xs i d) all is)
