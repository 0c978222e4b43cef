-- Runs of a content, the zeros after the last of them, and the chunk that is held.
use Rattle.std.proofs.Common.{◌≡◌, ℕ, zero, suc, ◌+◌, ◌*◌, ◌<◌, ◌≤◌, List, [], ◌∷◌, ◌++◌, length, Option, None}
use Rattle.std.proofs.Common.{Some}
use Rattle.std.proofs.Common.{arith, refl, ap, ◌∙◌, sym}
use Rattle.std.specs.List.{range_with_len}
use Rattle.tor_lane.specs.declared.chunk.Chunk.{Chunk}
use Rattle.tor_v1.proofs.ProvedLaws.{one_piece, pieces-append}
use Rattle.tor_streams.specs.steps.Cuts.{Cut, bare_cuts, cuts_held, ending_in, runs_of}

-- one run more, whole or not
pub runs_more : (size k : ℕ) (whole run : List ℕ) → 0 < size → length whole ≡ k * size → 0 < length run
    → length run ≤ size → runs_of size (whole ++ run) ≡ runs_of size whole ++ run ∷ []
runs_more size k whole run some long more short =
    pieces-append size some k whole run long ∙ ap (λ runs. runs_of size whole ++ runs) (one_piece size run more short)

-- one number more
from_more : (a n : ℕ) → range_with_len a (suc n) ≡ range_with_len a n ++ (a + n) ∷ []
from_more a zero = ap (λ k. k ∷ []) (let e : a ≡ a + 0 = omega arith in e)
from_more a (suc n) =
    ap (λ ns. a ∷ ns) (from_more (a + 1) n
    ∙ ap (λ k. range_with_len (a + 1) n ++ k ∷ []) (let e : a + 1 + n ≡ a + suc n = omega arith in e))

pub range_more : (n : ℕ) → range_with_len 0 (n + 1) ≡ range_with_len 0 n ++ n ∷ []
range_more n =
    ap (range_with_len 0) (let e : n + 1 ≡ suc n = omega arith in e) ∙ from_more 0 n
    ∙ ap (λ k. range_with_len 0 n ++ k ∷ []) (let e : 0 + n ≡ n = omega arith in e)

-- ---- the zeros after the last

pub ending_last : (n : ℕ) (cuts : List Cut) (run : List ℕ) (m : ℕ)
    → ending_in n (cuts ++ (run, m) ∷ []) ≡ cuts ++ (run, n) ∷ []
ending_last n [] run m = refl
ending_last n (cut ∷ []) run m = refl
ending_last n (cut ∷ next ∷ cuts) run m = ap (λ xs. cut ∷ xs) (ending_last n (next ∷ cuts) run m)

-- of some that come after others
pub ending_after : (n : ℕ) (front : List Cut) (cut : Cut) (cuts : List Cut)
    → ending_in n (front ++ cut ∷ cuts) ≡ front ++ ending_in n (cut ∷ cuts)
ending_after n [] cut cuts = refl
ending_after n (first ∷ []) cut cuts = refl
ending_after n (first ∷ next ∷ front) cut cuts = ap (λ xs. first ∷ xs) (ending_after n (next ∷ front) cut cuts)

-- changed twice
pub ending_twice : (n m : ℕ) (cuts : List Cut) → ending_in n (ending_in m cuts) ≡ ending_in n cuts
ending_twice n m [] = refl
ending_twice n m (cut ∷ []) = refl
ending_twice n m (cut ∷ next ∷ []) = refl
ending_twice n m (cut ∷ next ∷ more ∷ cuts) = ap (λ xs. cut ∷ xs) (ending_twice n m (next ∷ more ∷ cuts))

-- ---- the chunk that is held

-- other zeros after it
pub held_ends : (front : List Cut) (held : Option Chunk) (n m : ℕ) → (held ≡ None → front ≡ [])
    → front ++ cuts_held held n ≡ ending_in n (front ++ cuts_held held m)
held_ends front (Some chunk) n m begun = sym (ending_last n front chunk.bytes.items m)
held_ends front None n m begun =
    let none = begun refl in rw none refl

-- what was cut and put ends with the runs of one content, which other zeros follow
pub held_closes : (front before : List Cut) (held : Option Chunk) (n m : ℕ) (run : List ℕ) (runs : List (List ℕ))
    → (held ≡ None → front ≡ []) → front ++ cuts_held held m ≡ before ++ bare_cuts (run ∷ runs)
    → front ++ cuts_held held n ≡ before ++ ending_in n (bare_cuts (run ∷ runs))
held_closes front before held n m run runs begun same =
    held_ends front held n m begun ∙ ap (ending_in n) same ∙ ending_after n before (run, 0) (bare_cuts runs)
