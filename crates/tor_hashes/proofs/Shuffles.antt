-- What shuffles pick of two vectors, and eight vectors transposed by them.
use Rattle.std.proofs.Common.{◌≡◌, ℕ, ◌-◌, ◌<◌, List, [], ◌∷◌, ◌++◌, length, get_or, slice_index, nat_lt, true, false}
use Rattle.std.proofs.Common.{refl, ap₂, arith, inl, inr}
use Rattle.std.specs.Prelude.{if◌then◌else◌, slice_index_or}
use Rattle.std.specs.Simd.Lanes.{pick_l}
use Rattle.std.proofs.lemmas.Bool.{cases_lt, le-leb, lt-leb}
use Rattle.std.proofs.lemmas.List.{get_or_append_left, get_or-append_right}
use Rattle.tor_hashes.specs.steps.Lanes.{word_of}
use Rattle.tor_hashes.specs.steps.Shuffles.{of_both, halves_of, pairs_of, singles_of}
use Rattle.tor_hashes.proofs.Lanes.{below_eight}

picked : (x y : List ℕ) (p : ℕ) → length x ≡ 8
    → get_or (x ++ y) p 0 ≡ (if nat_lt p 8 then slice_index x p else slice_index y (p - 8))
picked x y p long = elim (cases_lt p 8) [
  | inl low ↦
      let yes : nat_lt p 8 ≡ true = le-leb _ _ low in
      rw yes (get_or_append_left x y 0 p (omega (arith, long, low)))
  | inr high ↦
      let no : nat_lt p 8 ≡ false = lt-leb _ _ (omega (arith, high)) in
      rw no (get_or-append_right x y 8 p 0 long high)
]

-- a shuffle of two vectors of eight words
pub shuffled : (x y indices : List ℕ) → length x ≡ 8 → pick_l 0 (x ++ y) indices ≡ of_both x y indices
shuffled x y [] long = refl
shuffled x y (p ∷ indices) long = ap₂ (λ (w : ℕ) (l : List ℕ). w ∷ l) (picked x y p long) (shuffled x y indices long)

-- eight vectors after three exchanges
abbrev exchange : List (List ℕ) → List (List ℕ)
exchange v =
    let ae = halves_of (slice_index_or v 0 []) (slice_index_or v 4 []) in
    let bf = halves_of (slice_index_or v 1 []) (slice_index_or v 5 []) in
    let cg = halves_of (slice_index_or v 2 []) (slice_index_or v 6 []) in
    let dh = halves_of (slice_index_or v 3 []) (slice_index_or v 7 []) in
    let ac = pairs_of ae.0 cg.0 in
    let bd = pairs_of bf.0 dh.0 in
    let eg = pairs_of ae.1 cg.1 in
    let fh = pairs_of bf.1 dh.1 in
    let ab = singles_of ac.0 bd.0 in
    let cd = singles_of ac.1 bd.1 in
    let ef = singles_of eg.0 fh.0 in
    let gh = singles_of eg.1 fh.1 in
    ab.0 ∷ ab.1 ∷ cd.0 ∷ cd.1 ∷ ef.0 ∷ ef.1 ∷ gh.0 ∷ gh.1 ∷ []

exchange_indices : (v : List (List ℕ)) (j k : ℕ) → j < 8 → k < 8 → word_of j (exchange v) k ≡ word_of k v j
exchange_indices v j k lane index =
    below_eight (λ j. (k : ℕ) → k < 8 → word_of j (exchange v) k ≡ word_of k v j)
    (below_eight _ refl refl refl refl refl refl refl refl)
    (below_eight _ refl refl refl refl refl refl refl refl)
    (below_eight _ refl refl refl refl refl refl refl refl)
    (below_eight _ refl refl refl refl refl refl refl refl)
    (below_eight _ refl refl refl refl refl refl refl refl)
    (below_eight _ refl refl refl refl refl refl refl refl)
    (below_eight _ refl refl refl refl refl refl refl refl)
    (below_eight _ refl refl refl refl refl refl refl refl)
    j lane k index

-- after the exchanges, one after another, each word is at the index of its lane, and in the lane of its index
pub exchanged : (v : List (List ℕ)) {ae bf cg dh ac bd eg fh ab cd ef gh : List ℕ × List ℕ}
    → ae ≡ halves_of (slice_index_or v 0 []) (slice_index_or v 4 [])
    → bf ≡ halves_of (slice_index_or v 1 []) (slice_index_or v 5 [])
    → cg ≡ halves_of (slice_index_or v 2 []) (slice_index_or v 6 [])
    → dh ≡ halves_of (slice_index_or v 3 []) (slice_index_or v 7 [])
    → ac ≡ pairs_of ae.0 cg.0 → bd ≡ pairs_of bf.0 dh.0 → eg ≡ pairs_of ae.1 cg.1 → fh ≡ pairs_of bf.1 dh.1
    → ab ≡ singles_of ac.0 bd.0 → cd ≡ singles_of ac.1 bd.1 → ef ≡ singles_of eg.0 fh.0 → gh ≡ singles_of eg.1 fh.1
    → (j k : ℕ) → j < 8 → k < 8
    → word_of j (ab.0 ∷ ab.1 ∷ cd.0 ∷ cd.1 ∷ ef.0 ∷ ef.1 ∷ gh.0 ∷ gh.1 ∷ []) k ≡ word_of k v j
exchanged v e1 e2 e3 e4 e5 e6 e7 e8 e9 e10 e11 e12 j k lane index =
    rw (e9, e10, e11, e12)
    (rw (e5, e6, e7, e8)
    (rw (e1, e2, e3, e4)
    (exchange_indices v j k lane index)))
