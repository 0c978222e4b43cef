-- Lists by indices, the lengths of files from one on, and the units of a file.
use Rattle.tor_plan.proofs.Names.{◌≡◌, ℕ, ◌+◌, ◌-◌, ◌*◌, ◌<◌, cond, leb, min, List, ◌∷◌, length, map, get_or, drop}
use Rattle.tor_plan.proofs.Names.{arith, refl, ap, ◌∙◌, sym, subst, zero-add, length-drop, lt-leb}
use Rattle.tor_plan.proofs.Names.{cond-false, get_or-drop, drop-drop, length-map-range_with_len}
use Rattle.tor_plan.proofs.Names.{get_or-map-range_with_len, All, range_with_len, file_unit, IsFileUnit}

-- ---- lists by indices

pub all_range : {X : Type 0} (P : X → Type 0) (f : ℕ → X) (n : ℕ) → ((k : ℕ) → k < n → P (f k))
    → All P (map f (range_with_len 0 n))
all_range P f n each = λ k d lt.
    let within : k < n = omega (arith, lt, length-map-range_with_len f 0 n) in
    subst P (sym (get_or-map-range_with_len f 0 n k k d within (zero-add k))) (each k within)

-- the lengths of all files, from a file on
pub record AreLengthsFrom (lengths : List ℕ) (index m : ℕ) (later : List ℕ) : Type 0 where
  pub named : index < length lengths
  pub here : get_or lengths index 0 ≡ m
  pub after : drop (index + 1) lengths ≡ later

pub lengths_from : (lengths : List ℕ) (index m : ℕ) (later : List ℕ) → drop index lengths ≡ m ∷ later
    → AreLengthsFrom lengths index m later
lengths_from lengths index m later e = record {
  named = omega (arith, length-drop index lengths, ap length e);
  here = ap (λ n. get_or lengths n 0) (omega arith)
      ∙ sym (get_or-drop index lengths 0 0) ∙ ap (λ xs. get_or xs 0 0) e;
  after = sym (drop-drop 1 index lengths) ∙ ap (drop 1) e;
}

-- ---- files cut each by itself

module _ (lengths : List ℕ) (size : ℕ) where
  pub whole_of_file : (index m zeros k : ℕ) (later : List ℕ) → AreLengthsFrom lengths index m later → k * size < m
      → IsFileUnit lengths size (file_unit size index m zeros k)
  whole_of_file index m zeros k later from begins = record {
    part = record {
      file = index;
      start = k * size;
      length = min (m - k * size) size;
      zeros = cond (leb (m - k * size) size) zeros 0;
    };
    alone = refl;
    whole = λ less.
        let more : size < m - k * size = omega (arith, less, from.here) in
        (omega (arith, more), cond-false _ _ _ (lt-leb (m - k * size) size more));
  }
