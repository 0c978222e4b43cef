-- Entries, one after another, and the padding after a file.
use Rattle.tor_plan.proofs.Names.{◌≡◌, ℕ, ◌+◌, ◌-◌, ◌<◌, ◌≤◌, Bool, true, false, max, List, ◌∷◌, lt-ltb, le-ltb}
use Rattle.tor_plan.proofs.Names.{cond-true, cond-false, Entry, after_part, shared, unit_within, ◌⊎◌, ◌*◌, [], arith}
use Rattle.tor_plan.proofs.Names.{refl, ◌∙◌, inl, inr, mul-le-mul_right, lt_of_mul-lt-mul_right, cases_lt, true≢false}
use Rattle.tor_plan.proofs.Names.{padding_length, padding_before_next, has_padding, whole_with_padding}

-- what an entry has beside its length: its path, and whether it has an x or an h
abbrev pub Label : Type 0
Label = List (List ℕ) × Bool × Bool

-- the label of a file without letters
abbrev pub plain : List (List ℕ) → Label
plain path = (path, false, false)

abbrev pub padding : Label → ℕ → Entry
padding label m = record { path = label.0; length = m; pad = true; exec = label.1; hidden = label.2 }

abbrev pub file : Label → ℕ → Entry
file label m = record { path = label.0; length = m; pad = false; exec = label.1; hidden = label.2 }

-- an entry is padding or a file
pub entry_cases : (Q : Entry → Type 0) → ((label : Label) (m : ℕ) → Q (padding label m))
    → ((label : Label) (m : ℕ) → Q (file label m)) → (entry : Entry) → Q entry
entry_cases Q of_padding of_file entry = by_pad entry.pad where
  label : Label
  label = (entry.path, entry.exec, entry.hidden)

  by_pad : (pad : Bool) → Q (record {
    path = entry.path;
    length = entry.length;
    pad = pad;
    exec = entry.exec;
    hidden = entry.hidden;
  })
  by_pad true = of_padding label entry.length
  by_pad false = of_file label entry.length

-- a file that a range meets, and one that it does not
module _ (a b index at : ℕ) (label : Label) (m : ℕ) (entries : List Entry) where
  pub met : 0 < shared a b at m → unit_within a b index at (file label m ∷ entries)
      ≡ after_part index (max a at - at) (shared a b at m) (unit_within a b (index + 1) (at + m) entries)
  unfolding unit_within
  met some = cond-true _ _ _ (lt-ltb 0 (shared a b at m) some)

  pub not_met : shared a b at m ≤ 0 → unit_within a b index at (file label m ∷ entries)
      ≡ unit_within a b (index + 1) (at + m) entries
  unfolding unit_within
  not_met none = cond-false _ _ _ (le-ltb 0 (shared a b at m) none)

-- the padding before a file with bytes, and before an empty one
pub before_some : (label : Label) (m : ℕ) (entries : List Entry) → 0 < m
    → padding_before_next (file label m ∷ entries) ≡ 0
unfolding padding_before_next
before_some label m entries some = cond-true _ _ _ (lt-ltb 0 m some)

pub before_empty : (label : Label) (m : ℕ) (entries : List Entry) → m ≡ 0
    → padding_before_next (file label m ∷ entries) ≡ padding_before_next entries
unfolding padding_before_next
before_empty label m entries none = cond-false _ _ _ (le-ltb 0 m (omega (arith, none)))

pub unpadded : (entries : List Entry) → has_padding entries ≡ false → padding_before_next entries ≡ 0
unfolding padding_before_next
unpadded [] none = refl
unpadded (entry ∷ entries) none = entry_cases
    (λ e. has_padding (e ∷ entries) ≡ false → padding_before_next (e ∷ entries) ≡ 0)
    (λ label m others. absurd (true≢false others)) (λ label m others. elim (cases_lt 0 m) [
      | inl more ↦ before_some label m entries more
      | inr few ↦ before_empty label m entries (omega (arith, few)) ∙ unpadded entries others
    ]) entry none

-- none, or what m bytes lack to a whole piece
abbrev pub Fills : ℕ → ℕ → ℕ → Type 0
Fills p m tail = (tail ≡ 0) ⊎ (tail ≡ padding_length p m)

-- bytes that have room in whole pieces have it with their padding
pub tail_fits : (p span m tail : ℕ) → 0 < p → Fills p m tail → (q : ℕ) → m ≤ q * (span * p)
    → m + tail ≤ q * (span * p)
tail_fits p span m tail some (inl none) q le = omega (arith, none, le)
tail_fits p span m tail some (inr full) q le =
    let count = whole_with_padding p m some in
    let room : q * span * p ≡ q * (span * p) = omega arith in
    let few : count.0 < q * span + 1 = lt_of_mul-lt-mul_right p (omega (arith, count.1, room, le, some)) in
    omega (arith, full, count.1, room, mul-le-mul_right {m = count.0} {n = q * span} p (omega (arith, few)))
