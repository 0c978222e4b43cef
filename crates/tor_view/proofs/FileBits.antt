-- Counting those pieces of a file that hold, one by one.
use Rattle.tor_view.proofs.Names.{◌≡◌, ℕ, ◌+◌, ◌-◌, ◌≤◌, Bool, false, true, cond, List, map, get_or, Option, Some}
use Rattle.tor_view.proofs.Names.{arith, ap, sym, ◌∙◌, inl, inr, length, cases_lt, get_or_past, slice_get_past}
use Rattle.tor_view.proofs.Names.{sum_by-map-range_with_len_more, option_eq, beq, range_with_len, slice_get}
use Rattle.tor_view.proofs.Names.{set_count}
use Rattle.tor_view.proofs.Counted.{test_tells}

-- how many of the pieces from `first` up to piece i hold
abbrev pub held_up_to : List Bool → ℕ → ℕ → ℕ
held_up_to held first i = set_count (map (λ k. get_or held k false) (range_with_len first (i - first)))

-- the test of a bit tells it, also past the end
pub bit_tested : (bits : List Bool) (i : ℕ) (value : Option Bool) (test : Bool) → value ≡ slice_get bits i
    → test ≡ option_eq beq value (Some true) → get_or bits i false ≡ test
bit_tested bits i value test read is = elim (cases_lt i (length bits)) [
  | inl lt ↦ test_tells bits i value test lt read is
  | inr past ↦
      get_or_past bits i false past
      ∙ sym (is ∙ ap (λ (o : Option Bool). option_eq beq o (Some true)) (read ∙ slice_get_past bits i past))
]

pub one_piece_more : (held : List Bool) (first i good more : ℕ) (test : Bool) → first ≤ i
    → good ≡ held_up_to held first i → get_or held i false ≡ test → more ≡ good + cond test 1 0
    → more ≡ held_up_to held first (i + 1)
one_piece_more held first i good more test le so_far here is =
    let each = λ (k : ℕ). get_or held k false in
    let next : i + 1 - first ≡ i - first + 1 = omega (arith, le) in
    is
    ∙ ap (λ n. n + cond test 1 0) so_far
    ∙ ap (λ (bit : Bool). held_up_to held first i + cond bit 1 0) (sym here)
    ∙ sym (ap (λ n. set_count (map each (range_with_len first n))) next
    ∙ sum_by-map-range_with_len_more (λ (bit : Bool). cond bit 1 0) each first (i - first) i (omega (arith, le)))
