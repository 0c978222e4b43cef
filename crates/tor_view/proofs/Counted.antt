-- Counting the bits that are set, one by one.
use Rattle.tor_view.proofs.Names.{◌≡◌, ℕ, ◌+◌, ◌<◌, List, Bool, true, false, length, get_or, take, ap, sym, ◌∙◌}
use Rattle.tor_view.proofs.Names.{count_by_more_yes, count_by_more_no, slice_get-get_or, option_eq, Option, Some}
use Rattle.tor_view.proofs.Names.{slice_get, set_count, beq}

tested : (b t : Bool) → t ≡ option_eq beq (Some b) (Some true) → b ≡ t
tested true t is = sym is
tested false t is = sym is

-- the test of a bit that is there tells it
pub test_tells : (bits : List Bool) (i : ℕ) (value : Option Bool) (test : Bool) → i < length bits
    → value ≡ slice_get bits i → test ≡ option_eq beq value (Some true) → get_or bits i false ≡ test
test_tells bits i value test lt read is =
    tested (get_or bits i false) test
    (is ∙ ap (λ (o : Option Bool). option_eq beq o (Some true)) (read ∙ slice_get-get_or bits i false lt))

pub one_more : (bits : List Bool) (i set more : ℕ) → i < length bits → set ≡ set_count (take i bits)
    → get_or bits i false ≡ true → more ≡ set + 1 → more ≡ set_count (take (i + 1) bits)
one_more bits i set more lt so_far here is =
    is ∙ ap (λ (n : ℕ). n + 1) so_far ∙ sym (count_by_more_yes (λ bit. bit) bits i false lt here)

pub none_more : (bits : List Bool) (i set more : ℕ) → i < length bits → set ≡ set_count (take i bits)
    → get_or bits i false ≡ false → more ≡ set → more ≡ set_count (take (i + 1) bits)
none_more bits i set more lt so_far here is =
    is ∙ so_far ∙ sym (count_by_more_no (λ bit. bit) bits i false lt here)
