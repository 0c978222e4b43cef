-- How many positions there are.
use Rattle.std.proofs.Common.{◌≡◌, ℕ, ◌+◌, List, [], ◌∷◌, length, sum, refl, ap₂, ◌∙◌, sym}
use Rattle.std.proofs.lemmas.List.{length-append}
use Rattle.std.proofs.lemmas.List.FromFn.{length-map-range_with_len}
use Rattle.std.proofs.lemmas.List.Sums.{sum_by-cons}
use Rattle.tor_plan.specs.Positions.{positions, positions_of_files}

pub length_positions : (file start count : ℕ) → length (positions file start count) ≡ count
length_positions file start count = length-map-range_with_len {X = ℕ × ℕ} (λ offset. (file, offset)) start count

pub length_of_positions : (file : ℕ) (lengths : List ℕ) → length (positions_of_files file lengths) ≡ sum lengths
unfolding positions_of_files
length_of_positions file [] = refl
length_of_positions file (m ∷ lengths) =
    length-append (positions file 0 m) (positions_of_files (file + 1) lengths)
    ∙ ap₂ (λ a b. a + b) (length_positions file 0 m) (length_of_positions (file + 1) lengths)
    ∙ sym (sum_by-cons (λ n. n) m lengths)
