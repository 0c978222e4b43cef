-- The bytes of one file more, at most 2^64 - 1.
use Rattle.std.proofs.Common.{◌≡◌, ◌+◌, ◌-◌, ◌^◌, ◌∙◌, ◌++◌, ◌∷◌, [], ℕ, List, ap, ap₂, arith, map, min, refl, sym}
use Rattle.std.specs.List.{range_with_len, sum}
use Rattle.std.proofs.lemmas.List.FromFn.{map-range_with_len_more}
use Rattle.std.proofs.lemmas.List.Sums.{fold-append}
use Rattle.tor_source.specs.Source.{SourceFacts, told_length}
use Rattle.tor_cli.specs.make.FileSizes.{size_of_files, told_bytes, total_of}

sum_more : (lengths : List ℕ) (length : ℕ) → sum (lengths ++ length ∷ []) ≡ sum lengths + length
sum_more lengths length = fold-append (λ (a x : ℕ). a + x) 0 lengths (length ∷ [])

least : (s y : ℕ) → min (min s (2 ^ 64 - 1) + y) (2 ^ 64 - 1) ≡ min (s + y) (2 ^ 64 - 1)
least s y = grind arith

pub one_length_more : (lengths : List ℕ) (length : ℕ)
    → min (total_of lengths + length) (2 ^ 64 - 1) ≡ total_of (lengths ++ length ∷ [])
one_length_more lengths length =
    least (sum lengths) length ∙ ap (λ (n : ℕ). min n (2 ^ 64 - 1)) (sym (sum_more lengths length))

-- the bytes of one file more
pub one_file_more : {F : Type 0} (facts : SourceFacts F) (count size bytes result : ℕ)
    → result ≡ min (size + bytes) (2 ^ 64 - 1) → size ≡ size_of_files facts count
    → bytes ≡ told_bytes (told_length facts count) → result ≡ size_of_files facts (count + 1)
one_file_more facts count size bytes result is so_far told =
    let each = λ (file : ℕ). told_bytes (told_length facts file) in
    is ∙ ap₂ (λ s b. min (s + b) (2 ^ 64 - 1)) so_far told
    ∙ one_length_more (map each (range_with_len 0 count)) (each count)
    ∙ ap total_of (sym (map-range_with_len_more each 0 count count (omega arith)))
