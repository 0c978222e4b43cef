-- The lengths of what is told of files.
use Rattle.tor_recheck.proofs.Names.{◌≡◌, ◌∙◌, ◌<◌, ℕ, Bool, List, None, Option, ap, arith, length, map, sym}
use Rattle.tor_recheck.proofs.Names.{FileFound, View, file_spans, files_found, found_at, get_or-map-range_with_len}
use Rattle.tor_recheck.proofs.Names.{length-map, length-map-range_with_len, range_with_len}
use Rattle.std.proofs.lemmas.List as lists

-- what is told of the files has these lengths
pub lengths_kept : (view : View) (lengths : List (Option ℕ)) (held : List Bool)
    → length lengths ≡ length (file_spans view) → map (λ file. file.there) (files_found view lengths held) ≡ lengths
lengths_kept view lengths held same =
    let found = found_at (file_spans view) lengths held in
    let n = length (file_spans view) in
    let files = map found (range_with_len 0 n) in
    let there = λ (file : FileFound). file.there in
    let count : length (map there files) ≡ n = length-map files there ∙ length-map-range_with_len found 0 n in
    lists.ext_get_or None (map there files) lengths (count ∙ sym same)
    (λ i lt.
    let below : i < n = omega (arith, lt, count) in
    lists.get_or-map there files i (found 0) None (omega (arith, below, length-map-range_with_len found 0 n))
    ∙ ap there (get_or-map-range_with_len found 0 n i i (found 0) below (omega arith)))
