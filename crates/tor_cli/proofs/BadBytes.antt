-- One file more, with its bytes that do not hold.
use Rattle.std.proofs.Common.{◌≡◌, ◌≤◌, ◌∙◌, ap, Bool, List, ℕ, [], ◌∷◌, ◌++◌, length, map, sym, take}
use Rattle.std.proofs.lemmas.List.{length-map, length-take-le}
use Rattle.std.specs.Prelude.{IfSome, slice_get}
use Rattle.tor_view.specs.FileBytes.{AreBadRanges, PiecedFile}
use Rattle.tor_view.specs.declared.files.FileFound.{FileFound}
use Rattle.tor_cli.specs.declared.recheck.bytes_found.BytesFound.{BytesFound}
use Rattle.tor_cli.specs.recheck.BadBytes.{HaveBadRanges}

pub none_told : (files : List PiecedFile) (bits : List Bool) → HaveBadRanges files bits []
none_told [] bits = tt
none_told (file ∷ files) bits = tt

pub one_more_told : (files : List PiecedFile) (bits : List Bool) (told : List BytesFound) (one : BytesFound)
    → HaveBadRanges files bits told
    → IfSome (slice_get files (length told)) (λ file. AreBadRanges file bits one.bad.items)
    → HaveBadRanges files bits (told ++ one ∷ [])
one_more_told [] bits told one have last = tt
one_more_told (file ∷ files) bits [] one have last = (last, none_told files bits)
one_more_told (file ∷ files) bits (first ∷ told) one have last =
    (have.0, one_more_told files bits told one have.1 last)

-- as many are told as were found so far
pub found_count : (told : List BytesFound) (files : List FileFound) (i : ℕ) → i ≤ length files
    → map (λ one. one.found) told ≡ take i files → length told ≡ i
found_count told files i within same =
    sym (length-map told (λ (one : BytesFound). one.found)) ∙ ap length same ∙ length-take-le i files within
