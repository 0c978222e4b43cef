-- One more file of the v1 side: the last that is filled, and the padding after it.
use Rattle.tor_check.proofs.Names.{◌≡◌, ℕ, ◌+◌, ◌<◌, true, false, List, [], ◌∷◌, length, take, reverse, slice_index_or}
use Rattle.tor_check.proofs.Names.{refl, map-append, reverse-append, take_more, file_of_listed, files_from}
use Rattle.tor_check.proofs.Names.{size_of_listed, Listed, is_filled, last_size, tail_size}

-- the files so far and one more, from the last on
turned : (files : List Listed) (i : ℕ) (d : Listed) → i < length files
    → reverse (files_from (take (i + 1) files))
    ≡ file_of_listed (slice_index_or files i d) ∷ reverse (files_from (take i files))
turned files i d within =
    rw (
      take_more files i d within,
      map-append file_of_listed (take i files) (slice_index_or files i d ∷ []),
      reverse-append (files_from (take i files)) (file_of_listed (slice_index_or files i d) ∷ []),
    ) refl

pub at_filled : (files : List Listed) (i : ℕ) (d : Listed) → i < length files
    → is_filled (file_of_listed (slice_index_or files i d)) ≡ true
    → (last_size (files_from (take (i + 1) files)) ≡ size_of_listed (slice_index_or files i d))
    × (tail_size (files_from (take (i + 1) files)) ≡ 0)
at_filled files i d within filled =
    let more = turned files i d within in
    (rw (more, filled) refl, rw (more, filled) refl)

pub at_other : (files : List Listed) (i : ℕ) (d : Listed) → i < length files
    → is_filled (file_of_listed (slice_index_or files i d)) ≡ false
    → (last_size (files_from (take (i + 1) files)) ≡ last_size (files_from (take i files)))
    × (tail_size (files_from (take (i + 1) files))
    ≡ tail_size (files_from (take i files)) + size_of_listed (slice_index_or files i d))
at_other files i d within other =
    let more = turned files i d within in
    (rw (more, other) refl, rw (more, other) refl)
