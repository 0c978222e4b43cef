-- The bytes of a torrent's files in contents that may lack some. A byte that is not there is `None`.
use Rattle.std.specs.Prelude.{ℕ, ◌-◌, Bool, List, [], ◌∷◌, ◌++◌, length, map, drop, take, replicate, slice_index_or}
use Rattle.std.specs.Prelude.{Option, None, Some, is_some, unwrap_or, if◌then◌else◌}
use Rattle.std.specs.List.{list_all}
use Rattle.tor_v1.specs.Piece.{zeros}
use Rattle.tor_v1.specs.declared.entry.Entry.{Entry}

-- the bytes of a file of this size: of a longer content the first, of a shorter one all, and none up to the size
abbrev pub file_bytes : ℕ → List ℕ → List (Option ℕ)
file_bytes size content = map Some (take size content) ++ replicate (size - length content) None

-- the bytes of joined entries: those of files from the contents in their order, and zeros of padding, which are always
-- there, as "padding files" of BEP 47 says
abbrev pub joined_bytes : List Entry → List (List ℕ) → List (Option ℕ)
joined_bytes [] contents = []
joined_bytes (entry ∷ entries) contents =
    if entry.pad then map Some (zeros entry.length) ++ joined_bytes entries contents
    else file_bytes entry.length (slice_index_or contents 0 []) ++ joined_bytes entries (drop 1 contents)

-- every byte is there
abbrev pub is_whole : List (Option ℕ) → Bool
is_whole bytes = list_all is_some bytes

-- the bytes themselves, where every one is there
abbrev pub bytes_in : List (Option ℕ) → List ℕ
bytes_in bytes = map (λ byte. unwrap_or byte 0) bytes
