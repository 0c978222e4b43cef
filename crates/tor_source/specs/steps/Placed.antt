-- Where the system has files of which names are held. Only private clauses cite this.
use Rattle.std.specs.Prelude.{ℕ, List, map, replicate}
use Rattle.tor_source.specs.Places.{place_below}
use Rattle.tor_source.specs.declared.folder.place.PlaceText.{PlaceText}
use Rattle.tor_source.specs.declared.folder.place.PlaceText.TheVariants.{Long, Short}
use Rattle.tor_source.specs.declared.folder.places.Files.{Files}
use Rattle.tor_source.specs.declared.folder.places.Files.TheVariants.{Below, Here}

-- the place of each file, from a folder's on; or all at the folder's own
abbrev pub placed : List ℕ → Files → List (List ℕ)
placed folder (Below files) = map (place_below folder) files.items
placed folder (Here count) = replicate count folder

-- the bytes of one place
abbrev pub place_bytes : PlaceText → List ℕ
place_bytes (Short text) = text.bytes
place_bytes (Long text) = text.bytes
