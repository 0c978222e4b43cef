-- Which bytes of a torrent's files are in pieces that do not hold.
use Rattle.std.specs.Prelude.{◌≡◌, Bool, List, [], ◌∷◌, map}
use Rattle.tor_view.specs.FileBytes.{AreBadRanges, PiecedFile, pieced_files}
use Rattle.tor_view.specs.declared.files.FileFound.{FileFound}
use Rattle.tor_spec.specs.valid.View.{View}
use Rattle.tor_cli.specs.declared.recheck.bytes_found.BytesFound.{BytesFound}

-- each is told with its own bytes in pieces whose bits are not set
abbrev pub HaveBadRanges : List PiecedFile → List Bool → List BytesFound → Type 0
HaveBadRanges [] bits told = Unit {0}
HaveBadRanges (file ∷ files) bits [] = Unit {0}
HaveBadRanges (file ∷ files) bits (one ∷ told) = AreBadRanges file bits one.bad.items × HaveBadRanges files bits told

-- of each file what was found of it, and its bytes in pieces whose bits are not set (profile)
pub record AreBytesFound (view : View) (bits : List Bool) (found : List FileFound) (told : List BytesFound)
    : Type 0 where
  pub files : map (λ one. one.found) told ≡ found
  pub bad : HaveBadRanges (pieced_files view) bits told
