-- Where a recheck looks for the files of a torrent. Only private clauses cite this.
use Rattle.std.specs.Prelude.{◌≡◌, ℕ, Bool, List, [], ◌∷◌, length, map}
use Rattle.tor_view.specs.FileBytes.{has_piece_between, pieced_files}
use Rattle.tor_source.specs.Places.{place_of}
use Rattle.tor_spec.specs.valid.View.{FileView, View}
use Rattle.tor_cli.specs.recheck.LotRecheck.{first_after, first_piece}
use Rattle.tor_cli.specs.recheck.Whereabouts.{looked_for}
use Rattle.tor_cli.specs.declared.lots.lot_number.LotNumber.{LotNumber}
use Rattle.tor_cli.specs.declared.recheck.whereabouts.Standing.{Standing}
use Rattle.tor_cli.specs.declared.recheck.whereabouts.Whereabouts.{Whereabouts}
use Rattle.tor_cli.specs.declared.recheck.whereabouts.Whereabouts.TheVariants.{Itself, Below, Nowhere}

-- the one file at the place itself, or each below the place
abbrev pub ArePlaces : Whereabouts → List ℕ → List FileView → List (List ℕ) → Type 0
ArePlaces Itself place files places = places ≡ place ∷ []
ArePlaces Below place files places = places ≡ map (place_of place) (map (λ told. told.file.path) files)
ArePlaces (Nowhere fault) place files places = ⊥

-- the same of the files of a torrent, where something is told of the place
abbrev pub ArePlaced : List ℕ → View → List (List ℕ) → Type 0
ArePlaced place view places =
    (standing : Standing) × ArePlaces (looked_for standing (length view.files)) place view.files places

-- of each file of a torrent, whether a piece of the lot has bytes of it
abbrev pub wanted_of_lot : LotNumber → View → List Bool
wanted_of_lot lot view = map (has_piece_between (first_piece lot view) (first_after lot view)) (pieced_files view)
