-- What is asked of a torrent that was just made, before it goes out: that its files have each piece of it. No contract
-- says which bytes a file of the system has, so a clause speaks of some bits, those that were answered of the pieces,
-- one for each.
use Rattle.std.specs.Prelude.{◌≡◌, ◌≢◌, ℕ, Bool, List, length}
use Rattle.tor_check.specs.Valid.{IsTold}
use Rattle.tor_view.specs.Bitfield.{set_count}
use Rattle.tor_spec.specs.valid.View.{View}
use Rattle.tor_cli.specs.recheck.Recheck.{IsNotRechecked}
use Rattle.tor_cli.specs.declared.fault.Fault.{Fault}
use Rattle.tor_cli.specs.declared.fault.Fault.TheVariants.{NotAsMade}
use Rattle.tor_cli.specs.declared.recheck.counts.PieceCounts.{PieceCounts}

-- how many bits are set, of how many
abbrev pub counts_of : List Bool → PieceCounts
counts_of bits = record { good = set_count bits; pieces = length bits }

-- how many bits are set, of how many, one for each piece. So many of the torrent's pieces are there and right (profile)
abbrev pub AreCounted : View → PieceCounts → Type 0
AreCounted view counts = (bits : List Bool) × (length bits ≡ view.piece_count) × (counts ≡ counts_of bits)

-- the bytes are a torrent, and so many of its pieces are there and right
abbrev pub AreCountedOf : List ℕ → PieceCounts → Type 0
AreCountedOf bytes counts = (view : View) × IsTold bytes view × AreCounted view counts

-- all are, of the torrent that the bytes are (profile)
abbrev pub IsAsMade : List ℕ → Type 0
IsAsMade bytes = (counts : PieceCounts) × AreCountedOf bytes counts × (counts.good ≡ counts.pieces)

-- why that is not told, by so many workers. Not all are, or it was not answered (profile)
abbrev pub IsNotAsMade : ℕ → List ℕ → Fault → Type 0
IsNotAsMade workers bytes (NotAsMade good pieces) =
    AreCountedOf bytes (record { good = good; pieces = pieces }) × (good ≢ pieces)
IsNotAsMade workers bytes other = IsNotRechecked workers bytes other
