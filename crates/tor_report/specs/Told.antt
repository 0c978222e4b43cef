-- A torrent with what is told of it.
use Rattle.std.specs.Prelude.{◌≡◌, ℕ, List}
use Rattle.tor_bencode.specs.Data.{Data}
use Rattle.tor_bencode.specs.Spelling.{spelling}
use Rattle.tor_spec.specs.Hashes.{AreInfoHashes}
use Rattle.tor_spec.specs.declared.hashes.Hashes.{Hashes}
use Rattle.tor_spec.specs.valid.Conditions.{IsTorrentOf}
use Rattle.tor_spec.specs.valid.Parts.{info_of, kind_of}
use Rattle.tor_spec.specs.valid.View.{View, view_of}

-- the bytes are the torrent that this tree is, which has these info hashes (profile)
pub record IsTorrentWith (bytes : List ℕ) (root : Data) (hashes : Hashes) : Type 0 where
  pub torrent : IsTorrentOf root bytes
  pub hashed : AreInfoHashes (kind_of (info_of root)) (spelling (info_of root)) hashes

-- the bytes are a torrent, which describes this, and has these info hashes (profile)
abbrev pub Describes : List ℕ → View → Hashes → Type 0
Describes bytes view hashes = (root : Data) × (view ≡ view_of root) × IsTorrentWith bytes root hashes
