-- What is known of the files that a torrent is made of.
use Rattle.std.specs.Prelude.{◌≡◌, ◌≤◌, ◌<◌, ◌^◌, true, All, List, length}
use Rattle.std.specs.List.{AllZip}
use Rattle.tor_merkle.specs.Layer.{IsPieceLength}
use Rattle.tor_spec.specs.Facts.{Facts, listed, roots_in}
use Rattle.tor_spec.specs.InfoDictionary.{total_size}
use Rattle.tor_spec.specs.Settings.{Settings}
use Rattle.tor_tree.specs.Kinds.{has_v2}
use Rattle.tor_tree.specs.FileList.{IsInPathOrder}
use Rattle.tor_tree.specs.Path.{HasNames}
use Rattle.tor_tree.specs.TidyTree.{HasItsRoot}

-- files in the order of their paths, each path of at most 64 names, none of which is empty; a file has a root just
-- where it is not empty
pub record AreMakeable (settings : Settings) (facts : List Facts) : Type 0 where
  pub piece_length : IsPieceLength settings.piece_length
  pub in_order : IsInPathOrder (listed facts)
  pub named : All (λ file. HasNames file.0) (listed facts)
  pub short : All (λ file. length file.0 ≤ 64) (listed facts)
  pub rooted : has_v2 settings.kind ≡ true → AllZip HasItsRoot (listed facts) (roots_in facts)
  pub small : total_size facts < 2 ^ 63
