-- A list of files that a torrent with a head can be written of: in order, in pieces of a length that is allowed, with
-- paths of at most 64 names, one file if the head is single, and no name of padding if padding stands between files. No
-- list that a head does not refuse is another.
use Rattle.std.specs.Prelude.{◌≡◌, ◌≤◌, ℕ, true, false, All, List, length}
use Rattle.tor_merkle.specs.Layer.{IsPieceLength}
use Rattle.tor_meta.specs.Head.{settings_of}
use Rattle.tor_meta.specs.declared.head.Head.{Head}
use Rattle.tor_spec.specs.Settings.{layout_of}
use Rattle.tor_tree.specs.FileList.{IsFileList}
use Rattle.tor_tree.specs.declared.paths.TheConstants.{MAX_NAMES}
use Rattle.tor_v1.specs.Reserved.{takes_reserved}

-- a list of files that a torrent with a head can be written of (profile)
pub record IsJudged (head : Head) (files : List (List (List ℕ) × ℕ)) : Type 0 where
  pub is_list : IsFileList files
  pub piece_length : IsPieceLength head.piece_length
  pub short : All (λ file. length file.0 ≤ MAX_NAMES) files
  pub one : head.single ≡ true → length files ≡ 1
  pub free : takes_reserved (layout_of (settings_of head)) files ≡ false
