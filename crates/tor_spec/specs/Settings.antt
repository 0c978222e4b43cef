-- What a torrent is made with, beside its files.
use Rattle.std.specs.Prelude.{ℕ, Bool, false, not, List, Option, if◌then◌else◌}
use Rattle.tor_tree.specs.declared.kinds.Kind.{Kind}
use Rattle.tor_tree.specs.declared.kinds.Kind.TheVariants.{V1, V2, Hybrid}
use Rattle.tor_v1.specs.declared.layout.Layout.{Layout}
use Rattle.tor_v1.specs.declared.layout.Layout.TheVariants.{Joined, Aligned, AlignedTail}

-- what a torrent is made with: kind, single, name, piece length, tracker, private, tail. `single`: it is of one file,
-- which has the torrent's name, and `info` has its `length` instead of `files`. `tail`: if files are aligned, the last
-- with bytes has its padding too (profile)
pub record Settings : Type 0 where
  pub kind : Kind
  pub single : Bool
  pub name : List ℕ
  pub piece_length : ℕ
  pub announce : Option (List ℕ)
  pub is_private : Bool
  pub tail : Bool

-- the files of a hybrid are aligned to pieces in the list of BEP 3. One file by itself is so as it is (BEP 52, "Upgrade
-- Path")
abbrev pub is_aligned : Kind → Bool → Bool
is_aligned V1 single = false
is_aligned V2 single = false
is_aligned Hybrid single = not single

abbrev pub layout_of : Settings → Layout
layout_of settings =
    if is_aligned settings.kind settings.single then (if settings.tail then AlignedTail else Aligned) else Joined
