-- The lines that tell of a torrent.
use Rattle.std.specs.Prelude.{ℕ, List, [], ◌∷◌, ◌++◌, length, flat_map, decimal, codes, Option, None, Some, if◌then◌else◌}
use Rattle.std.specs.List.{join_by}
use Rattle.hex.specs.Hex.{encode_lower}
use Rattle.tor_bencode.specs.Data.{Data}
use Rattle.tor_bencode.specs.Find.{value_of}
use Rattle.tor_spec.specs.Hashes.{magnet_link}
use Rattle.tor_spec.specs.LinkWords.{link_word}
use Rattle.tor_spec.specs.declared.hashes.Hashes.{Hashes}
use Rattle.tor_spec.specs.valid.Parts.{info_of, name_of}
use Rattle.tor_spec.specs.valid.View.{View}
use Rattle.tor_tree.specs.Properties.{as_string}
use Rattle.tor_tree.specs.declared.tree_file.TreeFile.{TreeFile}
use Rattle.tor_report.specs.Escape.{escaped}
use Rattle.tor_cli.specs.Words.{word_of}
use Rattle.tor_cli.specs.declared.check.link.LinkWords.{LinkWords}

-- the tracker that a torrent names: the bytes of `announce`, if it is a byte string (BEP 3, "metainfo files")
abbrev pub tracker_of : Data → Option (List ℕ)
tracker_of root = as_string (value_of (codes "announce") root)

-- the line of `tor magnet`, with the name and the tracker if they are asked for (BEP 9, "magnet URI format"; profile)
abbrev pub magnet_line : LinkWords → Data → Hashes → List ℕ
magnet_line words root hashes =
    magnet_link hashes
    ++ (link_word (codes "&dn=") (if words.name then Some (name_of (info_of root)) else None)
    ++ (link_word (codes "&tr=") (if words.tracker then tracker_of root else None) ++ codes "\n"))
