-- What the program can tell of a torrent.
use Rattle.std.specs.Prelude.{ℕ, List}
use Rattle.tor_bencode.specs.Data.{Data}
use Rattle.tor_spec.specs.declared.hashes.Hashes.{Hashes}
use Rattle.tor_spec.specs.valid.View.{view_of}
use Rattle.tor_report.specs.Records.{check_line}
use Rattle.tor_report.specs.Shown.{check_lines, ended_paths, rooted_lines}
use Rattle.tor_cli.specs.check.Shown.{magnet_line}
use Rattle.tor_cli.specs.declared.check.telling.Telling.{Telling}
use Rattle.tor_cli.specs.declared.check.telling.Telling.TheVariants.{Lines, Link, Paths, Record, Roots}

-- the text that is told of a torrent, from its tree and its info hashes (profile)
abbrev pub lines_of : Telling → Data → Hashes → List ℕ
lines_of Lines root hashes = check_lines (view_of root) hashes
lines_of (Link words) root hashes = magnet_line words root hashes
lines_of Paths root hashes = ended_paths (view_of root)
lines_of Record root hashes = check_line root (view_of root) hashes
lines_of Roots root hashes = rooted_lines (view_of root) hashes
