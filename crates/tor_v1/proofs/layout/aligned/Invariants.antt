-- the entries so far, and those of the files that follow
use Rattle.std.proofs.Common.{◌≡◌, ◌++◌, drop, count_by, nat_lt}
use Rattle.tor_v1.specs.Entries.{aligned_entries}
use Rattle.tor_v1.proofs.layout.aligned.Given as goal

abbrev pub invariant-files : goal.invariant-files
invariant-files l = record {
  counted : l.later ≡ count_by (λ file. nat_lt 0 file.1) (drop l.path-index l.files);
  all : l.entries.items ++ aligned_entries l.tail l.piece_length (drop l.path-index l.files)
      ≡ aligned_entries l.tail l.piece_length l.files;
}
