use Rattle.tor_tree.proofs.ProvedLaws.{paths_of_read_files, roots_of_read_files}
use Rattle.tor_tree.proofs.laws.files_of_tree_are_files.Goals as goal

pub returns : goal.returns
returns c = record { paths = paths_of_read_files; roots = roots_of_read_files }
