use Rattle.tor_v1.proofs.ProvedLaws.{letters_of_files, no_letters_of_files, padding_without_letters}
use Rattle.tor_v1.proofs.laws.letters_of_files.Goals as goal

pub returns : goal.returns
returns c = record { files = letters_of_files; padding = padding_without_letters; none = no_letters_of_files }
