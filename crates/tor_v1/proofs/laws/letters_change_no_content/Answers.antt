use Rattle.tor_v1.proofs.ProvedLaws.{letters_change_no_content, letters_change_no_length, letters_change_no_pad}
use Rattle.tor_v1.proofs.ProvedLaws.{letters_change_no_path, letters_change_no_pieces, letters_change_no_size}
use Rattle.tor_v1.proofs.laws.letters_change_no_content.Goals as goal

pub returns : goal.returns
returns c = record {
  paths = letters_change_no_path;
  lengths = letters_change_no_length;
  pads = letters_change_no_pad;
  size = letters_change_no_size;
  content = letters_change_no_content;
  pieces = letters_change_no_pieces;
}
