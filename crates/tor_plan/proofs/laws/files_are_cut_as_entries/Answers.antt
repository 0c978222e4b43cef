use Rattle.tor_plan.proofs.Names.{layout_of_kind}
use Rattle.tor_plan.proofs.FileSizes.{files_are_list}
use Rattle.tor_plan.proofs.ProvedLaws.{files_laid_out, lengths_of_files}
use Rattle.tor_plan.proofs.laws.files_are_cut_as_entries.Goals as goal

pub returns : goal.returns
returns c = record {
  lengths = λ kind tail. lengths_of_files (layout_of_kind kind tail);
  laid_out = files_laid_out;
  listed = files_are_list;
}
