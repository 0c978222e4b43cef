use Rattle.tor_bencode.proofs.ProvedLaws.{tree_or_one_fault, tree_has_no_fault, one_fault}
use Rattle.tor_bencode.proofs.laws.one_tree_or_one_fault.Goals as goal

pub returns : goal.returns
returns c = record { either = tree_or_one_fault; not_both = tree_has_no_fault; one_fault = one_fault }
