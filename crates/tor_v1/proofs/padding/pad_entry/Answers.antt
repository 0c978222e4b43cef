-- both names are without fault
use Rattle.std.proofs.Common.{arith, ◌∙◌, ap}
use Rattle.tor_tree.specs.Name.{name_fault}
use Rattle.tor_v1.proofs.Names.{pad_faultless, decimal_faultless}
use Rattle.tor_v1.proofs.padding.pad_entry.Goals as goal

pub faultless_name-requires : goal.faultless_name-requires
faultless_name-requires c = pad_faultless

pub faultless_name-requires-2 : goal.faultless_name-requires-2
faultless_name-requires-2 c =
    ap name_fault (c.as_bytes.ensures.value ∙ c.format.ensures.text) ∙ decimal_faultless c.args.length (omega arith)
