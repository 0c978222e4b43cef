-- The refusal that stands for a fault of a list.
use Rattle.tor_tree.specs.declared.lists.ListError.{ListError}
use Rattle.tor_tree.specs.declared.lists.ListError.TheVariants as fault
use Rattle.tor_meta.specs.declared.refusals.ContentsError.{ContentsError}
use Rattle.tor_meta.specs.declared.refusals.ContentsError.TheVariants.{List, Memory}

abbrev pub of_list_error : ListError → ContentsError
of_list_error fault.Memory = Memory
of_list_error other = List other
