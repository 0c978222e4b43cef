use Rattle.tor_check.proofs.Names.{◌≡◌, map, files_from, without_padding, file_of_list}
use Rattle.tor_check.proofs.views.views_of_list.Given as goal

-- the files so far
abbrev pub invariant-listed : goal.invariant-listed
invariant-listed l = l.views.items ≡ map file_of_list (without_padding (files_from l.yielded))
