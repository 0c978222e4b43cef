use Rattle.tor_check.proofs.Names.{◌≡◌, drop, iter_rest, files_from, some_letters_differ, without_padding}
use Rattle.tor_check.proofs.agree.some_letters_differ.Given as goal

-- some letters differ if some do of those that are left
abbrev pub invariant-listed : goal.invariant-listed
invariant-listed l =
    some_letters_differ (without_padding (files_from l.listed)) l.files
    ≡ some_letters_differ (without_padding (files_from (drop l.file-index l.listed))) (iter_rest l.left)
