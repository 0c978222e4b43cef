use Rattle.tor_check.proofs.Names.{◌≡◌, ◌++◌, ◌≤◌, length, take, drop, files_from, lettered, without_padding}
use Rattle.tor_check.proofs.views.take_letters.Given as goal

-- the letters so far, and those that are left
abbrev pub invariant-listed : goal.invariant-listed
invariant-listed l =
    (l.count ≤ length l.files.items) × (lettered (without_padding (files_from l.listed)) l.fn.files.items
    ≡ take l.count l.files.items
    ++ lettered (without_padding (files_from (drop l.one-index l.listed))) (drop l.count l.files.items))
