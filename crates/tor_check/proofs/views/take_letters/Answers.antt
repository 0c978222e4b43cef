use Rattle.std.proofs.Common.{take-append-drop}
use Rattle.std.proofs.lemmas.List.{drop_all}
use Rattle.tor_check.proofs.Names.{◌≡◌, ◌∙◌, ◌++◌, [], ap, drop, sym, take, lettered}
use Rattle.tor_check.proofs.Names.{lettered_none, files_from, without_padding}
use Rattle.tor_check.proofs.views.take_letters.Goals as goal

-- without files of the v1 side those that are left stay as they are
pub returns : goal.returns
returns c =
    let n = c.listed.count in
    let files = c.listed.files.items in
    let none : drop c.listed.one-index c.args.listed.now ≡ [] =
    drop_all c.listed.one-index c.args.listed.now c.listed-test.false in
    sym (c.listed.invariant.1
    ∙ ap (λ left. take n files ++ lettered (without_padding (files_from left)) (drop n files)) none
    ∙ ap (λ more. take n files ++ more) (lettered_none (drop n files))
    ∙ take-append-drop n files)
