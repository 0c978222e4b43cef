-- The lines, of which no two have one path.
use Rattle.std.proofs.Common.{◌≡◌, sym, ◌∙◌, ap, true, false, true≢false}
use Rattle.tor_tree.specs.FileList.{paths_of, paths_repeat}
use Rattle.tor_cli.specs.make.AttrsText.{attrs_text}
use Rattle.tor_cli.proofs.make.attrs_text.read_attrs.Goals as goal

pub returns-in_default-clause-read : goal.returns-in_default-clause-read
unfolding attrs_text
returns-in_default-clause-read c files are same =
    rw c.in_default.is at (c.in_ok-files.ensures.read files are.each (sym same))

pub returns-then-branch-clause-read : goal.returns-then-branch-clause-read
unfolding attrs_text
returns-then-branch-clause-read c files are same =
    let read = rw c.in-Some.is at (c.in_ok-files.ensures.read files are.each (sym same)) in
    let repeat : paths_repeat (paths_of files) ≡ true =
    ap (λ fs. paths_repeat (paths_of fs)) (sym read ∙ sym c.deref.ensures.value) ∙ sym c.in_ok-names_twice.ensures
    ∙ c.if-branch.true in
    true≢false (sym repeat ∙ are.once)

pub returns-clause-written : goal.returns-clause-written
unfolding attrs_text
returns-clause-written c =
    let read = rw c.in-Some.is at c.in_ok-files.ensures.written in
    let once : paths_repeat (paths_of c.in-Some.files.items) ≡ false =
    ap (λ fs. paths_repeat (paths_of fs)) (sym c.deref.ensures.value) ∙ sym c.in_ok-names_twice.ensures
    ∙ c.if-branch.false in
    (record { each = read.0; once = once }, sym read.1)

pub returns-clause-read : goal.returns-clause-read
unfolding attrs_text
returns-clause-read c files are same = rw c.in-Some.is at (c.in_ok-files.ensures.read files are.each (sym same))
