-- The letters end at a space, the path at the line feed.
use Rattle.std.proofs.Common.{◌≡◌, ◌∷◌, ◌++◌, ◌∙◌, ap, refl}
use Rattle.tor_tree.specs.Name.{has_byte}
use Rattle.tor_tree.specs.Letters.{letters}
use Rattle.tor_report.specs.Shown.{path_text}
use Rattle.tor_cli.proofs.AttrsLines.{in_names, in_path, line_apart, line_whole, path_text-split, split-path}
use Rattle.tor_cli.proofs.AttrsLines.{whole_letters}
use Rattle.tor_cli.proofs.make.attrs_text.read_line.Goals as goal

pub returns-in_default-cut_at-clause-read : goal.returns-in_default-cut_at-clause-read
returns-in_default-cut_at-clause-read c file rest is same =
    let (l, set, apart) = line_apart file rest c.args.text.now is same in
    let read = c.in-Some.ensures.read file.1 l (path_text file.0 ++ 10 ∷ rest) set apart in
    c.in_default-cut_at.ensures.read (path_text file.0) rest (in_path 10 refl file.0 is.in_line) read.1

pub returns-in-Some-2-clause-written : goal.returns-in-Some-2-clause-written
returns-in-Some-2-clause-written c =
    let path = rw c.in-Some-2.is at c.in_ok-path.ensures in
    let (cut, none) = c.in-Some-cut_at.ensures.written in
    let spelled : path_text c.in-Some-2.path ≡ c.in-Some-cut_at.line.now =
    ap path_text path.0 ∙ path_text-split c.in-Some-cut_at.line.now in
    let (l, set, same) = whole_letters (letters c.in-Some.attr) c.args.text.now c.in-Some.after.now
    c.in-Some.ensures.written in (
      record {
        path = path.1;
        in_line = in_names 10 refl c.in-Some-2.path (ap (has_byte 10) spelled ∙ none);
        lettered = rw set refl;
      },
      line_whole c.in-Some-2.path c.in-Some.attr l c.in-Some-cut_at.line.now c.in-Some.after.now
          c.in-Some-cut_at.rest.now c.args.text.now set spelled same cut,
    )

pub returns-in-Some-2-clause-read : goal.returns-in-Some-2-clause-read
returns-in-Some-2-clause-read c file rest is same =
    let (l, set, apart) = line_apart file rest c.args.text.now is same in
    let read = c.in-Some.ensures.read file.1 l (path_text file.0 ++ 10 ∷ rest) set apart in
    let cut = c.in-Some-cut_at.ensures.read (path_text file.0) rest (in_path 10 refl file.0 is.in_line) read.1 in
    let path = rw c.in-Some-2.is at c.in_ok-path.ensures in
    (path.0 ∙ rw cut.0 (split-path file.0 is.path), read.0, cut.1)

pub returns-in-None-clause-read : goal.returns-in-None-clause-read
returns-in-None-clause-read c file rest is same =
    let (l, set, apart) = line_apart file rest c.args.text.now is same in
    let read = c.in-Some.ensures.read file.1 l (path_text file.0 ++ 10 ∷ rest) set apart in
    let cut = c.in-Some-cut_at.ensures.read (path_text file.0) rest (in_path 10 refl file.0 is.in_line) read.1 in
    let path = rw c.in-None.is at c.in_ok-path.ensures in
    path (rw (cut.0, split-path file.0 is.path) is.path)
