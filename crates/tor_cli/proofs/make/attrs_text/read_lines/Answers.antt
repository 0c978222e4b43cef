-- A line for each file.
use Rattle.std.proofs.Common.{◌≡◌, length, ◌<◌, [], ◌∷◌, refl, arith, List, ℕ}
use Rattle.std.specs.Prelude.{flat_map}
use Rattle.std.proofs.lemmas.Bool.Decides.{nat_tests}
use Rattle.std.proofs.lemmas.List.Elements.{All-append, All-cons, All-nil}
use Rattle.tor_cli.specs.make.AttrsText.{IsLettered, attrs_line}
use Rattle.tor_tree.specs.declared.attr.Attr.{Attr}
use Rattle.tor_cli.proofs.AttrsLines.{some_bytes}
use Rattle.tor_cli.proofs.LinesLeft.{none_left, one_left, one_more, step}
use Rattle.tor_cli.proofs.make.attrs_text.read_lines.Goals as goal

pub returns-in_default-clause-read : goal.returns-in_default-clause-read
returns-in_default-clause-read c files each same =
    let some : 0 < length c.lines.lines.now = grind (arith, nat_tests) in
    let left = c.lines.invariant.left files each same in
    let more = one_left IsLettered attrs_line some_bytes files c.lines.files.items c.lines.lines.now left some in
    rw c.in_default.is at (c.in_ok-line.ensures.read more.next (flat_map attrs_line more.after) more.is more.spelled)

same_file : (a b : List (List ℕ)) (x y : Attr) → a ≡ b → x ≡ y → ◌≡◌ {A = List (List ℕ) × Attr} (a, x) (b, y)
same_file a b x y same equal = rw (same, equal) refl

pub lines-preserved : goal.lines-preserved
lines-preserved c =
    let some : 0 < length c.lines.lines.now = grind (arith, nat_tests) in
    let file : List (List ℕ) × Attr = (c.in-Some.line.0, c.in-Some.line.1) in
    let read = rw c.in-Some.is at c.in_ok-line.ensures in
    rw c.in_ok-push.ensures.items
    record {
      each =
          All-append IsLettered c.lines.files.items (file ∷ []) c.lines.invariant.each
          (All-cons IsLettered file [] read.written.0 (All-nil IsLettered));
      written =
          one_more IsLettered attrs_line some_bytes c.args.text.now c.lines.lines.now c.in-Some.line.2.now
          c.lines.files.items file c.lines.invariant.written read.written.1;
      left =
          λ all each same.
          let left = c.lines.invariant.left all each same in
          let more = one_left IsLettered attrs_line some_bytes all c.lines.files.items c.lines.lines.now left some in
          let told = read.read more.next (flat_map attrs_line more.after) more.is more.spelled in
          step IsLettered attrs_line some_bytes all c.lines.files.items c.lines.lines.now more file
          c.in-Some.line.2.now (same_file _ _ _ _ told.0 told.1) told.2;
    }

pub returns-clause-read : goal.returns-clause-read
returns-clause-read c files each same =
    let none : length c.lines.lines.now ≡ 0 = grind (arith, nat_tests) in
    none_left IsLettered attrs_line some_bytes files c.lines.files.items c.lines.lines.now
    (c.lines.invariant.left files each same) none
