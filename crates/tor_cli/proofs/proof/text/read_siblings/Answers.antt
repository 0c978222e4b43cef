-- A line for each sibling.
use Rattle.std.proofs.Common.{◌≡◌, length, ◌<◌, [], ◌∷◌, arith, length-append}
use Rattle.std.specs.Prelude.{flat_map}
use Rattle.std.proofs.lemmas.Bool.Decides.{nat_tests}
use Rattle.std.proofs.lemmas.List.Elements.{All-append, All-cons, All-nil}
use Rattle.tor_cli.specs.proof.ProofText.{IsHash, sibling_line}
use Rattle.tor_cli.proofs.LinesLeft.{none_left, one_left, one_more, step}
use Rattle.tor_cli.proofs.Siblings.{some_line}
use Rattle.tor_cli.proofs.proof.text.read_siblings.Goals as goal

pub returns-in_default-clause-read : goal.returns-in_default-clause-read
returns-in_default-clause-read c siblings hashes few same =
    let some : 0 < length c.lines.lines.now = grind (arith, nat_tests) in
    let left = c.lines.invariant.left siblings hashes same in
    let more = one_left IsHash sibling_line some_line siblings c.lines.siblings.items c.lines.lines.now left some in
    c.in_default.ensures.read more.next (flat_map sibling_line more.after) more.is more.spelled

pub lines-preserved : goal.lines-preserved
lines-preserved c =
    let some : 0 < length c.lines.lines.now = grind (arith, nat_tests) in
    rw c.in_ok-push.ensures.items
    record {
      hashes =
          All-append IsHash c.lines.siblings.items (c.in-Some.line.0 ∷ []) c.lines.invariant.hashes
          (All-cons IsHash c.in-Some.line.0 [] c.in-Some.ensures.written.0 (All-nil IsHash));
      written =
          one_more IsHash sibling_line some_line c.args.text.now c.lines.lines.now c.in-Some.line.1.now
          c.lines.siblings.items c.in-Some.line.0 c.lines.invariant.written c.in-Some.ensures.written.1;
      count = simp length-append (omega arith);
      left =
          λ all hashes same.
          let left = c.lines.invariant.left all hashes same in
          let more = one_left IsHash sibling_line some_line all c.lines.siblings.items c.lines.lines.now left some in
          let read = c.in-Some.ensures.read more.next (flat_map sibling_line more.after) more.is more.spelled in
          step IsHash sibling_line some_line all c.lines.siblings.items c.lines.lines.now more c.in-Some.line.0
          c.in-Some.line.1.now read.0 read.1;
    }

pub returns-clause-read : goal.returns-clause-read
returns-clause-read c siblings hashes few same =
    let none : length c.lines.lines.now ≡ 0 = grind (arith, nat_tests) in
    none_left IsHash sibling_line some_line siblings c.lines.siblings.items c.lines.lines.now
    (c.lines.invariant.left siblings hashes same) none
