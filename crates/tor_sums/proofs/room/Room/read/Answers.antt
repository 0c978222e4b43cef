-- what was read stands behind what was held
use Rattle.std.proofs.Common.{◌+◌, ◌++◌, drop, take, ap, ◌∙◌, arith}
use Rattle.std.proofs.Math.Seq.{take-add}
use Rattle.std.proofs.lemmas.List.{length-drop, length-take, with_items_is}
use Rattle.tor_sums.proofs.room.Room.read.Goals as goal

pub returns-in-Ok-clause-read : goal.returns-in-Ok-clause-read
returns-in-Ok-clause-read g c =
    let held = c.args.self.now.held in
    let bytes = c.read_behind.new.bytes in
    let count = c.in-Ok.count in
    let left = length-drop held bytes in
    record {
      bytes = take count (drop held bytes);
      counted = length-take count (drop held bytes)
          ∙ omega (
            arith,
            left,
            c.in-Ok.ensures.some.1,
            c.asked-most.ensures.room,
            c.in-Ok.ensures.len,
            c.deref_mut.ensures.len,
          );
      held = ap (take (held + count)) (with_items_is c.args.self.now.bytes bytes
          (c.in-Ok.ensures.len ∙ c.deref_mut.ensures.len))
          ∙ take-add held count bytes
          ∙ ap (λ xs. xs ++ take count (drop held bytes))
          (c.in-Ok.ensures.front ∙ ap (take held) c.deref_mut.ensures.value);
      steady = λ facts steady some. (c.in-Ok.ensures.read facts steady some).same;
      there = c.in-Ok.ensures.there;
    }
