-- the one content of the reader
use Rattle.std.proofs.Common.{◌∷◌, ◌∙◌, [], ap, arith, refl, sym}
use Rattle.tor_streams.proofs.read_streams.read_input.Goals as goal

pub read_whole-requires-clause-ready : goal.read_whole-requires-clause-ready
read_whole-requires-clause-ready g c =
    ([], c.requires.ready)

pub put_rest-requires-clause-has : goal.put_rest-requires-clause-has
put_rest-requires-clause-has g c =
    let read = c.in-Ok.ensures.read in
    (read.0 ∷ [], (read.4 [] c.requires.ready).has)

pub returns-in_ok-only-in-Ok-clause-put : goal.returns-in_ok-only-in-Ok-clause-put
returns-in_ok-only-in-Ok-clause-put g c =
    let read = c.in-Ok.ensures.read in (
      read.0 ∷ [],
      (read.0, refl, (read.1, omega (arith, read.2, read.3))),
      record {
        small = (omega (arith, read.2, read.3), tt);
        counted = ap (λ n. n ∷ []) read.2 ∙ sym c.in_ok-only-in-Ok.ensures;
        cut = c.in_ok-put_rest-in-Ok.ensures.put (read.0 ∷ []) (read.4 [] c.requires.ready).has;
      },
    )
