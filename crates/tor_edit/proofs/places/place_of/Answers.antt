use Rattle.tor_edit.proofs.Names.{arith, ◌∙◌, ap, sym, take_all, pairs_view}
use Rattle.tor_edit.proofs.ByIndex.{back_at_equal, back_at_less, back_goes_on, front_at_end, front_at_equal}
use Rattle.tor_edit.proofs.ByIndex.{front_at_less, front_goes_on}
use Rattle.tor_edit.proofs.places.place_of.Goals as goal

pub returns-in-Less-clause-front : goal.returns-in-Less-clause-front
returns-in-Less-clause-front c =
    front_at_less c.args.pairs.now c.args.key.now c.pairs.index c.index-pairs-index.result (omega arith)
    c.index-pairs-index.is (sym c.cmp.ensures ∙ c.in-Less.is) c.pairs.invariant.front

pub returns-in-Less-clause-back : goal.returns-in-Less-clause-back
returns-in-Less-clause-back c =
    back_at_less c.args.pairs.now c.args.key.now c.pairs.index c.index-pairs-index.result (omega arith)
    c.index-pairs-index.is (sym c.cmp.ensures ∙ c.in-Less.is) c.pairs.invariant.back

pub returns-in-Equal-clause-front : goal.returns-in-Equal-clause-front
returns-in-Equal-clause-front c =
    front_at_equal c.args.pairs.now c.args.key.now c.pairs.index c.index-pairs-index.result (omega arith)
    c.index-pairs-index.is (sym c.cmp.ensures ∙ c.in-Equal.is) c.pairs.invariant.front

pub returns-in-Equal-clause-back : goal.returns-in-Equal-clause-back
returns-in-Equal-clause-back c =
    back_at_equal c.args.pairs.now c.args.key.now c.pairs.index c.index-pairs-index.result (omega arith)
    c.index-pairs-index.is (sym c.cmp.ensures ∙ c.in-Equal.is) c.pairs.invariant.back

pub pairs-preserved : goal.pairs-preserved
pairs-preserved c = record {
  front =
      front_goes_on c.args.pairs.now c.args.key.now c.pairs.index c.index-pairs-index.result (omega arith)
      c.index-pairs-index.is (sym c.cmp.ensures ∙ c.in-Greater.is) c.pairs.invariant.front;
  back =
      back_goes_on c.args.pairs.now c.args.key.now c.pairs.index c.index-pairs-index.result (omega arith)
      c.index-pairs-index.is (sym c.cmp.ensures ∙ c.in-Greater.is) c.pairs.invariant.back;
}

pub returns-clause-front : goal.returns-clause-front
returns-clause-front c =
    ap pairs_view (take_all _ c.args.pairs.now (omega arith))
    ∙ front_at_end c.args.pairs.now c.args.key.now c.pairs.index (omega arith) c.pairs.invariant.front
