use Rattle.tor_board.proofs.Names.{[], ap, arith, refl, ◌-◌, ◌∙◌, ◌∷◌, rest, Seated, climb_from, Some, inl, handed}
use Rattle.tor_board.proofs.{Meets.lands_at, Meets.climbs_on, Trees.has_unit-within}
use Rattle.tor_board.proofs.climb.begin.Goals as goal

pub slot_at-requires-clause-within : goal.slot_at-requires-clause-within
slot_at-requires-clause-within c = let fits = c.requires.shape.fits c.args.tree.now c.requires.tree.0 in
    grind (arith, lands_at fits 0 (c.args.unit - c.args.tree.now.first))

pub exchange-requires : goal.exchange-requires
exchange-requires c = grind arith

pub returns : goal.returns
returns c = let t = c.requires.tree in let spot = c.risen-spot.ensures in let given = c.hand_in.ensures.given.1 in
    let fits = c.requires.shape.fits c.args.tree.now t.0 in let i = c.args.unit - c.args.tree.now.first in
    let u = c.args.unit in let hash = c.args.hash.now in let v = c.args.seat.now.me.0 in
    let start = climb_from c.args.tree.now 0 i hash [] in record {
      table = c.exchange.ensures.0 ∙ c.hand_in.ensures.table;
      low = (lands_at fits 0 i (omega arith) (omega (arith, t.1, t.2)) _ _ spot.level spot.index).1;
      climbs = climbs_on fits 0 i (omega arith) (omega (arith, t.1, t.2)) hash [] _ _ spot.level spot.index _ spot.hash
          (handed v u hash (Some start)) refl (
            record { unit = u; hash = hash; joined = 0 },
            v.given,
            refl,
            has_unit-within c.args.tree.now u t.1 t.2,
          ) (inl refl) c.exchange.new.seat.me (c.exchange.ensures.3
          ∙ (λ k. ((given k).0, (c.slot_at.ensures k, c.risen-spot.result.hash) ∷ rest (given k).1)));
      given = (start, ap (λ (m : Seated). m.0) c.exchange.ensures.3 ∙ ap (λ (m : Seated). m.0) given);
    }
