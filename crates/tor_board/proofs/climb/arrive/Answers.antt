use Rattle.tor_board.proofs.Names.{[], ap, arith, sym, ℕ, ◌%◌, ◌∙◌, ◌∷◌, ◌≡◌, turned, Seated, climbed, met, joining}
use Rattle.tor_board.proofs.Names.{climb_at, rules, ◌++◌, Some, inr, suc, climb_from, other_slot, ◌+◌, ◌/◌, List, refl}
use Rattle.tor_board.proofs.{Arrivals.arrives, Arrivals.other_in, Finding.head_more, Names.{node_of, slot_of, ◌-◌}}
use Rattle.tor_board.proofs.Meets.{below_of, node_place, next_of, climbs_on, turned_seat, stored_seat, at_slot}
use Rattle.tor_board.proofs.Meets.{met_left, met_right}
use Rattle.tor_board.proofs.climb.arrive.Goals.{then-index-eq0, else-index-eq0}
use Rattle.tor_board.proofs.climb.arrive.Goals as goal

pub middle-node-requires : goal.middle-node-requires
middle-node-requires c = grind arith

pub word-requires : goal.word-requires
word-requires c = grind arith

pub fetch_add-found-requires : goal.fetch_add-found-requires
fetch_add-found-requires c =
    let cl = c.requires.climbs in let fits = c.requires.shape.fits c.args.tree.now c.requires.tree in
    let below = below_of fits cl c.requires.below in (
      c.requires.table,
      omega (arith, c.word.ensures, c.middle-node.ensures, below.inside, fits.long),
      rw (c.word.ensures, c.middle-node.ensures) (arrives c.requires.shape _ _ _
          (climb_at c.args.tree.now c.args.spot.level c.args.spot.index c.args.spot.hash cl.spare) cl.is cl.carried
          c.requires.tree below cl.left c.requires.room cl.giving),
    )

pub returns-then-found-eq0-clause-first : goal.returns-then-found-eq0-clause-first
returns-then-found-eq0-clause-first c = (c.fetch_add-found.ensures.2.0 _ c.requires.climbs.is).0.1 c.if-found-eq0.true

pub slot_mut-requires : goal.slot_mut-requires
slot_mut-requires c = let t = c.args.tree.now in let spot = c.args.spot in let cl = c.requires.climbs in
    let one = (c.fetch_add-found.ensures.2.0 _ cl.is).0 in let r = one.2 (omega (arith, one.0, c.if-found-eq0.false)) in
    let side : c.side_slot.result ≡ other_slot (climb_at t spot.level spot.index spot.hash cl.spare)
    = c.side_slot.ensures ∙ ap (λ (m : ℕ). slot_of t m (1 - spot.index % 2)) c.middle-node.ensures in
    (c.fetch_add-found.ensures.0 ∙ c.requires.table, (r.0, at_slot r.2 (sym side)))

pub risen-next-requires-clause-within : goal.risen-next-requires-clause-within
risen-next-requires-clause-within c = let fits = c.requires.shape.fits c.args.tree.now c.requires.tree in
    (omega (arith, c.requires.below), node_place fits c.requires.climbs c.requires.below)

pub slot_at-requires-clause-within : goal.slot_at-requires-clause-within
slot_at-requires-clause-within c =
    let fits = c.requires.shape.fits c.args.tree.now c.requires.tree in let next = c.risen-next.ensures in
    grind (arith, next_of fits c.requires.climbs c.requires.below _ _ next.level next.index)

pub exchange-requires : goal.exchange-requires
exchange-requires c = let spot = c.args.spot in let cl = c.requires.climbs in let next = c.risen-next.ensures in
    let one = (c.fetch_add-found.ensures.2.0 _ cl.is).0 in let r = one.2 (omega (arith, one.0, c.if-found-eq0.false)) in
    let q = turned_seat r.2 c.slot_mut.ensures.value c.turn.ensures.2 in
    let up = climbed (climb_at c.args.tree.now spot.level spot.index spot.hash cl.spare) r.0 in
    let a : up.slot ≡ c.slot_at.result = grind arith in
    (c.turn.ensures.0 ∙ (c.fetch_add-found.ensures.0 ∙ c.requires.table), (r.1, at_slot q.1 a))

pub returns : goal.returns
returns c = let spot = c.args.spot in let cl = c.requires.climbs in let next = c.risen-next.ensures in
    let fits = c.requires.shape.fits c.args.tree.now c.requires.tree in
    let one = (c.fetch_add-found.ensures.2.0 _ cl.is).0 in let r = one.2 (omega (arith, one.0, c.if-found-eq0.false)) in
    let q = turned_seat r.2 c.slot_mut.ensures.value c.turn.ensures.2 in
    let w = stored_seat q.1 (c.turn-2.ensures.2 ∙ ap (λ (m : Seated). (m.0, turned m.1)) c.exchange.ensures.3) in
    let t = c.args.tree.now in let at = climb_at t spot.level spot.index spot.hash cl.spare in
    let up = climbed at r.0 in let same : suc spot.level ≡ spot.level + 1 = omega arith in
    let p = next_of fits cl c.requires.below _ _ next.level next.index in
    let side = spot.index % 2 in
    let joins : c.if-index-eq0.joined ≡ met (spot.index % 2) spot.hash r.0 = elim c.if-index-eq0.branch [
      | then-index-eq0 w ↦ w.joined-is ∙ w.pair-joined.ensures ∙ ap (node_of spot.hash) q.0
          ∙ met_left side spot.hash r.0 w.if-index-eq0.true
      | else-index-eq0 w ↦ w.joined-is ∙ w.pair-joined-else-index-eq0.ensures
          ∙ ap (λ (x : List ℕ). node_of x spot.hash) q.0 ∙ met_right side spot.hash r.0 w.if-index-eq0.false
    ] in record {
      table = search rules;
      first = tt;
      low = (omega (arith, p.3), p.1);
      climbs = climbs_on fits (spot.level + 1) (spot.index / 2) (omega (arith, c.requires.below))
          (node_place fits cl c.requires.below) c.if-index-eq0.joined up.spare _ _ next.level next.index
          c.risen-next.result.hash next.hash (joining c.args.seat.now.me.0 up)
          (ap (λ (l : ℕ). Some (climb_from t l (spot.index / 2) (met (spot.index % 2) spot.hash r.0) up.spare)) same
          ∙ ap (λ (h : List ℕ). Some (climb_from t (spot.level + 1) (spot.index / 2) h up.spare)) (sym joins))
          (head_more t c.args.seat.now.me.0.given cl.giving)
          (inr (other_slot at, r.0, refl, other_in at (below_of fits cl c.requires.below))) c.turn-2.new.self.me (w
          ∙ ap (λ (k : ℕ). (joining c.args.seat.now.me.0 up, up.spare ++ (k, c.risen-next.result.hash) ∷ []))
          c.slot_at.ensures);
      second = (up, ap (λ (m : Seated). m.0) w);
    }
