-- The steps of a lane's channel, each of which keeps the rule, are those that a lane can make.
use Rattle.std.proofs.Common.{◌≡◌, ◌≢◌, ℕ, zero, suc, ◌*◌, ◌<◌, Bool, true, false, true≢false, List, [], ◌∷◌, ◌++◌}
use Rattle.std.proofs.Common.{length, set, sym, refl, ap, ◌∙◌, subst, ⊎_elim, arith}
use Rattle.std.proofs.lemmas.List.{length_push}
use Rattle.std.proofs.lemmas.List.Sums.{sum_by_push}
use mathlib.Core.Option.{some, some-injective, some-ne-none}
use lib.ListN.{get_elem?}
use Rattle.atomic_table.proofs.Lists.{at_longer, at_set, set_else}
use Rattle.tor_lane.specs.declared.chunk.Message.{Message}
use Rattle.tor_lane.specs.declared.chunk.Message.TheVariants.{More, Mark}
use Rattle.tor_lane.specs.declared.view.View.{View}
use Rattle.tor_lane.specs.Reached.{IsReached, makes, sends, receives, learns}
use Rattle.tor_lane.specs.Rule.{CanPut, CanTake, Keeps}
use Rattle.tor_lane.specs.Views.{both, fresh, making, putting, spent, taking}
use Rattle.tor_lane.proofs.Puts.{Each, each_set}
use Rattle.tor_lane.proofs.Reached.{reached}
use Rattle.tor_lane.proofs.Sums.{sum_set}

set_there : (views : List View) (at : ℕ) (v w : View) → get_elem? views at ≡ some v
    → get_elem? (set views at w) at ≡ some w
set_there [] at v w here = absurd (some-ne-none v (sym here))
set_there (x ∷ xs) zero v w here = refl
set_there (x ∷ xs) (suc at) v w here = set_there xs at v w here

puts_by_feeder : (v : View) (x : Message) → CanPut v x → (putting v x).feeds ≡ true
puts_by_feeder v (More c) can = can.0
puts_by_feeder v Mark can = can.0

made_as_before : (v : View) (x : Message) → (putting v x).made ≡ v.made
made_as_before v (More c) = refl
made_as_before v Mark = refl

-- a send that keeps the rule found room
pub sent : (items : List Message) (views : List View) (at : ℕ) (v : View) (x : Message) (w : View)
    → IsReached items views → get_elem? views at ≡ some v → (w ≡ putting v x) × CanPut v x
    → Keeps (items ++ x ∷ []) (set views at w) → IsReached (items ++ x ∷ []) (set views at w)
sent items views at v x w past here told after =
    let feeds : w.feeds ≡ true = ap (λ (u : View). u.feeds) told.0 ∙ puts_by_feeder v x told.1 in
    let mine = after.feeds at w (set_there views at v w here) feeds in
    let made : v.made ≡ after.made
    = sym (made_as_before v x) ∙ sym (ap (λ (u : View). u.made) told.0) ∙ mine.3 in
    let short : length items < 2 * v.made = let n = length_push items x in omega (arith, after.few) in
    subst (λ (u : View). IsReached (items ++ x ∷ []) (set views at u)) (sym told.0)
    (sends items views at v x past here told.1 short)

pub received : (items : List Message) (views : List View) (at : ℕ) (v : View) (x : Message) (w : View)
    → IsReached (x ∷ items) views → get_elem? views at ≡ some v → (w ≡ taking v x) × CanTake v
    → IsReached items (set views at w)
received items views at v x w past here told = subst (λ (u : View). IsReached items (set views at u)) (sym told.0)
    (receives items views at v x past here told.1)

-- the feeder's making keeps the rule, and no other end's
pub made : (items : List Message) (views : List View) (at : ℕ) (v : View) → IsReached items views
    → get_elem? views at ≡ some v → Keeps items (set views at (making v) ++ fresh v ∷ [])
    → IsReached items (set views at (making v) ++ fresh v ∷ [])
made items views at v past here after = makes items views at v past here (feeding v.feeds refl) where
  feeding : (b : Bool) → v.feeds ≡ b → v.feeds ≡ true
  feeding true is = is
  feeding false is =
      let h = reached items views past in
      let old : List View = set views at (making v) in
      let apart : h.feeder ≢ at = λ e.
      let same : v ≡ h.fed.0
      = some-injective v h.fed.0 (sym here ∙ ap (get_elem? views) (sym e) ∙ h.fed.1) in
      true≢false (sym h.fed.2 ∙ sym (ap (λ (u : View). u.feeds) same) ∙ is) in
      let there : get_elem? (old ++ fresh v ∷ []) h.feeder ≡ some h.fed.0
      = at_longer old (fresh v ∷ []) h.feeder h.fed.0 (set_else views at h.feeder (making v) apart ∙ h.fed.1) in
      let a = h.feeds h.feeder h.fed.0 h.fed.1 h.fed.2 in
      let b = after.feeds h.feeder h.fed.0 there h.fed.2 in
      let s = sum_set (λ (u : View). u.takers) views at v (making v) here in
      let t = sum_by_push (λ (u : View). u.takers) old (fresh v) in
      absurd (omega (arith, a.3, b.3, h.takers, after.takers))

-- an end that learned from the feeder would leave none
pub learned : (items : List Message) (views : List View) (at other : ℕ) (v w : View) → IsReached items views
    → get_elem? views at ≡ some v → get_elem? views other ≡ some w → other ≢ at
    → Keeps items (set (set views at (both v w)) other spent)
    → IsReached items (set (set views at (both v w)) other spent)
learned items views at other v w past here there two after =
    learns items views at other v w past here there two (not_feeding w.feeds refl) where
      not_feeding : (b : Bool) → w.feeds ≡ b → w.feeds ≡ false
      not_feeding false is = is
      not_feeding true is =
          let h = reached items views past in
          let b : View = both v w in
          let now : List View = set views at b in
          let Else : ℕ → View → Type 0 = λ j u. (j ≢ other) → u.feeds ≡ true → ⊥ in
          let before : Each Else views = λ j u e x p. x ((h.feeds j u e p).0 ∙ sym (h.feeds other w there is).0) in
          let none : Each Else now = each_set Else views at b (before at v here) (λ j u _ e. before j u e) in
          let fed = after.fed in
          let not_spent : ¬ (spent ≡ fed.0) = λ e. true≢false (sym fed.2 ∙ sym (ap (λ (u : View). u.feeds) e)) in
          absurd (⊎_elim (λ (x : (after.feeder ≡ other) × (spent ≡ fed.0)). not_spent x.1)
          (λ (x : (after.feeder ≢ other) × (get_elem? now after.feeder ≡ some fed.0)).
          none after.feeder fed.0 x.1 x.0 fed.2)
          (at_set now other after.feeder spent fed.0 fed.1))
