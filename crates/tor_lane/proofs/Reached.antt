-- Whatever steps a lane's ends make, in any order, the rule holds.
use Rattle.std.proofs.Common.{◌*◌, List, [], ◌∷◌, ◌++◌, set, refl, ◌∙◌, subst}
use Rattle.atomic_table.proofs.Lists.{set_else}
use Rattle.tor_lane.specs.declared.chunk.Message.{Message}
use Rattle.tor_lane.specs.declared.view.View.{View}
use Rattle.tor_lane.specs.Reached.{IsReached, begins, makes, sends, receives, learns}
use Rattle.tor_lane.specs.Rule.{Keeps}
use Rattle.tor_lane.specs.Views.{both}
use Rattle.tor_lane.proofs.Puts.{puts}
use Rattle.tor_lane.proofs.Takes.{takes}
use Rattle.tor_lane.proofs.Takers.{begins as begins_so, makes as makes_so, learns as learns_so}

pub reached : (items : List Message) (views : List View) → IsReached items views → Keeps items views
reached items views (begins) = begins_so
reached items views (makes items' views' at v past here feeds) =
    makes_so at v feeds items' views' (reached items' views' past) here
reached items views (sends items' views' at v x past here can short) =
    let r = puts (2 * v.made) at v x can refl items' views' short (reached items' views' past) here in
    subst (λ w. Keeps (items' ++ x ∷ []) (set views' at w)) r.2.0 r.1
reached items views (receives items' views' at v x past here can) =
    let r = takes at v can x items' views' (reached (x ∷ items') views' past) here in
    subst (λ w. Keeps items' (set views' at w)) r.2.0 r.1
reached items views (learns items' views' at other v w past here there two takes') =
    learns_so at v other w takes' items' views' (reached items' views' past) here two
    (set_else views' at other (both v w) two ∙ there)
