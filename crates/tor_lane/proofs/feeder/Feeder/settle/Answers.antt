use Rattle.std.proofs.Common.{◌≡◌, false, ◌∷◌, [], length, refl, sym, ap, subst, ◌∙◌, append_assoc, append-nil, arith}
use Rattle.std.proofs.Common.{rules, vec_len, IsPermutation}
use Rattle.std.specs.List.{flat_map}
use Rattle.std.specs.Vec.Iter.{into_iter_items}
use Rattle.std.proofs.lemmas.List.{nil_from_length}
use Rattle.std.proofs.lemmas.List.Elements.{All-head, All-rest, All-same}
use Rattle.crossbeam_channel.specs.Claims.{view}
use Rattle.tor_lane.specs.declared.taker.Taker.{Taker}
use Rattle.tor_lane.specs.declared.view.View.{View}
use Rattle.tor_lane.specs.Lane.{IsAtMark, IsTakerOf, put_by, taken_by}
use Rattle.tor_lane.specs.Views.{both}
use Rattle.tor_lane.proofs.Absorbed.{absorbed, knowing, knows_none}
use Rattle.tor_lane.proofs.Settled.{settled, settles}
use Rattle.tor_lane.proofs.Takers.{learns}
use Rattle.tor_lane.proofs.feeder.Feeder.settle.Goals as goal

pub absorb-requires-clause-rule : goal.absorb-requires-clause-rule
absorb-requires-clause-rule c =
    let takes : (view c.into_pass.result).feeds ≡ false = rw c.into_pass.ensures c.in-Some.taker.taking.0 in
    learns _ _ _ _ takes

pub takers-init : goal.takers-init
takers-init c = (search rules, search rules, search rules, refl, search rules, knows_none _ _ c.args.self.feeding)

pub takers-preserved : goal.takers-preserved
takers-preserved c =
    let at = c.takers in
    let t = c.in-Some.taker in
    let f : View = view c.args.self.pass in
    let Ready : Taker → Type 0 = λ u. IsTakerOf c.args.self u × IsAtMark u in
    let steps : into_iter_items at.taker-iterator ≡ t ∷ into_iter_items c.next.new.self = c.in-Some.ensures.steps.0 in
    let ready : Ready t =
    All-head Ready t (into_iter_items c.next.new.self) (All-same Ready _ _ (sym steps) at.invariant.2) in (
      append_assoc at.yielded (t ∷ []) _ ∙ rw (← steps) at.invariant.0,
      (
          let was = at.invariant.1 in
          let gone = c.in-Some.ensures.steps.1 in
          let short = ap length steps in
          omega arith),
      All-rest Ready t _ _ steps at.invariant.2,
      refl,
      c.absorb.ensures.channel.0,
      c.absorb.ensures.rule ∙ ap (λ v. both v (view c.into_pass.result)) at.invariant.5
          ∙ ap (λ p. both (knowing f at.yielded) (view p)) c.into_pass.ensures ∙ absorbed f at.yielded t ready.1,
    )

pub learn_as-requires-clause-rule : goal.learn_as-requires-clause-rule
learn_as-requires-clause-rule c =
    let at = c.takers in
    let none = c.in-None.ensures.steps in
    let empty : into_iter_items at.taker-iterator ≡ [] = nil_from_length _ (sym at.invariant.1 ∙ none.0) in
    let all : at.yielded ≡ c.args.takers.items = sym (append-nil at.yielded) ∙ rw empty at at.invariant.0 in
    let many : length at.yielded ≡ vec_len c.args.takers = ap length all ∙ sym c.args.takers.ok.0 in
    let takers : (view at.pass).takers ≡ length at.yielded = ap (λ v. v.takers) at.invariant.5 in
    let made : (view at.pass).made ≡ (view c.args.self.pass).made = ap (λ v. v.made) at.invariant.5 in
    settles _ _ (ap (λ v. v.feeds) at.invariant.5 ∙ c.args.self.feeding.0)
    (omega (arith, c.requires.all, c.args.self.feeding.1))

pub returns : goal.returns
returns c =
    let at = c.takers in
    let none = c.in-None.ensures.steps in
    let empty : into_iter_items at.taker-iterator ≡ [] = nil_from_length _ (sym at.invariant.1 ∙ none.0) in
    let all : at.yielded ≡ c.args.takers.items = sym (append-nil at.yielded) ∙ rw empty at at.invariant.0 in
    let many : length at.yielded ≡ vec_len c.args.takers = ap length all ∙ sym c.args.takers.ok.0 in
    let marks : (view at.pass).marks ≡ length at.yielded = ap (λ v. v.marks) at.invariant.5 in
    let ended : (view at.pass).ended ≡ c.args.self.workers = ap (λ v. v.ended) at.invariant.5 ∙ c.requires.ended in
    let same : IsPermutation (view at.pass).put (view at.pass).taken =
    settled (view at.pass) c.learn_as.ensures.rule.0 c.learn_as.ensures.rule.1
    (omega (arith, c.args.self.some)) (omega (arith, c.requires.all)) in
    subst (λ y. IsPermutation (put_by c.args.self) (flat_map taken_by y)) all
    (rw (ap (λ v. v.put) at.invariant.5) at rw (ap (λ v. v.taken) at.invariant.5) at same)
