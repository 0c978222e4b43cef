-- the plan of a listing tells what it is
use Rattle.std.proofs.Common.{◌≡◌, None, length, map, subst, sym}
use Rattle.std.proofs.lemmas.Result.{IfErr-weaker}
use Rattle.std.specs.Prelude.{IfErr, IfOk, List, ℕ}
use Rattle.tor_merkle.specs.Layer.{pieces_root}
use Rattle.tor_meta.specs.Contents.{files_of}
use Rattle.tor_meta.specs.Listing.{listing_refusal, text_of_listing}
use Rattle.tor_meta.specs.Lots.{AreLotsOf, AreNotAll, IsJoinRefusal, plan_of_text}
use Rattle.tor_meta.specs.PlanText.{IsPlanText, PlanText, plan_bytes}
use Rattle.tor_meta.specs.declared.join_error.JoinError.{JoinError}
use Rattle.tor_meta.specs.declared.join_error.JoinError.TheVariants as joins
use Rattle.tor_meta.specs.steps.Join.{texts_of}
use Rattle.tor_spec.specs.Metainfo.{metainfo}
use Rattle.tor_tree.specs.FileList.{lengths_of}
use Rattle.tor_meta.proofs.plans.joined.join_lots.Goals as goal

pub returns-in-Ok-clause-made : goal.returns-in-Ok-clause-made
returns-in-Ok-clause-made c = λ text contents told same fit are.
    let texts = texts_of c.args.lots.now in
    let listing = c.in-Ok.plan.listing in
    let made = subst (λ (b : List ℕ). (contents : List (List ℕ)) → map length contents ≡ lengths_of listing.list.files
    → AreLotsOf (plan_of_text (text_of_listing listing)) (pieces_root b) contents texts
    → IfOk c.join_judged.result (λ bytes. bytes.items
    ≡ metainfo (text_of_listing listing).settings (files_of listing.list contents))) (sym c.in-Ok.ensures.read)
    c.join_judged.ensures.made in
    subst (λ (t : PlanText). map length contents ≡ lengths_of t.list.files
    → AreLotsOf (plan_of_text t) (pieces_root c.args.plan.now) contents texts
    → IfOk c.join_judged.result (λ bytes. bytes.items ≡ metainfo t.settings (files_of t.list contents)))
    (c.in-Ok.ensures.all text told same) (made contents) fit are

-- lots are refused of a plan of which a torrent is made
module _ (plan : List ℕ) (texts : List (List ℕ)) (text : PlanText) (told : IsPlanText text)
    (is : plan ≡ plan_bytes text) (accepted : listing_refusal text ≡ None) where
  not_joined : (error : JoinError) → AreNotAll (plan_of_text text) (pieces_root plan) texts error
      → IsJoinRefusal plan texts error
  not_joined (joins.Plan error) not = absurd not
  not_joined (joins.NoPart word) not = (text, told, is, accepted, not)
  not_joined (joins.OtherPlan word) not = (text, told, is, accepted, not)
  not_joined (joins.OtherParts word) not = (text, told, is, accepted, not)
  not_joined (joins.Twice word) not = (text, told, is, accepted, not)
  not_joined (joins.Length word) not = (text, told, is, accepted, not)
  not_joined (joins.Missing lots) not = (text, told, is, accepted, not)
  not_joined joins.Memory not = tt

pub returns-in-Ok-clause-refused : goal.returns-in-Ok-clause-refused
returns-in-Ok-clause-refused c =
    let plan = c.args.plan.now in
    let texts = texts_of c.args.lots.now in
    let read = c.in-Ok.ensures in
    let text = text_of_listing c.in-Ok.plan.listing in
    IfErr-weaker c.join_judged.result _ _ (not_joined plan texts text read.told read.read read.accepted)
    (subst (λ (bytes : List ℕ). IfErr c.join_judged.result (AreNotAll (plan_of_text text) (pieces_root bytes) texts))
    (sym read.read) c.join_judged.ensures.refused)
