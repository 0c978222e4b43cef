-- the plan is that of the listing
use Rattle.std.proofs.Common.{◌∙◌, ap, inl, refl, sym}
use Rattle.tor_meta.specs.PlanText.{PlanText, plan_bytes}
use Rattle.tor_meta.specs.Planned.{planned}
use Rattle.tor_tree.specs.FileList.{list_fault}
use Rattle.tor_engine.proofs.ProvedLaws.{stopped, stopped_by, stopped_match}
use Rattle.tor_meta.proofs.plans.planned.make_plan.Goals as goal

pub returns-clause-planned : goal.returns-clause-planned
returns-clause-planned g c = λ facts steady.
    let listed = c.in-Ok.ensures.listed in record {
      entries = listed.entries;
      indexed = (listed.indexed, listed.lawful.in_order);
      planned = c.in_ok-bytes.ensures.written
          ∙ ap plan_bytes (listed.text ∙ ap (planned c.args.order.now c.args.files.now listed.entries)
          (sym (ap (λ (text : PlanText). text.list.files) listed.text) ∙ (listed.steady facts steady).0));
    }

pub returns-clause-told : goal.returns-clause-told
returns-clause-told g c =
    let listed = c.in-Ok.ensures.listed in record {
      entries = listed.entries;
      lengths = listed.lengths;
      indexed = (listed.indexed, listed.lawful.in_order);
      one_each = listed.one_each;
      are_told = listed.are_told;
      accepted = sym (ap (λ (text : PlanText). list_fault text.list.files) listed.text) ∙ listed.faultless;
      planned = c.in_ok-bytes.ensures.written ∙ ap plan_bytes listed.text;
    }

-- where there is no memory for the plan
pub returns-in_err-bytes : goal.returns-in_err-bytes
returns-in_err-bytes g c =
    let r = c.from_residual.result in
    let is = c.from_residual.ensures.1 in record {
      planned = λ facts steady. stopped _ _ r is;
      told = stopped _ _ r is;
      fault = λ facts steady. stopped_match _ _ _ r is (inl refl);
      accepted = stopped _ _ r is;
      refused = λ refusal first. stopped_by _ _ r is (inl refl);
      only = stopped_by _ _ r is tt;
      gave = stopped_by _ _ r is tt;
      lengths = stopped_by _ _ r is tt;
    }
