-- a text that is no name decides, and so do all of them
use Rattle.tor_check.proofs.Names.{◌∙◌, inl, inr, ⊎_elim, is_name, refl, text_of, take_all}
use Rattle.tor_check.proofs.ListSteps.{all_more, mapped_more, not_all}
use Rattle.tor_check.proofs.listed.read_names.Goals as goal

pub returns-in-Err-clause-refused : goal.returns-in-Err-clause-refused
returns-in-Err-clause-refused c =
    ⊎_elim
    (λ other. inl (
      other.0,
      not_all is_name c.args.texts.now c.texts.text-index c.text-item.result c.texts-test.true
          (rw (← c.text-item.is) other.1),
    ))
    (λ memory. inr memory.0) c.in-Err.ensures.refused

pub texts-preserved : goal.texts-preserved
texts-preserved c = (
  c.in_ok-push-in-Ok.ensures.items ∙ mapped_more text_of c.args.texts.now c.texts.text-index c.text-item.result
      c.texts.names.items c.in-Ok.name c.texts-test.true c.texts.invariant.0
      (c.in-Ok.ensures.read ∙ rw (← c.text-item.is) refl),
  all_more is_name c.args.texts.now c.texts.text-index c.text-item.result c.texts-test.true c.texts.invariant.1
      (rw (← c.text-item.is) c.in-Ok.ensures.shaped),
)

pub returns-clause-read : goal.returns-clause-read
returns-clause-read c = rw (take_all c.texts.text-index c.args.texts.now c.texts-test.false) at c.texts.invariant.0

pub returns-clause-shaped : goal.returns-clause-shaped
returns-clause-shaped c = rw (take_all c.texts.text-index c.args.texts.now c.texts-test.false) at c.texts.invariant.1
