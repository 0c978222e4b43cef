use Rattle.std.proofs.Common.{◌≡◌, ◌∙◌, ◌++◌, ◌≤◌, arith, subst, sym, length, false}
use Rattle.std.proofs.Math.Utf8.{encode}
use Rattle.tor_explain.specs.Plain.{IsPlainText, is_control}
use Rattle.tor_explain.proofs.PlainTexts.{of_ok, one_more, said_one}
use Rattle.tor_explain.proofs.line.Line.add.Goals as goal

-- there is room for one more character
added : (c : goal.After-try_push) → c.try_push.new.self.bytes ≡ c.self.inside.text.bytes ++ encode c.args.c
added c =
    of_ok c.try_push.result _ (c.try_push.ensures.variant.1 (omega (
      arith,
      c.len.ensures.value,
      c.if-len.false,
      c.try_push.ensures.char_len,
    ))) c.try_push.ensures.ok

pub invariant_of-self : goal.invariant_of-self
invariant_of-self c =
    let text = c.self.inside.text.bytes in
    let plain : is_control c.args.c ≡ false = sym c.is_control.ensures ∙ c.if-is_control.false in
    let room : length text ≤ 1020 = omega (arith, c.len.ensures.value, c.if-len.false) in
    subst (λ written. IsPlainText written) (sym (added c))
    (one_more text c.args.c c.self.invariant plain room c.try_push.ensures.char_len)

pub returns-clause-said : goal.returns-clause-said
returns-clause-said c _ = said_one c.self.inside.text.bytes c.try_push.new.self.bytes c.args.c (added c)
