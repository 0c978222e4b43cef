use Rattle.std.proofs.Common.{◌∙◌, refl}
use Rattle.tor_meta.proofs.Pushed.{field_absent, field_there}
use Rattle.tor_meta.proofs.fields.items.push_field.Goals as goal

pub returns-in_default : goal.returns-in_default
returns-in_default c = λ fields so_far. rw (c.in_default.is, field_absent fields c.args.key.now) so_far

pub returns : goal.returns
returns c = λ fields so_far.
    rw (c.in_ok-push.ensures.items, c.in-Some.is)
    (field_there fields c.args.key.now c.in-Some.value c.args.pairs.now.items (c.in_ok-key.key, c.in-Some.value)
    so_far (c.in_ok-key.ensures.items ∙ c.as_bytes.ensures.value) refl)
