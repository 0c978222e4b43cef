-- What the kit escapes is the text of a link.
use Rattle.std.proofs.Common.{◌++◌, ◌<◌, ◌∙◌, ap, arith}
use Rattle.std.specs.String.{string_bytes}
use Rattle.std.proofs.lemmas.List.Elements.{All-from_get_or}
use Rattle.std.proofs.lemmas.Result.{on_ok_weaker}
use Rattle.tor_spec.proofs.LinkTexts.{escaped_is_text}
use Rattle.tor_spec.proofs.link_words.push_text.Goals as goal

pub returns : goal.returns
returns c =
    let text = c.args.text.now in
    let small = All-from_get_or (λ byte. byte < 256) text 0 (λ i within. omega (arith, c.type_inv.text i)) in
    let same = c.percent_encode.ensures.text ∙ escaped_is_text text small in
    on_ok_weaker c.append_to.result (λ is. is ∙ ap (λ bytes. string_bytes c.args.link.now ++ bytes) same)
    c.append_to.ensures.ok
