-- One more character, and the text's end.
use Rattle.std.proofs.Common.{◌≡◌, ℕ, List, [], ◌∷◌, ◌++◌, sym, ap, ◌∙◌}
use Rattle.std.proofs.lemmas.Grind.{flat_map-append}
use Rattle.std.proofs.lemmas.Iterator.{YieldsList-from_chars}
use Rattle.std.proofs.lemmas.Iterator.Consumers.{YieldsList-end}
use Rattle.std.proofs.lemmas.List.{append-nil, map-id}
use Rattle.std.proofs.lemmas.Str.{encodes-append, encodes-chars}
use Rattle.std.proofs.Math.Utf8.{encode}
use Rattle.std.specs.Str.{encode_utf8_all}
use Rattle.tor_report.specs.Escape.{escape, escaped}
use Rattle.tor_cli.proofs.text.escape.escaped.Goals as goal

one_more : (cs : List ℕ) (c : ℕ)
    → escaped (encode_utf8_all (cs ++ c ∷ [])) ≡ escaped (encode_utf8_all cs) ++ escaped (encode c)
one_more cs c =
    ap (λ (bytes : List ℕ). escaped bytes) (encodes-append cs (c ∷ [])
    ∙ ap (λ (bytes : List ℕ). encode_utf8_all cs ++ bytes) (append-nil (encode c)))
    ∙ flat_map-append escape (encode_utf8_all cs) (encode c)

pub loop-c-preserved : goal.loop-c-preserved
loop-c-preserved c =
    c.in_ok-push_escaped.ensures
    ∙ ap (λ (bytes : List ℕ). bytes ++ escaped (encode c.in-Some.c)) c.loop-c.invariant
    ∙ sym (one_more c.loop-c.yielded c.in-Some.c)

pub returns : goal.returns
returns c =
    let text = c.args.text.now in
    let ended =
    YieldsList-end (YieldsList-from_chars text c.utf8.text cc) c.loop-c.yielded _ c.loop-c.yielded_by _ _
    c.in-None.is c.next.ensures.steps in
    let all : encode_utf8_all c.loop-c.yielded ≡ text =
    ap (λ (cs : List ℕ). encode_utf8_all cs) (sym (map-id c.loop-c.yielded) ∙ ended.0)
    ∙ encodes-chars text c.utf8.text in
    c.loop-c.invariant ∙ ap (λ (bytes : List ℕ). escaped bytes) all
