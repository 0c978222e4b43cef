-- the bytes of a plan are read as that plan
use Rattle.std.proofs.Common.{◌≡◌, ℕ, true, List, [], ◌∷◌, Option, None, Some, append-nil, ap, ap₂, refl, sym, ◌∙◌}
use Rattle.std.proofs.lemmas.Bool.{eq-eqb}
use Rattle.std.proofs.lemmas.List.Elements.{recursion_from_All}
use Rattle.std.specs.Cmp.Lexicographic.{pointwise}
use Rattle.std.specs.Prelude.{IsSomeAnd, nat_eq}
use Rattle.tor_bencode.specs.Data.{Data}
use Rattle.tor_bencode.specs.Lawful.{IsLawful}
use Rattle.tor_bencode.specs.Spelling.{spelling}
use Rattle.tor_bencode.specs.RefView.{view}
use Rattle.tor_bencode.proofs.ProvedLaws.{no_spelling_begins_another}
use Rattle.tor_meta.specs.PlanText.{IsPlanText, PlanText, plan_bytes, plan_dictionary}
use Rattle.tor_meta.specs.declared.plans.plan_reading.PlanParts.{PlanParts}
use Rattle.tor_meta.specs.steps.PlanParts.{parts_text}
use Rattle.tor_meta.specs.steps.PlanText.{text_of}
use Rattle.tor_tree.specs.declared.attr.Attr.{Attr}
use Rattle.tor_meta.proofs.PlanLawful.{plan_is_lawful}
use Rattle.tor_meta.proofs.plans.plan_reading.read_plan_parts.Goals as goal

lawful : (text : PlanText) → IsPlanText text → IsLawful (plan_dictionary text)
lawful text is =
    plan_is_lawful text is.piece_length is.span (recursion_from_All _ text.list.files is.small)

spelled : (text : PlanText) → plan_bytes text ≡ spelling (plan_dictionary text)
unfolding plan_bytes
spelled text = refl

same_tree : (bytes : List ℕ) (d : Data) (text : PlanText) → IsLawful d → bytes ≡ spelling d → IsPlanText text
    → bytes ≡ plan_bytes text → d ≡ plan_dictionary text
same_tree bytes d text is told one same =
    (no_spelling_begins_another d (plan_dictionary text) [] [] is (lawful text one)
    (append-nil (spelling d) ∙ sym told ∙ same ∙ spelled text ∙ sym (append-nil (spelling (plan_dictionary text))))).0

-- one that is there
the_one : (o : Option PlanParts) (text : PlanText) (parts : PlanParts) → o ≡ Some parts
    → IsSomeAnd o (λ one. parts_text one ≡ text) → parts_text parts ≡ text
the_one None text parts is found = absurd found
the_one (Some one) text parts is found = let same : one ≡ parts = cc in ap parts_text (sym same) ∙ found

no_one : (o : Option PlanParts) (text : PlanText) → ((x : PlanParts) → o ≡ Some x → ⊥)
    → IsSomeAnd o (λ one. parts_text one ≡ text) → ⊥
no_one None text none found = found
no_one (Some x) text none found = none x refl

all_same : (xs : List ℕ) → pointwise nat_eq xs xs ≡ true
all_same [] = refl
all_same (x ∷ xs) = rw (eq-eqb x x refl) (all_same xs)

pub returns-in-Err-Refused-clause-all : goal.returns-in-Err-Refused-clause-all
returns-in-Err-Refused-clause-all c = λ text is same.
    let only = c.in-Err-Refused.ensures.only (plan_dictionary text) (lawful text is) (same ∙ spelled text) in
    let no = sym c.in-Err-Refused.field-0-is ∙ only in
    cc

pub returns-in_default-clause-all : goal.returns-in_default-clause-all
returns-in_default-clause-all c = λ text is same.
    let item = c.in-Ok.ensures.item in
    let here = same_tree c.args.bytes.now (view c.in-Ok.item) text item.0 item.1 is same in
    no_one c.in_ok-parts.field-0 text c.in_default.not-Some (c.in_ok-parts.ensures.all text is here)

pub returns-then-eq-clause-all : goal.returns-then-eq-clause-all
returns-then-eq-clause-all c = λ text is same.
    let item = c.in-Ok.ensures.item in
    let here = same_tree c.args.bytes.now (view c.in-Ok.item) text item.0 item.1 is same in
    the_one c.in_ok-parts.field-0 text c.in-Some.parts c.in-Some.is (c.in_ok-parts.ensures.all text is here)

pub returns-clause-all : goal.returns-clause-all
returns-clause-all c = λ text is same.
    let item = c.in-Ok.ensures.item in
    let here = same_tree c.args.bytes.now (view c.in-Ok.item) text item.0 item.1 is same in
    let parts = the_one c.in_ok-parts.field-0 text c.in-Some.parts c.in-Some.is (c.in_ok-parts.ensures.all text is here) in
    let again : c.as_slice.result.now ≡ c.args.bytes.now =
    c.as_slice.ensures.value ∙ c.in_ok-again.ensures
    ∙ ap₂ (λ (files : List (List (List ℕ) × ℕ)) (attrs : List Attr).
    plan_bytes (text_of c.in-Some.parts.head c.in-Some.parts.span files attrs)) c.deref.ensures.value
    c.deref-2.ensures.value
    ∙ ap plan_bytes parts ∙ sym same in
    let no = c.if-eq.ensures ∙ ap (λ xs. pointwise nat_eq xs c.args.bytes.now) again ∙ all_same c.args.bytes.now in
    cc
