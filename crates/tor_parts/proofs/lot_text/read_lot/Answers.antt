-- the bytes of a lot are read as that lot
use Rattle.std.proofs.Common.{◌≡◌, ℕ, true, List, [], ◌∷◌, Option, None, Some, append-nil, ap, arith, refl, sym, ◌∙◌}
use Rattle.std.proofs.lemmas.Bool.{eq-eqb}
use Rattle.std.specs.Cmp.Lexicographic.{pointwise}
use Rattle.std.specs.Prelude.{IsSomeAnd, nat_eq}
use Rattle.tor_bencode.specs.Data.{Data}
use Rattle.tor_bencode.specs.Lawful.{IsLawful}
use Rattle.tor_bencode.specs.Spelling.{spelling}
use Rattle.tor_bencode.specs.View.{view}
use Rattle.tor_bencode.proofs.ProvedLaws.{no_spelling_begins_another}
use Rattle.tor_parts.specs.declared.lot_text.TheConstants.{MAX_LOTS}
use Rattle.tor_parts.specs.LotText.{IsLot, LotFacts, facts_of, lot_bytes, lot_dictionary}
use Rattle.tor_parts.specs.declared.lot_text.Lot.{Lot}
use Rattle.tor_parts.proofs.LotLawful.{lot_is_lawful}
use Rattle.tor_parts.proofs.lot_text.read_lot.Goals as goal

lawful : (facts : LotFacts) → IsLot facts → IsLawful (lot_dictionary facts)
lawful facts is =
    let most : MAX_LOTS ≡ 65536 = refl in
    lot_is_lawful facts (omega (arith, is.number, is.lots, most)) (omega (arith, is.lots, most))

same_tree : (bytes : List ℕ) (d : Data) (facts : LotFacts) → IsLawful d → bytes ≡ spelling d → IsLot facts
    → bytes ≡ lot_bytes facts → d ≡ lot_dictionary facts
same_tree bytes d facts is spelled lot same =
    (no_spelling_begins_another d (lot_dictionary facts) [] [] is (lawful facts lot)
    (append-nil (spelling d) ∙ sym spelled ∙ same ∙ sym (append-nil (lot_bytes facts)))).0

-- one that is there
the_one : (o : Option Lot) (facts : LotFacts) (lot : Lot) → o ≡ Some lot
    → IsSomeAnd o (λ one. facts_of one ≡ facts) → facts_of lot ≡ facts
the_one None facts lot is found = absurd found
the_one (Some one) facts lot is found = let same : one ≡ lot = cc in ap facts_of (sym same) ∙ found

no_one : (o : Option Lot) (facts : LotFacts) → ((x : Lot) → o ≡ Some x → ⊥)
    → IsSomeAnd o (λ one. facts_of one ≡ facts) → ⊥
no_one None facts none found = found
no_one (Some x) facts none found = none x refl

all_same : (xs : List ℕ) → pointwise nat_eq xs xs ≡ true
all_same [] = refl
all_same (x ∷ xs) = rw (eq-eqb x x refl) (all_same xs)

pub returns-in-Err-Refused-clause-all : goal.returns-in-Err-Refused-clause-all
returns-in-Err-Refused-clause-all c = λ facts is same.
    let only = c.in-Err-Refused.ensures.only (lot_dictionary facts) (lawful facts is) same in
    let no = sym c.in-Err-Refused.field-0-is ∙ only in
    cc

pub returns-in_default-clause-all : goal.returns-in_default-clause-all
returns-in_default-clause-all c = λ facts is same.
    let tree = c.in-Ok.ensures.tree in
    let here = same_tree c.args.bytes.now (view c.in-Ok.tree) facts tree.0 tree.1 is same in
    let found = c.in_ok-lot.ensures.all facts is (ap view c.item.ensures.same ∙ here) in
    no_one c.in_ok-lot.field-0 facts c.in_default.not-Some found

pub returns-then-eq-clause-all : goal.returns-then-eq-clause-all
returns-then-eq-clause-all c = λ facts is same.
    let tree = c.in-Ok.ensures.tree in
    let here = same_tree c.args.bytes.now (view c.in-Ok.tree) facts tree.0 tree.1 is same in
    let found = c.in_ok-lot.ensures.all facts is (ap view c.item.ensures.same ∙ here) in
    the_one c.in_ok-lot.field-0 facts c.in-Some.lot c.in-Some.is found

pub returns-clause-all : goal.returns-clause-all
returns-clause-all c = λ facts is same.
    let tree = c.in-Ok.ensures.tree in
    let here = same_tree c.args.bytes.now (view c.in-Ok.tree) facts tree.0 tree.1 is same in
    let found = c.in_ok-lot.ensures.all facts is (ap view c.item.ensures.same ∙ here) in
    let lot = the_one c.in_ok-lot.field-0 facts c.in-Some.lot c.in-Some.is found in
    let again : c.as_slice.result.now ≡ c.args.bytes.now =
    c.as_slice.ensures.value ∙ c.in_ok-again.ensures.written ∙ ap lot_bytes lot ∙ sym same in
    let no = c.if-eq.ensures ∙ ap (λ xs. pointwise nat_eq xs c.args.bytes.now) again ∙ all_same c.args.bytes.now in
    cc
