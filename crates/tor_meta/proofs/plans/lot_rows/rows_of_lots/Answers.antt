-- all lots, or the first that is not one, or those that are missing
use Rattle.std.proofs.Common.{◌≡◌, ◌≢◌, ◌<◌, ◌∙◌, ◌+◌, [], ℕ, List, Option, Some, Vec, Global, ap, arith, get_or, inl}
use Rattle.std.proofs.Common.{inr, length, option_map, refl, subst, sym, vec_len}
use Rattle.std.proofs.lemmas.Bool.{eq-eqb, eqb-true}
use Rattle.std.proofs.lemmas.List.{length-map, nil_from_length}
use Rattle.std.specs.Prelude.{IfSome}
use Rattle.tor_engine.specs.declared.lot.PieceRow.{PieceRow}
use Rattle.tor_meta.specs.Lots.{AreAllLots, AreFirstLots, AreNotAll, missing_of, row_at}
use Rattle.tor_meta.specs.declared.join_error.JoinError.{JoinError}
use Rattle.tor_meta.specs.declared.join_error.JoinError.TheVariants as join
use Rattle.tor_meta.specs.steps.Join.{AreSlots, empty_from, row_in, texts_of}
use Rattle.tor_meta.proofs.JoinSteps.{empty_is, none_empty}
use Rattle.tor_parts.specs.Dealing.{dealt}
use Rattle.tor_parts.specs.LotCounts.{HasOwnPieces}
use Rattle.tor_parts.specs.LotText.{IsLot, LotFacts, lot_bytes}
use Rattle.tor_plan.specs.PlanFacts.{PlanFacts}
use Rattle.tor_meta.proofs.plans.lot_rows.rows_of_lots.Goals as goal

no_first : (plan : PlanFacts) (digest : List ℕ) (texts : List (List ℕ)) → 0 < length texts
    → ((lot : LotFacts) → IsLot lot → get_or texts 0 [] ≢ lot_bytes lot)
    → AreNotAll plan digest texts (join.NoPart 0)
no_first plan digest texts some none = (
  1,
  [],
  record {
    none = λ empty. absurd (omega (arith, some, ap length empty));
    first = λ lot is told there. absurd (none lot is told);
  },
  some,
  record { told = refl; lawful = tt; next = λ k d below. absurd (omega (arith, below)) },
  (refl, none),
)

pub returns-in-Err-clause-refused : goal.returns-in-Err-clause-refused
returns-in-Err-clause-refused c =
    let plan = c.args.plan.now in
    let digest = c.args.digest.now in
    let texts = texts_of c.args.texts.now in
    let many : length texts ≡ length c.args.texts.now = length-map c.args.texts.now (λ (v : Vec ℕ Global). v.items) in
    elim c.in-Err.ensures.refused [
      | inl memory ↦ subst (λ (e : JoinError). AreNotAll plan digest texts e) (sym memory) tt
      | inr none ↦
          subst (λ (e : JoinError). AreNotAll plan digest texts e) (sym none.0)
          (no_first plan digest texts (omega (arith, many, none.1)) none.2)
    ]

the_missing : (count : ℕ) (slots : List (Option PieceRow)) (lots : List LotFacts) → AreSlots slots lots
    → length slots ≡ count → empty_from 0 slots ≡ missing_of count lots
the_missing count slots lots slotted long =
    empty_is 0 slots lots (λ k below. slotted k below ∙ ap (λ n. row_at n lots) (let e : k ≡ 0 + k = omega arith in e))
    ∙ ap (λ n. missing_of n lots) long

pub returns-then-not-is_empty-clause-refused : goal.returns-then-not-is_empty-clause-refused
returns-then-not-is_empty-clause-refused c =
    let have = c.in-Ok-gather.ensures.gathered in
    let plan = c.args.plan.now in
    let digest = c.args.digest.now in
    let count = c.in-Ok.count in
    let texts = texts_of c.args.texts.now in
    let many : length texts ≡ length c.args.texts.now = length-map c.args.texts.now (λ (v : Vec ℕ Global). v.items) in
    let lots = c.in_ok-lots.lots in (
      count,
      have.lots,
      c.in-Ok.ensures.count,
      subst (λ (n : ℕ). AreFirstLots plan digest count n texts have.lots) (sym many) have.are,
      c.in_ok-lots.ensures ∙ ap (empty_from 0) c.deref-2.ensures.value
          ∙ the_missing count c.in-Ok-gather.slots.items have.lots have.slotted have.long,
      λ empty.
          let none : vec_len lots ≡ 0 = omega (arith, ap length empty, lots.ok.0) in
          let yes = eq-eqb (vec_len lots) 0 none in
          let no = c.if-not-is_empty.ensures in
          cc,
    )

pub returns-clause-rows : goal.returns-clause-rows
returns-clause-rows c =
    let have = c.in-Ok-gather.ensures.gathered in
    let plan = c.args.plan.now in
    let digest = c.args.digest.now in
    let count = c.in-Ok.count in
    let texts = texts_of c.args.texts.now in
    let slots = c.in-Ok-gather.slots.items in
    let rows = c.in_ok-rows.rows.items in
    let lots = c.in_ok-lots.lots in
    let many : length texts ≡ length c.args.texts.now = length-map c.args.texts.now (λ (v : Vec ℕ Global). v.items) in
    let empty : vec_len lots ≡ 0 = eqb-true (vec_len lots) 0 (sym c.if-not-is_empty.ensures) in
    let nil : lots.items ≡ [] = nil_from_length lots.items (omega (arith, empty, lots.ok.0)) in
    let none : empty_from 0 slots ≡ [] = sym (c.in_ok-lots.ensures ∙ ap (empty_from 0) c.deref-2.ensures.value) ∙ nil in
    let both = none_empty 0 slots none in
    let is = c.in_ok-rows.ensures in
    let long : length rows ≡ count = ap length is ∙ both.0 ∙ have.long in (
      have.lots,
      subst (λ (n : ℕ). AreAllLots plan digest texts n have.lots) (sym long)
          (record {
            is_count = c.in-Ok.ensures.count;
            are = subst (λ (n : ℕ). AreFirstLots plan digest count n texts have.lots) (sym many) have.are;
            there = sym (the_missing count slots have.lots have.slotted have.long) ∙ none;
          }),
      record {
        some = omega (arith, long, c.in-Ok.ensures.some.0);
        each = λ k d below.
            let there : k < length slots = omega (arith, below, long, have.long) in
            ap (λ (rs : List PieceRow). Some (row_in (get_or rs k d))) is
            ∙ sym (ap (option_map row_in) (both.1 k d there)) ∙ have.slotted k there;
        pieces = λ k d below.
            let there : k < length slots = omega (arith, below, long, have.long) in
            let own = subst (λ (o : Option PieceRow). IfSome o (HasOwnPieces plan (dealt count k plan.units)))
            (both.1 k d there) (have.pieces k there) in
            subst (λ (n : ℕ). HasOwnPieces plan (dealt n k plan.units) (get_or rows k d)) (sym long)
            (subst (λ (rs : List PieceRow). HasOwnPieces plan (dealt count k plan.units) (get_or rs k d)) (sym is) own);
      },
    )
