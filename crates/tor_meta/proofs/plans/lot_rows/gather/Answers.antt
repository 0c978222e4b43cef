-- one text more
use Rattle.std.proofs.Common.{◌≡◌, ◌<◌, ◌⊎◌, ◌∙◌, ◌++◌, ◌∷◌, [], Vec, Global, ℕ, zero, suc, List, None, Option, Some, ap, arith, get_or, inl, inr, length, refl}
use Rattle.std.proofs.Common.{option_map, replicate, subst, sym}
use Rattle.std.proofs.lemmas.List.{get_or-map, length-map, length-replicate}
use Rattle.std.specs.Prelude.{IfSome}
use Rattle.tor_engine.specs.declared.lot.PieceRow.{PieceRow}
use Rattle.tor_meta.specs.Lots.{AreFirstLots, AreNotAll, HasLotPieces, IsCount, IsTextFault, row_at}
use Rattle.tor_meta.specs.declared.join_error.JoinError.{JoinError}
use Rattle.tor_meta.specs.declared.join_error.JoinError.TheVariants as join
use Rattle.tor_meta.specs.steps.Join.{AreSlots, IsGathered, row_in, texts_of}
use Rattle.tor_meta.proofs.JoinSteps.{as_many, one_more, pieces_more, set_long, slot_more}
use Rattle.tor_parts.specs.Dealing.{dealt}
use Rattle.tor_parts.specs.LotCounts.{HasOwnPieces}
use Rattle.tor_parts.specs.LotText.{LotFacts, facts_of}
use Rattle.tor_parts.specs.declared.lot_text.Lot.{Lot}
use Rattle.tor_plan.specs.PlanFacts.{PlanFacts}
use Rattle.tor_meta.proofs.plans.lot_rows.gather.Goals as goal

abbrev no_row : Option PieceRow
no_row = None

none_there : (n k : ℕ) → get_or (replicate n no_row) k no_row ≡ no_row
none_there zero k = refl
none_there (suc n) zero = refl
none_there (suc n) (suc k) = none_there n k

own_of : (plan : PlanFacts) (count : ℕ) (lot : Lot) → lot.lots ≡ count → HasLotPieces plan (facts_of lot)
    → HasOwnPieces plan (dealt count lot.number plan.units) lot.row
own_of plan count lot counted pieces =
    let same : HasOwnPieces plan (dealt lot.lots lot.number plan.units) lot.row =
    record { hashes = pieces.hashes; sums = pieces.sums } in
    subst (λ (n : ℕ). HasOwnPieces plan (dealt n lot.number plan.units) lot.row) counted same

pub texts-init : goal.texts-init
unfolding row_at
texts-init c =
    let count = c.args.count in
    subst (λ (slots : List (Option PieceRow)).
    IsGathered c.args.plan.now c.args.digest.now count 0 (texts_of c.args.texts.now) slots) (sym c.in_ok-slots.ensures)
    (record {
      lots = [];
      are = record { told = refl; lawful = tt; next = λ k d below. absurd (omega (arith, below)) };
      slotted = λ k below. ap (option_map row_in) (none_there count k);
      pieces = λ k below.
          subst (λ (o : Option PieceRow). IfSome o (HasOwnPieces c.args.plan.now (dealt count k c.args.plan.now.units)))
          (sym (none_there count k)) tt;
      long = length-replicate count None;
    })

not_all : (plan : PlanFacts) (digest : List ℕ) (count : ℕ) (texts : List (List ℕ)) (lots : List LotFacts)
    (text : List ℕ) (error : JoinError) → IsCount texts count → length lots < length texts
    → AreFirstLots plan digest count (length lots) texts lots → get_or texts (length lots) [] ≡ text
    → (error ≡ join.Memory) ⊎ IsTextFault plan digest count lots text error → AreNotAll plan digest texts error
not_all plan digest count texts lots text error is there are same (inl memory) =
    subst (λ (e : JoinError). AreNotAll plan digest texts e) (sym memory) tt
not_all plan digest count texts lots text error is there are same (inr fault) =
    by_error error (subst (λ (one : List ℕ). IsTextFault plan digest count lots one error) (sym same) fault)
  where
    by_error : (e : JoinError) → IsTextFault plan digest count lots (get_or texts (length lots) []) e
        → AreNotAll plan digest texts e
    by_error (join.NoPart word) fault = (count, lots, is, there, are, fault)
    by_error (join.OtherPlan word) fault = (count, lots, is, there, are, fault)
    by_error (join.OtherParts word) fault = (count, lots, is, there, are, fault)
    by_error (join.Twice word) fault = (count, lots, is, there, are, fault)
    by_error (join.Length word) fault = (count, lots, is, there, are, fault)
    by_error (join.Missing numbers) fault = absurd fault
    by_error (join.Plan error) fault = absurd fault
    by_error join.Memory fault = tt

text_is : (texts : List (Vec ℕ Global)) (k : ℕ) (text : Vec ℕ Global) (bytes : List ℕ) → k < length texts
    → text ≡ get_or texts k text → bytes ≡ text.items → get_or (texts_of texts) k [] ≡ bytes
text_is texts k text bytes there is same =
    get_or-map (λ (v : Vec ℕ Global). v.items) texts k text [] there ∙ ap (λ (v : Vec ℕ Global). v.items) (sym is)
    ∙ sym same

pub index_mut-requires : goal.index_mut-requires
index_mut-requires c =
    let have = c.texts.invariant in
    let slotted = subst (λ (slots : List (Option PieceRow)). AreSlots slots have.lots) (sym c.deref.ensures.value)
    have.slotted in
    let next = c.in-Ok.ensures.next have.lots slotted in
    let is = c.in-Ok.ensures.is in
    omega (arith, is.1.number, next.counted, have.long, c.texts.slots.ok.0)

pub returns-in-Err-clause-refused : goal.returns-in-Err-clause-refused
returns-in-Err-clause-refused c =
    let have = c.texts.invariant in
    let plan = c.args.plan.now in
    let digest = c.args.digest.now in
    let texts = texts_of c.args.texts.now in
    let many : length texts ≡ length c.args.texts.now = length-map c.args.texts.now (λ (v : Vec ℕ Global). v.items) in
    let slotted = subst (λ (slots : List (Option PieceRow)). AreSlots slots have.lots) (sym c.deref.ensures.value)
    have.slotted in
    let long = as_many plan digest c.args.count texts c.texts.word have.lots (omega (arith, many, c.texts-test.true)) have.are in
    let text = text_is c.args.texts.now c.texts.word c.index-texts-word.result c.deref-in-texts.result.now
    c.texts-test.true c.index-texts-word.is c.deref-in-texts.ensures.value in
    not_all plan digest c.args.count texts have.lots c.deref-in-texts.result.now c.in-Err.error c.requires.is_count
    (omega (arith, long, many, c.texts-test.true))
    (subst (λ (n : ℕ). AreFirstLots plan digest c.args.count n texts have.lots) (sym long) have.are)
    (ap (λ k. get_or texts k []) long ∙ text) (c.in-Err.ensures.refused have.lots slotted long)

pub texts-preserved : goal.texts-preserved
texts-preserved c =
    let have = c.texts.invariant in
    let plan = c.args.plan.now in
    let digest = c.args.digest.now in
    let count = c.args.count in
    let texts = texts_of c.args.texts.now in
    let lot = c.in-Ok.lot in
    let many : length texts ≡ length c.args.texts.now = length-map c.args.texts.now (λ (v : Vec ℕ Global). v.items) in
    let slotted = subst (λ (slots : List (Option PieceRow)). AreSlots slots have.lots) (sym c.deref.ensures.value)
    have.slotted in
    let next = c.in-Ok.ensures.next have.lots slotted in
    let is = c.in-Ok.ensures.is in
    let text = text_is c.args.texts.now c.texts.word c.index-texts-word.result c.deref-in-texts.result.now
    c.texts-test.true c.index-texts-word.is c.deref-in-texts.ensures.value in
    let there : lot.number < length c.texts.slots.items = omega (arith, is.1.number, next.counted, have.long) in
    record {
      lots = have.lots ++ facts_of lot ∷ [];
      are = one_more plan digest count texts c.texts.word have.lots (facts_of lot) (omega (arith, many, c.texts-test.true))
          have.are (text ∙ is.0) is.1 next;
      slotted = slot_more c.texts.slots.items have.lots (facts_of lot) lot.row there have.slotted next.fresh refl;
      pieces = pieces_more plan count c.texts.slots.items lot.number lot.row there have.pieces
          (own_of plan count lot next.counted next.pieces);
      long = set_long c.texts.slots.items lot.number (Some lot.row) ∙ have.long;
    }
