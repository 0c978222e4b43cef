-- a piece that is not there, one of padding, and one that is read
use Rattle.std.proofs.Common.{ℕ, List, Option, [], length, ap, append-nil, cond, refl, subst, sym}
use Rattle.std.proofs.Common.{◌∙◌, None, Some, inl, inr}
use Rattle.tor_sums.specs.Contents.{contents_in}
use Rattle.tor_sums.specs.Fault.{unit_fault}
use Rattle.tor_tree.specs.Kinds.{has_v1}
use Rattle.tor_v1.specs.Piece.{piece_sums}
use Rattle.tor_sums.specs.steps.Given.{lengths_of_sizes}
use Rattle.tor_sums.specs.steps.Owing.{Owes}
use Rattle.tor_engine.specs.PieceHashes.{piece_hash}
use Rattle.tor_engine.specs.There.{is_within}
use Rattle.tor_engine.specs.steps.Pieces.{IsPaddingSum}
use Rattle.tor_engine.proofs.OnePiece.{fault_there, long_if, padding_fault, padding_hash}
use Rattle.tor_engine.proofs.PartsInside.{source_has_unit, unit_in_told}
use Rattle.tor_engine.proofs.ToldContents.{within_is_there}
use Rattle.tor_engine.proofs.pieces.piece_work.find_piece.Goals as goal

pub returns-then-not-is_there-clause-owing : goal.returns-then-not-is_there-clause-owing
returns-then-not-is_there-clause-owing g c = λ owed owes.
    let plan = c.args.plan.now in
    let piece = c.args.piece.now in
    let away = ap (λ xs. is_within xs piece) (sym c.deref.ensures.value) ∙ sym c.is_there.ensures
    ∙ c.if-not-is_there.true in (
      [],
      record {
        steady = λ facts steady told.
            let contents = contents_in facts (length plan.lengths) in
            sym (ap (λ b. cond b (Some (piece_hash plan contents piece)) None)
            (sym (within_is_there c.args.known.now.lengths.items contents told piece) ∙ away));
        there = sym away;
        long = refl;
      },
      subst (λ (all : List ℕ). Owes plan all c.args.worker.now) (sym (append-nil owed)) owes,
    )

pub returns-then-not-is_there-clause-fault : goal.returns-then-not-is_there-clause-fault
returns-then-not-is_there-clause-fault g c = λ facts steady told.
    let piece = c.args.piece.now in
    let contents = contents_in facts (length c.args.plan.now.lengths) in
    let away = ap (λ xs. is_within xs piece) (sym c.deref.ensures.value) ∙ sym c.is_there.ensures
    ∙ c.if-not-is_there.true in
    ap (λ b. cond b (unit_fault facts piece) None)
    (sym (within_is_there c.args.known.now.lengths.items contents told piece) ∙ away)

pub returns-in-Some-clause-owing : goal.returns-in-Some-clause-owing
returns-in-Some-clause-owing g c = λ owed owes.
    let plan = c.args.plan.now in
    let piece = c.args.piece.now in
    let padding = c.is_padding.ensures.0 c.if-is_padding.true in
    let known = subst (λ (sum : Option (List ℕ)). IsPaddingSum plan sum) c.in-Some.is c.requires.padding in
    let within = ap (λ xs. is_within xs piece) (sym c.deref.ensures.value) ∙ sym c.is_there.ensures
    ∙ c.if-not-is_there.false in (
      [],
      record {
        steady = λ facts steady told. padding_hash plan (contents_in facts (length plan.lengths)) piece c.in-Some.sum
            (padding.0 ∙ c.piece_length.ensures) padding.1 known.0 known.1;
        there = sym within;
        long = refl;
      },
      subst (λ (all : List ℕ). Owes plan all c.args.worker.now) (sym (append-nil owed)) owes,
    )

pub returns-in-Some-clause-fault : goal.returns-in-Some-clause-fault
returns-in-Some-clause-fault g c = λ facts steady told.
    padding_fault facts (contents_in facts (length c.args.plan.now.lengths)) c.args.piece.now
    (c.is_padding.ensures.0 c.if-is_padding.true).1

pub returns-in-Ok-clause-owing : goal.returns-in-Ok-clause-owing
returns-in-Ok-clause-owing g c = λ owed owes.
    let plan = c.args.plan.now in
    let piece = c.args.piece.now in
    let within = ap (λ xs. is_within xs piece) (sym c.deref.ensures.value) ∙ sym c.is_there.ensures
    ∙ c.if-not-is_there.false in
    let read = c.in-Ok.ensures.owing owed owes in
    let took = read.1 in (
      read.0,
      record {
        steady = λ facts steady told.
            let contents = contents_in facts (length plan.lengths) in
            let there = sym (within_is_there c.args.known.now.lengths.items contents told piece) ∙ within in
            let have = took.are.steady facts steady (source_has_unit facts plan piece c.requires.piece.unit.parts there) in
            c.piece_of_tree.ensures.hashes contents read.0 there (took.trees contents have)
            (took.is_own ∙ ap (λ xs. cond (has_v1 plan.kind) (piece_sums plan.piece_length xs) [])
            (sym (took.same contents have)))
            ∙ sym (ap (λ b. cond b (Some (piece_hash plan contents piece)) None) there);
        there = c.piece_of_tree.ensures.there ∙ sym within;
        long = c.piece_of_tree.ensures.owed
            ∙ long_if c.length_of_sums.ensures plan piece c.requires.piece took.joined took.long (has_v1 plan.kind)
            ∙ sym (ap length took.is_own);
      },
      read.2,
    )

pub returns-in-Ok-clause-fault : goal.returns-in-Ok-clause-fault
returns-in-Ok-clause-fault g c = λ facts steady told.
    let plan = c.args.plan.now in
    let piece = c.args.piece.now in
    let contents = contents_in facts (length plan.lengths) in
    let there = sym (within_is_there c.args.known.now.lengths.items contents told piece)
    ∙ ap (λ xs. is_within xs piece) (sym c.deref.ensures.value) ∙ sym c.is_there.ensures ∙ c.if-not-is_there.false in
    sym (fault_there facts contents piece there)
    ∙ c.in-Ok.ensures.fault facts steady (source_has_unit facts plan piece c.requires.piece.unit.parts there)

pub returns-in-Err-clause-fault : goal.returns-in-Err-clause-fault
returns-in-Err-clause-fault g c = λ facts steady told.
    let plan = c.args.plan.now in
    let piece = c.args.piece.now in
    let contents = contents_in facts (length plan.lengths) in
    let there = sym (within_is_there c.args.known.now.lengths.items contents told piece)
    ∙ ap (λ xs. is_within xs piece) (sym c.deref.ensures.value) ∙ sym c.is_there.ensures ∙ c.if-not-is_there.false in
    elim (c.in-Err.ensures.fault facts steady (source_has_unit facts plan piece c.requires.piece.unit.parts there)) [
      | inl memory ↦ inl memory
      | inr fault ↦ inr (sym (fault_there facts contents piece there) ∙ fault)
    ]

pub returns-in-Err-clause-gave : goal.returns-in-Err-clause-gave
returns-in-Err-clause-gave g c =
    let sizes = c.args.known.now.lengths.items in
    let piece = c.args.piece.now in
    c.in-Err.ensures.gave (lengths_of_sizes sizes)
    (unit_in_told sizes c.args.plan.now.lengths piece c.requires.piece.unit.parts
    (ap (λ xs. is_within xs piece) (sym c.deref.ensures.value) ∙ sym c.is_there.ensures ∙ c.if-not-is_there.false))

pub returns-in-Err-clause-there : goal.returns-in-Err-clause-there
returns-in-Err-clause-there g c =
    ap (λ xs. is_within xs c.args.piece.now) (sym c.deref.ensures.value) ∙ sym c.is_there.ensures
    ∙ c.if-not-is_there.false
