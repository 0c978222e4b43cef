-- what is answered of the units is answered of the plan that the bytes tell
use Rattle.std.proofs.Common.{◌≡◌, ◌∙◌, ◌*◌, ◌+◌, ◌/◌, ◌%◌, [], ◌∷◌, ℕ, Bool, true, false, cond, List, None, ap, arith, length, map}
use Rattle.std.proofs.Common.{refl, subst}
use Rattle.std.proofs.lemmas.List.{length-append}
use Rattle.tor_engine.specs.Rows.{AreSameAt, IsRowOf, sums_of_pieces}
use Rattle.tor_meta.specs.Listing.{text_of_listing}
use Rattle.tor_meta.specs.Lots.{plan_of_text}
use Rattle.tor_parts.specs.Dealing.{dealt}
use Rattle.tor_parts.specs.OwnFiles.{HasToldOf, IsGivenOwn, IsOfFiles, files_of, own_fault}
use Rattle.tor_plan.specs.Content.{unit_content}
use Rattle.tor_plan.specs.PlanFacts.{PlanFacts}
use Rattle.tor_plan.specs.declared.units.PlanUnit.{PlanUnit}
use Rattle.tor_sums.specs.Contents.{contents_in}
use Rattle.tor_sums.specs.Fault.{IsFault}
use Rattle.tor_tree.specs.Kinds.{has_v1}
use Rattle.tor_v1.specs.Piece.{piece_sums}
use Rattle.tor_v1.proofs.ProvedLaws.{length-piece_sums}
use Rattle.tor_meta.proofs.plans.lots.make_lot.Goals as goal

-- sums have 20 bytes each
twenties : (plan : PlanFacts) (contents : List (List ℕ)) (units : List PlanUnit)
    → (k : ℕ) × (length (sums_of_pieces plan contents units) ≡ k * 20)
twenties plan contents [] = (0, refl)
twenties plan contents (unit ∷ units) =
    let own = piece_sums plan.piece_length (unit_content contents unit) in
    let later = twenties plan contents units in
    let long = length-piece_sums plan.piece_length (unit_content contents unit) in
    let n = length (unit_content contents unit) in (
      length own / 20 + later.0,
      omega (arith, length-append own (sums_of_pieces plan contents units), long, later.1),
    )

whole_sums : (plan : PlanFacts) (contents : List (List ℕ)) (units : List PlanUnit) (hashes : List (List ℕ))
    (pieces : List ℕ) → IsRowOf plan contents units hashes pieces → length pieces % 20 ≡ 0
whole_sums plan contents units hashes pieces row = by_kind (has_v1 plan.kind) row.sums
  where
    by_kind : (b : Bool) → pieces ≡ cond b (sums_of_pieces plan contents units) [] → length pieces % 20 ≡ 0
    by_kind true same = let all = twenties plan contents units in omega (arith, ap length same, all.1)
    by_kind false same = omega (arith, ap length same)

pub returns-in-Err-clause-fault : goal.returns-in-Err-clause-fault
returns-in-Err-clause-fault g c = λ facts steady.
    let lots = c.args.lots in
    let number = c.args.number in
    let error = c.in-Err.error in
    let plan = plan_of_text (text_of_listing c.args.plan.now.listing) in
    subst (λ (ls : List ℕ). IsFault (own_fault facts ls (dealt lots number plan.units)) error)
    c.in_ok-units.ensures.lengths
    (subst (λ (p : PlanFacts). IsFault (own_fault facts c.in_ok-units.units.lengths (dealt lots number p.units)) error)
    c.in_ok-units.ensures.same (c.in-Err.ensures.fault facts steady))

pub returns-in-Err-clause-of_lot : goal.returns-in-Err-clause-of_lot
returns-in-Err-clause-of_lot g c =
    subst (λ (p : PlanFacts). IsOfFiles (files_of (dealt c.args.lots c.args.number p.units)) c.in-Err.error)
    c.in_ok-units.ensures.same c.in-Err.ensures.of_lot

pub returns-in-Err-clause-gave : goal.returns-in-Err-clause-gave
returns-in-Err-clause-gave g c =
    subst (λ (ls : List ℕ). IsGivenOwn (g.S.Source.answers c.args.source.now) ls c.in-Err.error)
    c.in_ok-units.ensures.lengths c.in-Err.ensures.gave

pub returns-clause-made : goal.returns-clause-made
returns-clause-made g c = λ facts contents steady fit same.
    let lots = c.args.lots in
    let number = c.args.number in
    let row = c.in-Ok.row in
    let plan = plan_of_text (text_of_listing c.args.plan.now.listing) in
    let own = subst (λ (ls : List ℕ). map length contents ≡ ls → AreSameAt contents (contents_in facts (length ls))
    (dealt lots number plan.units) → IsRowOf plan contents (dealt lots number plan.units) row.hashes.items
    row.pieces.items)
    c.in_ok-units.ensures.lengths
    (subst (λ (p : PlanFacts). map length contents ≡ c.in_ok-units.units.lengths
    → AreSameAt contents (contents_in facts (length c.in_ok-units.units.lengths)) (dealt lots number p.units)
    → IsRowOf p contents (dealt lots number p.units) row.hashes.items row.pieces.items)
    c.in_ok-units.ensures.same (c.in-Ok.ensures.summed facts contents steady)) fit same in
    let written = c.in_ok-bytes.ensures in
    record {
      facts = record {
        number = number;
        lots = lots;
        plan = c.digest.result;
        hashes = row.hashes.items;
        pieces = row.pieces.items;
      };
      lawful = record {
        number = c.requires.within;
        lots = c.requires.most;
        pieces = whole_sums plan contents (dealt lots number plan.units) row.hashes.items row.pieces.items own;
        plan = written.hashes.0;
        hashes = written.hashes.1;
      };
      spelled = written.written;
      numbered = refl;
      counted = refl;
      planned = c.digest.ensures;
      row = own;
    }

pub returns-clause-fault : goal.returns-clause-fault
returns-clause-fault g c = λ facts steady.
    let lots = c.args.lots in
    let number = c.args.number in
    let plan = plan_of_text (text_of_listing c.args.plan.now.listing) in
    subst (λ (ls : List ℕ). own_fault facts ls (dealt lots number plan.units) ≡ None)
    c.in_ok-units.ensures.lengths
    (subst (λ (p : PlanFacts). own_fault facts c.in_ok-units.units.lengths (dealt lots number p.units) ≡ None)
    c.in_ok-units.ensures.same (c.in-Ok.ensures.fault facts steady))

pub returns-clause-whole : goal.returns-clause-whole
returns-clause-whole g c =
    let lots = c.args.lots in
    let number = c.args.number in
    let row = c.in-Ok.row in
    let plan = plan_of_text (text_of_listing c.args.plan.now.listing) in
    let some = c.in-Ok.ensures.whole in
    let contents = some.0 in
    let own = subst (λ (p : PlanFacts). IsRowOf p contents (dealt lots number p.units) row.hashes.items row.pieces.items)
    c.in_ok-units.ensures.same some.2 in
    let written = c.in_ok-bytes.ensures in (
      contents,
      some.1 ∙ c.in_ok-units.ensures.lengths,
      record {
        facts = record {
          number = number;
          lots = lots;
          plan = c.digest.result;
          hashes = row.hashes.items;
          pieces = row.pieces.items;
        };
        lawful = record {
          number = c.requires.within;
          lots = c.requires.most;
          pieces = whole_sums plan contents (dealt lots number plan.units) row.hashes.items row.pieces.items own;
          plan = written.hashes.0;
          hashes = written.hashes.1;
        };
        spelled = written.written;
        numbered = refl;
        counted = refl;
        planned = c.digest.ensures;
        row = own;
      },
    )

pub returns-clause-told : goal.returns-clause-told
returns-clause-told g c =
    let lots = c.args.lots in
    let number = c.args.number in
    let answers = g.S.Source.answers c.args.source.now in
    let plan = plan_of_text (text_of_listing c.args.plan.now.listing) in
    subst (λ (ls : List ℕ). HasToldOf answers ls (files_of (dealt lots number plan.units)))
    c.in_ok-units.ensures.lengths
    (subst (λ (p : PlanFacts). HasToldOf answers c.in_ok-units.units.lengths (files_of (dealt lots number p.units)))
    c.in_ok-units.ensures.same c.in-Ok.ensures.told)
