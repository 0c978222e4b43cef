-- lengths, pieces, and lengths again
use Rattle.std.proofs.Common.{◌≡◌, ◌⊎◌, ◌++◌, ℕ, List, Option, append-nil, ap, ap₂, length, map, refl, subst, sym}
use Rattle.std.proofs.Common.{◌∙◌}
use Rattle.std.specs.List.{AllByRecursion, flat_map, range_with_len}
use Rattle.tor_sums.specs.Given.{IsGivenPieces}
use Rattle.tor_sums.specs.declared.errors.EngineError.TheVariants.{Resources}
use Rattle.tor_sums.proofs.PartReads.{all_append}
use Rattle.tor_engine.specs.PieceFault.{asked_fault}
use Rattle.tor_engine.specs.PieceHashes.{pieces_of_plan}
use Rattle.tor_engine.specs.Readable.{HasHashWithin, error_of_fault, hash_if_readable, piece_faults, read_faults}
use Rattle.tor_engine.specs.Readable.{seen_lengths}
use Rattle.tor_engine.specs.declared.pieces.read_fault.ReadFault.{ReadFault}
use Rattle.tor_engine.specs.steps.Readable.{IsLeft, seen_by, seen_may_be}
use Rattle.tor_engine.proofs.Each.{each_length}
use Rattle.tor_engine.proofs.ReadFaults.{nil_both}
use Rattle.tor_engine.proofs.SeenLengths.{all_more, left_given, same_contents, seen_are_told, seen_given}
use Rattle.tor_engine.proofs.Stopped.{stopped, stopped_by}
use Rattle.tor_engine.proofs.pieces.readable.find_readable.Goals as goal

pub returns-in-Err-clause-gave : goal.returns-in-Err-clause-gave
returns-in-Err-clause-gave g c =
    seen_given (g.S.Source.answers c.args.source.now) c.in_ok-lengths.lengths.items (length c.args.plan.now.lengths)
    (c.in_ok-lengths.ensures.counted ∙ ap length c.lengths.ensures) c.in_ok-lengths.ensures.told c.in-Err.error
    c.in-Err.ensures.gave

pub returns-in-Err-expect_readable-clause-gave : goal.returns-in-Err-expect_readable-clause-gave
returns-in-Err-expect_readable-clause-gave g c =
    let answers = g.S.Source.answers c.args.source.now in
    left_given answers c.in_ok-lengths.lengths.items (length c.args.plan.now.lengths)
    (c.in_ok-lengths.ensures.counted ∙ ap length c.lengths.ensures) c.in_ok-lengths.ensures.told
    c.in-Err-expect_readable.error
    (subst (λ (sizes : List (Option ℕ)).
    (c.in-Err-expect_readable.error ≡ Resources) ⊎ IsLeft answers sizes c.in-Err-expect_readable.error)
    c.deref.ensures.value c.in-Err-expect_readable.ensures.gave)

pub returns-clause-readable : goal.returns-clause-readable
returns-clause-readable g c = λ facts steady.
    let plan = c.args.plan.now in
    let count = length plan.lengths in
    let told = c.in_ok-lengths.lengths.items in
    let pieces = pieces_of_plan plan in
    let asked = c.in_ok-lengths.ensures.steady facts steady in
    let many = ap length c.lengths.ensures in
    let are : told ≡ seen_lengths facts count = asked.0 ∙ ap (seen_lengths facts) many in
    let known = seen_are_told facts told count are in
    let same = same_contents facts told count are in
    let sizes = c.deref.ensures.value in
    let again = are ∙ ap (seen_lengths facts) (sym (c.in_ok-lengths.ensures.counted ∙ many)) in
    let lost = c.in-Ok-expect_readable.ensures.steady facts steady
    (subst (λ (ts : List (Option ℕ)). ts ≡ seen_lengths facts (length ts)) (sym sizes) again) in (
      c.in-Ok.ensures.found.hashed (seen_by told facts) (facts, steady, refl) known
          ∙ ap (λ contents. map (hash_if_readable facts plan contents) pieces) same,
      are,
      c.in_ok-append-2.ensures.joined ∙ ap₂ (λ xs ys. xs ++ ys) c.in_ok-append.ensures.joined lost
          ∙ append-nil (c.in_ok-lengths.faults.items ++ c.in-Ok.found.1.items)
          ∙ ap₂ (λ xs ys. xs ++ ys)
          (asked.1 ∙ ap (λ n. flat_map (λ file. read_faults (asked_fault facts file)) (range_with_len 0 n)) many)
          (c.in-Ok.ensures.found.failed (seen_by told facts) (facts, steady, refl) known
          ∙ ap (λ contents. flat_map (piece_faults facts contents) pieces) same),
    )

pub returns-clause-clean : goal.returns-clause-clean
returns-clause-clean g c = λ none.
    let first = nil_both c.append.new.items.items c.in-Ok-expect_readable.lost.items
    (sym c.in_ok-append-2.ensures.joined ∙ none) in
    let both = nil_both c.in_ok-lengths.faults.items c.in-Ok.found.1.items
    (sym c.in_ok-append.ensures.joined ∙ first.0) in
    (c.in_ok-lengths.ensures.clean both.0, c.in-Ok.ensures.found.clean both.1)

pub returns-clause-counted : goal.returns-clause-counted
returns-clause-counted g c = (
  sym (each_length (HasHashWithin c.in_ok-lengths.lengths.items) (pieces_of_plan c.args.plan.now)
      c.in-Ok.found.0 c.in-Ok.ensures.found.within),
  c.in_ok-lengths.ensures.counted ∙ ap length c.lengths.ensures,
)

pub returns-clause-given : goal.returns-clause-given
returns-clause-given g c =
    let answers = g.S.Source.answers c.args.source.now in
    let told = c.in_ok-lengths.lengths.items in
    let count = length c.args.plan.now.lengths in
    let many = ap length c.lengths.ensures in
    let long = c.in_ok-lengths.ensures.counted ∙ many in
    let given = λ (n : ℕ) (fault : ReadFault g.row.S-Fault.Denot). IsGivenPieces answers n (error_of_fault fault) in
    let asked = c.in_ok-lengths.faults.items in
    let unread = c.in-Ok.found.1.items in
    let lost = c.in-Ok-expect_readable.lost.items in
    subst (λ (faults : List _). AllByRecursion (given count) faults)
    (sym (c.in_ok-append-2.ensures.joined ∙ ap (λ xs. xs ++ lost) c.in_ok-append.ensures.joined))
    (all_append (given count) (asked ++ unread) lost
    (all_append (given count) asked unread
    (subst (λ (n : ℕ). AllByRecursion (given n) asked) many c.in_ok-lengths.ensures.given)
    (all_more (λ fault. seen_may_be told answers (error_of_fault fault)) (given count)
    (λ fault one. seen_given answers told count long c.in_ok-lengths.ensures.told (error_of_fault fault) one) unread
    c.in-Ok.ensures.found.given))
    (subst (λ (n : ℕ). AllByRecursion (given n) lost) (ap length c.deref.ensures.value ∙ long)
    c.in-Ok-expect_readable.ensures.given))

pub returns-in-Err-clause-refused : goal.returns-in-Err-clause-refused
returns-in-Err-clause-refused g c = λ facts steady.
    c.in-Err.ensures.refused facts steady
    ((c.in_ok-lengths.ensures.steady facts steady).0 ∙ ap (seen_lengths facts) (ap length c.lengths.ensures))

pub returns-in-Err-expect_readable-clause-refused : goal.returns-in-Err-expect_readable-clause-refused
returns-in-Err-expect_readable-clause-refused g c = λ facts steady.
    let asked = c.in_ok-lengths.ensures.steady facts steady in
    c.in-Err-expect_readable.ensures.refused facts steady
    (subst (λ (ts : List (Option ℕ)). ts ≡ seen_lengths facts (length ts)) (sym c.deref.ensures.value)
    (asked.0 ∙ ap (seen_lengths facts) (sym c.in_ok-lengths.ensures.counted)))

pub returns-clause-told : goal.returns-clause-told
returns-clause-told g c = c.in_ok-lengths.ensures.told

pub returns-clause-within : goal.returns-clause-within
returns-clause-within g c = c.in-Ok.ensures.found.within

pub returns-in_err-lengths : goal.returns-in_err-lengths
returns-in_err-lengths g c =
    let r = c.from_residual.result in
    let is = c.from_residual.ensures.1 in record {
      readable = λ facts steady. stopped _ _ r is;
      refused = λ facts steady. stopped_by _ _ r is refl;
      told = stopped _ _ r is;
      within = stopped _ _ r is;
      clean = stopped _ _ r is;
      counted = stopped _ _ r is;
      given = stopped _ _ r is;
      no_read_fault = stopped_by _ _ r is tt;
      gave = stopped_by _ _ r is tt;
    }

pub returns-in_err-padding_sum : goal.returns-in_err-padding_sum
returns-in_err-padding_sum g c =
    let r = c.from_residual-in_err-padding_sum.result in
    let is = c.from_residual-in_err-padding_sum.ensures.1 in record {
      readable = λ facts steady. stopped _ _ r is;
      refused = λ facts steady. stopped_by _ _ r is refl;
      told = stopped _ _ r is;
      within = stopped _ _ r is;
      clean = stopped _ _ r is;
      counted = stopped _ _ r is;
      given = stopped _ _ r is;
      no_read_fault = stopped_by _ _ r is tt;
      gave = stopped_by _ _ r is tt;
    }

pub returns-in_err-append : goal.returns-in_err-append
returns-in_err-append g c =
    let r = c.from_residual-in_err-append.result in
    let is = c.from_residual-in_err-append.ensures.1 in record {
      readable = λ facts steady. stopped _ _ r is;
      refused = λ facts steady. stopped_by _ _ r is refl;
      told = stopped _ _ r is;
      within = stopped _ _ r is;
      clean = stopped _ _ r is;
      counted = stopped _ _ r is;
      given = stopped _ _ r is;
      no_read_fault = stopped_by _ _ r is tt;
      gave = stopped_by _ _ r is tt;
    }

pub returns-in_err-append-2 : goal.returns-in_err-append-2
returns-in_err-append-2 g c =
    let r = c.from_residual-in_err-append-2.result in
    let is = c.from_residual-in_err-append-2.ensures.1 in record {
      readable = λ facts steady. stopped _ _ r is;
      refused = λ facts steady. stopped_by _ _ r is refl;
      told = stopped _ _ r is;
      within = stopped _ _ r is;
      clean = stopped _ _ r is;
      counted = stopped _ _ r is;
      given = stopped _ _ r is;
      no_read_fault = stopped_by _ _ r is tt;
      gave = stopped_by _ _ r is tt;
    }
