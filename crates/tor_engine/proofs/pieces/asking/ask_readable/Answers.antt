-- one file after the other
use Rattle.std.proofs.Common.{◌++◌, ◌+◌, ◌<◌, ℕ, List, Option, None, [], ◌∷◌, ap, ap₂, arith, length, refl, suc}
use Rattle.std.proofs.Common.{subst, sym, zero-add, ◌∙◌, ◌≡◌}
use Rattle.std.specs.List.{AllByRecursion, flat_map, range_with_len}
use Rattle.std.specs.Prelude.{slice_index_or}
use Rattle.std.proofs.lemmas.List.{length-append}
use Rattle.tor_sums.specs.Given.{HasTold, IsGivenPieces}
use Rattle.tor_sums.proofs.PartReads.{all_append}
use Rattle.tor_engine.specs.PieceFault.{asked_fault}
use Rattle.tor_engine.specs.Readable.{IsSeenLength, error_of_fault, read_faults}
use Rattle.tor_engine.specs.steps.Readable.{listed}
use Rattle.tor_engine.proofs.ReadFaults.{flat_range, nil_both}
use Rattle.tor_engine.proofs.GivenAnswers.{each_more}
use Rattle.tor_engine.proofs.SeenLengths.{lengths_more}
use Rattle.tor_engine.proofs.pieces.asking.ask_readable.Goals as goal

pub files-preserved : goal.files-preserved
files-preserved g c =
    let answers = g.S.Source.answers c.args.source.now in
    let file = c.files.file in
    let old = c.files.told.items in
    let size = c.ask_seen-length.result.0 in
    let asked = c.ask_seen-length.ensures in
    record {
      counted = rw c.in_ok-push.ensures.items (simp length-append (rw c.files.invariant.counted refl));
      told = subst (λ (sizes : List (Option ℕ)). (k : ℕ) → k < length sizes
          → IsSeenLength answers k (slice_index_or sizes k None)) (sym c.in_ok-push.ensures.items)
          (each_more (λ k one. IsSeenLength answers k one) old size None c.files.invariant.told
          (subst (λ (n : ℕ). IsSeenLength answers n size) (sym c.files.invariant.counted) asked.told));
      clean = λ none.
          let both = nil_both c.files.faults.items (listed c.ask_seen-length.result.1)
          (sym c.in_ok-add_fault.ensures ∙ none) in
          subst (λ (sizes : List (Option ℕ)). HasTold answers sizes) (sym c.in_ok-push.ensures.items)
          (each_more answers.told old size None (c.files.invariant.clean both.0)
          (subst (λ (n : ℕ). answers.told n size) (sym c.files.invariant.counted) (asked.clean both.1)));
      given = subst (λ (faults : List _). AllByRecursion
          (λ fault. IsGivenPieces answers c.args.count (error_of_fault fault)) faults) (sym c.in_ok-add_fault.ensures)
          (all_append (λ fault. IsGivenPieces answers c.args.count (error_of_fault fault)) c.files.faults.items
          (listed c.ask_seen-length.result.1) c.files.invariant.given (asked.given c.args.count c.files-test.true));
      steady = λ facts steady.
          let before = c.files.invariant.steady facts steady in
          let here = asked.steady facts steady in
          let next : suc file ≡ file + 1 = omega arith in (
            c.in_ok-push.ensures.items ∙ ap₂ (λ xs x. xs ++ x ∷ []) before.0 here.0
                ∙ sym (lengths_more facts file),
            c.in_ok-add_fault.ensures ∙ ap₂ (λ xs ys. xs ++ ys) before.1 here.1
                ∙ ap (λ n. flat_map (λ k. read_faults (asked_fault facts k)) (range_with_len 0 file)
                ++ read_faults (asked_fault facts n)) (sym (zero-add file))
                ∙ sym (flat_range (λ k. read_faults (asked_fault facts k)) 0 file)
                ∙ ap (λ n. flat_map (λ k. read_faults (asked_fault facts k)) (range_with_len 0 n)) next,
          );
    }
