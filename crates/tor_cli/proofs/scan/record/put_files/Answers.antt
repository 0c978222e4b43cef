-- The files so far, one more, and all of them.
use Rattle.std.proofs.Common.{◌<◌, ◌≤◌, ◌∙◌, ◌++◌, [], ap₂, length, refl, rules, subst, ℕ, List}
use Rattle.std.proofs.lemmas.Grind.{get_or_default_zero}
use Rattle.std.proofs.lemmas.List.{get_or_default}
use Rattle.std.proofs.lemmas.List.FromFn.{length-range_with_len}
use Rattle.std.specs.List.{range_with_len}
use Rattle.serde_json.specs.Written.{comma_if, compact_text}
use Rattle.tor_report.proofs.ProvedLaws.{fault_after, puts_both, puts_none}
use Rattle.tor_report.specs.Put.{Puts, Stops}
use Rattle.tor_report.specs.Records.{sized_data}
use Rattle.tor_cli.proofs.ItemsTexts.{any_told, told_all, told_more, told_rest}
use Rattle.tor_cli.proofs.ScanSegments.{in_range, is_number}
use Rattle.tor_cli.specs.text.Records.{scanned_data}
use Rattle.tor_cli.proofs.scan.record.put_files.Goals as goal

pub files-init : goal.files-init
files-init g c = (puts_none _ _, refl)

pub files-preserved : goal.files-preserved
files-preserved g c =
    let n = c.files.number in
    let lengths = c.args.found.now.lengths.items in
    let paths = c.args.found.now.paths.items in
    let within : n < length lengths = search rules in
    let there : n < length paths = search rules in
    let own = c.index.ensures ∙ get_or_default_zero lengths n c.index.result.now within in
    let path = c.index-in-files.ensures ∙ get_or_default paths n c.index-in-files.result.now [] there in
    let tell = scanned_data c.args.found.now in
    let all = range_with_len 0 (length paths) in
    let inside = in_range (length paths) n there in
    let is = is_number (length paths) n there in
    let later = c.files.later in
    let some = c.files.invariant.1 in
    let item =
    ap₂ (λ (k : ℕ) (names : List (List ℕ)). comma_if later ++ compact_text (sized_data k names)) own path in (
      subst (λ (xs : List ℕ). Puts g.S.Sink.took xs c.args.out.now c.args.buffer.now c.put_file.new.out
          c.put_file.new.buffer)
          (told_more tell all n n inside is later some)
          (puts_both _ _ _ _ _ _ _ _ c.files.invariant.0
          (subst (λ (xs : List ℕ). Puts g.S.Sink.took xs c.files.out c.files.buffer c.put_file.new.out
          c.put_file.new.buffer) item c.in_ok-put_file.ensures.put)),
      any_told tell all n n inside is later some,
    )

pub returns-in_err-put_file-clause-stopped : goal.returns-in_err-put_file-clause-stopped
returns-in_err-put_file-clause-stopped g c =
    let n = c.files.number in
    let lengths = c.args.found.now.lengths.items in
    let paths = c.args.found.now.paths.items in
    let within : n < length lengths = search rules in
    let there : n < length paths = search rules in
    let own = c.index.ensures ∙ get_or_default_zero lengths n c.index.result.now within in
    let path = c.index-in-files.ensures ∙ get_or_default paths n c.index-in-files.result.now [] there in
    let later = c.files.later in
    let item = ap₂ (λ (k : ℕ) (names : List (List ℕ)). comma_if later ++ compact_text (sized_data k names)) own path in
    fault_after g.S.Sink.lawful _ _ _ _ _ _ _ _ _ _ _ c.from_residual.ensures
    (told_rest (scanned_data c.args.found.now) (range_with_len 0 (length paths)) n n (in_range (length paths) n there)
    (is_number (length paths) n there) later c.files.invariant.1)
    c.files.invariant.0
    (subst (λ (xs : List ℕ). Stops g.S.Sink.took g.S.Sink.fails xs c.files.out c.files.buffer c.put_file.new.out
    c.in_err-put_file.field-0.0.written) item c.in_err-put_file.ensures.stopped)

pub returns-clause-put : goal.returns-clause-put
returns-clause-put g c =
    let paths = c.args.found.now.paths.items in
    let ended : length paths ≤ c.files.number = search rules in
    let past : length (range_with_len 0 (length paths)) ≤ c.files.number =
    rw (length-range_with_len 0 (length paths)) ended in
    subst (λ (xs : List ℕ). Puts g.S.Sink.took xs c.args.out.now c.args.buffer.now c.files.out c.files.buffer)
    (told_all (scanned_data c.args.found.now) (range_with_len 0 (length paths)) c.files.number past)
    c.files.invariant.0
