-- The files so far, one more, and all of them.
use Rattle.std.proofs.Common.{◌<◌, ◌≤◌, ◌∙◌, [], ap₂, length, rules, subst, ℕ, List}
use Rattle.std.proofs.lemmas.Grind.{get_or_default_zero}
use Rattle.std.proofs.lemmas.List.{get_or_default}
use Rattle.std.proofs.lemmas.List.FromFn.{length-range_with_len}
use Rattle.std.specs.List.{range_with_len}
use Rattle.tor_report.proofs.ProvedLaws.{fault_after, flat_all, flat_more, flat_rest, puts_both}
use Rattle.tor_report.specs.Put.{Puts, Stops}
use Rattle.tor_cli.proofs.ScanSegments.{in_range, is_number}
use Rattle.tor_cli.specs.scan.ScanText.{line_of, numbered_line}
use Rattle.tor_cli.proofs.scan.lines.put_files.Goals as goal

pub files-preserved : goal.files-preserved
files-preserved g c =
    let n = c.files.number in
    let lengths = c.args.found.now.lengths.items in
    let paths = c.args.found.now.paths.items in
    let within : n < length lengths = search rules in
    let there : n < length paths = search rules in
    let own = c.index.ensures ∙ get_or_default_zero lengths n c.index.result.now within in
    let path = c.index-in-files.ensures ∙ get_or_default paths n c.index-in-files.result.now [] there in
    let line = ap₂ (λ (k : ℕ) (names : List (List ℕ)). numbered_line n k names) own path in
    subst (λ (xs : List ℕ). Puts g.S.Sink.took xs c.args.out.now c.args.buffer.now c.put_file.new.out
    c.put_file.new.buffer)
    (flat_more (line_of c.args.found.now) (range_with_len 0 (length paths)) n n (in_range (length paths) n there)
    (is_number (length paths) n there))
    (puts_both _ _ _ _ _ _ _ _ c.files.invariant
    (subst (λ (xs : List ℕ). Puts g.S.Sink.took xs c.files.out c.files.buffer c.put_file.new.out c.put_file.new.buffer)
    line c.in_ok-put_file.ensures.put))

pub returns-in_err-put_file-clause-stopped : goal.returns-in_err-put_file-clause-stopped
returns-in_err-put_file-clause-stopped g c =
    let n = c.files.number in
    let lengths = c.args.found.now.lengths.items in
    let paths = c.args.found.now.paths.items in
    let within : n < length lengths = search rules in
    let there : n < length paths = search rules in
    let own = c.index.ensures ∙ get_or_default_zero lengths n c.index.result.now within in
    let path = c.index-in-files.ensures ∙ get_or_default paths n c.index-in-files.result.now [] there in
    let line = ap₂ (λ (k : ℕ) (names : List (List ℕ)). numbered_line n k names) own path in
    fault_after g.S.Sink.lawful _ _ _ _ _ _ _ _ _ _ _ c.from_residual.ensures
    (flat_rest (line_of c.args.found.now) (range_with_len 0 (length paths)) n n (in_range (length paths) n there)
    (is_number (length paths) n there))
    c.files.invariant
    (subst (λ (xs : List ℕ). Stops g.S.Sink.took g.S.Sink.fails xs c.files.out c.files.buffer c.put_file.new.out
    c.in_err-put_file.field-0.0.written) line c.in_err-put_file.ensures.stopped)

pub returns-clause-put : goal.returns-clause-put
returns-clause-put g c =
    let paths = c.args.found.now.paths.items in
    let ended : length paths ≤ c.files.number = search rules in
    let past : length (range_with_len 0 (length paths)) ≤ c.files.number =
    rw (length-range_with_len 0 (length paths)) ended in
    subst (λ (xs : List ℕ). Puts g.S.Sink.took xs c.args.out.now c.args.buffer.now c.files.out c.files.buffer)
    (flat_all (line_of c.args.found.now) (range_with_len 0 (length paths)) c.files.number past) c.files.invariant
