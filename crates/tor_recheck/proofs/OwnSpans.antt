-- Which files have bytes of a run of pieces is told by their spans.
use Rattle.tor_recheck.proofs.Names.{◌≡◌, ℕ, ◌+◌, ◌-◌, ◌<◌, ◌≤◌, false, List, length, map, take, drop, get_or}
use Rattle.tor_recheck.proofs.Names.{arith, sym, ap, ◌∙◌, inl, inr, cases_lt, list_any, range_with_len}
use Rattle.tor_recheck.proofs.Names.{fill_by_all, get_or-drop, get_or-take, length-map, length-take, length-drop}
use Rattle.tor_recheck.proofs.Names.{IsCut, PlanUnit, View, empty_unit, file_spans, has_bytes_of, no_span, pieces_of}
use Rattle.std.proofs.lemmas.Bool.{le-ltb, lt-ltb}
use Rattle.std.proofs.lemmas.List.{get_or-map, get_or_default}
use Rattle.std.proofs.lemmas.List.Folds.{list_any_at, list_any_none}
use Rattle.std.specs.Prelude.{max, min}
use Rattle.tor_view.proofs.PartsOfFiles.{in_span_have_bytes}
use Rattle.tor_view.proofs.ProvedLaws.{pieces_are_counted}
use Rattle.tor_view.proofs.SpanBytes.{in_span, in_span_is, not_in}
use Rattle.tor_view.proofs.SpanSteps.{spans_are_counted}
use Rattle.tor_view.specs.declared.spans.FileSpan.{FileSpan}
use Rattle.tor_view.specs.FileBytes.{PiecedFile, has_piece_between, pieced_files}

module _ (view : View) (cut : IsCut view) (from to : ℕ) (ordered : from ≤ to) (within : to ≤ view.piece_count) where
  abbrev run : List PlanUnit
  run = take (to - from) (drop from (pieces_of view))

  run_counted : length run ≡ to - from
  run_counted =
      let all = length-take (to - from) (drop from (pieces_of view)) in
      let left = length-drop from (pieces_of view) in
      let count = pieces_are_counted view cut in
      omega (arith, all, left, count, ordered, within)

  module _ (file : ℕ) where
    abbrev span : FileSpan
    span = get_or (file_spans view) file no_span

    abbrev pieced : PiecedFile
    pieced = record { piece_length = view.piece_length; span = span }

    -- each piece of the run by its number
    piece_has : (i : ℕ) (d : PlanUnit) → i < to - from → has_bytes_of file (get_or run i d) ≡ in_span span (from + i)
    piece_has i d lt =
        ap (has_bytes_of file) (get_or-take (to - from) (drop from (pieces_of view)) i d lt
        ∙ get_or-drop from (pieces_of view) i d
        ∙ get_or_default (pieces_of view) (from + i) d empty_unit
        (let count = pieces_are_counted view cut in omega (arith, lt, count, ordered, within)))
        ∙ in_span_have_bytes view file (from + i) cut (omega (arith, lt, ordered, within))

    has_by_span : list_any (has_bytes_of file) run ≡ has_piece_between from to pieced
    has_by_span = elim (cases_lt (max from span.first) (min to span.after)) [
      | inl some ↦
          let i = max from span.first - from in
          let in_run : i < to - from = omega (arith, some) in
          list_any_at (has_bytes_of file) run i empty_unit (omega (arith, in_run, run_counted))
          (piece_has i empty_unit in_run
          ∙ (in_span_is span (from + i)).1 (omega (arith, some), omega (arith, some)))
          ∙ sym (lt-ltb (max from span.first) (min to span.after) some)
      | inr none ↦
          list_any_none (has_bytes_of file) run (λ i d lt.
          let in_run : i < to - from = omega (arith, lt, run_counted) in
          piece_has i d in_run
          ∙ not_in span (from + i) (λ low high. omega (arith, low, high, none, in_run)))
          ∙ sym (le-ltb (max from span.first) (min to span.after) none)
    ]

  pub own_by_spans : map (has_piece_between from to) (pieced_files view)
      ≡ map (λ file. list_any (has_bytes_of file) run) (range_with_len 0 (length view.files))
  own_by_spans =
      let with_length : FileSpan → PiecedFile = λ span. record { piece_length = view.piece_length; span = span } in
      let files = length-map (file_spans view) with_length ∙ spans_are_counted view cut in
      fill_by_all (λ file. list_any (has_bytes_of file) run) (map (has_piece_between from to) (pieced_files view))
      (length view.files) false (length-map (pieced_files view) (has_piece_between from to) ∙ files)
      (λ file lt.
      get_or-map (has_piece_between from to) (pieced_files view) file (with_length no_span) false
      (omega (arith, lt, files))
      ∙ ap (has_piece_between from to) (get_or-map with_length (file_spans view) file no_span (with_length no_span)
      (let n = spans_are_counted view cut in omega (arith, lt, n)))
      ∙ sym (has_by_span file))
