-- each file: its entry, and its padding where it has any
use Rattle.std.proofs.Common.{◌≡◌, ◌+◌, ◌++◌, ◌∷◌, [], true, false, ◌&&◌, ◌||◌, count_by, drop, ltb, ap, ap₂, arith}
use Rattle.std.proofs.Common.{◌∙◌, append-nil, sym}
use Rattle.std.proofs.lemmas.Grind.{common_steps}
use Rattle.tor_v1.specs.Entries.{aligned_entries, pad_entry, padding_length}
use Rattle.tor_v1.proofs.Aligned.{is_some, count-next, pushed, counted_some, counted_none, aligned_entries-end}
use Rattle.tor_v1.proofs.layout.aligned.Goals as goal
use Rattle.tor_v1.proofs.layout.aligned.Goals.{then-length-gt0, else-length-gt0}
use Rattle.tor_v1.proofs.layout.aligned.Goals.{then-is_padded+in_ok-pad_entry+in_ok-push-2, else-is_padded}

pub files-preserved : goal.files-preserved
files-preserved c =
    let tail = c.args.tail in
    let p = c.args.piece_length in
    let files = c.args.files.now in
    let i = c.files.path-index in
    let file = c.files-item.result in
    let all = c.files.invariant.all in
    let next = count-next tail p files i file c.files.entries.items _ c.files-test.true c.files-item.is all in
    let old = c.files.invariant.counted ∙ next in
    let counted : c.if-length-gt0.later ≡ count_by is_some (drop (i + 1) files) = elim c.if-length-gt0.branch [
      | then-length-gt0 w ↦ counted_some file.1 c.files.later _ _ w.if-length-gt0.true old w.later-is
      | else-length-gt0 w ↦ counted_none file.1 c.files.later _ _ w.if-length-gt0.false old w.later-is
    ] in
    let lack = c.padding_length-lack.ensures in
    let pads : c.is_padded.result
    ≡ (ltb 0 (padding_length p file.1) && (tail || ltb 0 (count_by is_some (drop (i + 1) files)))) =
    c.is_padded.ensures ∙ ap₂ (λ n k. ltb 0 n && (tail || ltb 0 k)) lack counted in
    let one = c.in_ok-push.ensures.items ∙ ap (λ x. c.files.entries.items ++ x ∷ []) c.in_ok-file_entry.ensures in
    let rest = aligned_entries tail p (drop (i + 1) files) in
    let more = pushed tail p files i file c.files.entries.items _ c.files-test.true c.files-item.is all in
    record {
      counted = counted;
      all = elim c.if-is_padded.branch [
        | then-is_padded+in_ok-pad_entry+in_ok-push-2 w ↦
            ap (λ v. v.items ++ rest) w.entries-is
            ∙ ap (λ xs. xs ++ rest) (w.in_ok-push-2.ensures.items
            ∙ ap₂ (λ xs x. xs ++ x ∷ []) one (w.in_ok-pad_entry.ensures ∙ ap pad_entry lack))
            ∙ more true (sym w.if-is_padded.true ∙ pads)
        | else-is_padded w ↦
            ap (λ v. v.items ++ rest) w.entries-is ∙ ap (λ xs. xs ++ rest) (one ∙ sym (append-nil _))
            ∙ more false (sym w.if-is_padded.false ∙ pads)
      ];
    }

pub returns : goal.returns
returns c =
    aligned_entries-end c.args.tail c.args.piece_length c.args.files.now c.files.path-index c.files.entries.items _
    c.files-test.false c.files.invariant.all

pub overflow_sub-later : goal.overflow_sub-later
overflow_sub-later c = grind (arith, common_steps)
