-- one more is counted
use Rattle.std.proofs.Common.{◌≡◌, ◌++◌, ◌∷◌, ◌∙◌, [], append-nil, append_assoc, ap, arith, length, map, rules, sym}
use Rattle.std.specs.Vec.Iter.{into_iter_items}
use Rattle.std.proofs.lemmas.List.{length-map, map-append, nil_from_length}
use Rattle.tor_cli.proofs.make.from_place.counted_readers.Goals as goal

pub files-init : goal.files-init
files-init c =
    let whole : into_iter_items c.into_iter-reader-iterator.result ≡ c.in_ok-files.files.items = search rules in
    record {
      items = whole ∙ c.in_ok-files.ensures.each;
      left = search rules;
      same = ap (map (λ counted. counted.reader)) c.in_ok-readers.ensures.items;
    }

pub files-preserved : goal.files-preserved
files-preserved c =
    let before = c.files.invariant in
    let steps = c.next.ensures.steps in
    record {
      items = append_assoc c.files.yielded (c.in-Some-reader.reader ∷ []) _
          ∙ ap (λ xs. c.files.yielded ++ xs) (sym c.in-Some-reader.ensures.steps.0) ∙ before.items;
      left = let was = before.left in let gone = c.in-Some-reader.ensures.steps.1 in
          let short = ap length c.in-Some-reader.ensures.steps.0 in omega arith;
      same = ap (map (λ counted. counted.reader)) c.in_ok-push.ensures.items
          ∙ map-append (λ counted. counted.reader) c.files.readers.items _
          ∙ ap (λ xs. xs ++ c.in-Some-reader.reader ∷ []) before.same;
    }

pub returns-clause-each : goal.returns-clause-each
returns-clause-each c =
    let before = c.files.invariant in
    let empty : into_iter_items c.files.reader-iterator ≡ [] =
    nil_from_length _ (sym before.left ∙ c.in-None.ensures.steps.0) in
    before.same ∙ sym (append-nil c.files.yielded) ∙ ap (λ xs. c.files.yielded ++ xs) (sym empty) ∙ before.items

pub returns-clause-count : goal.returns-clause-count
returns-clause-count c =
    let before = c.files.invariant in
    let empty : into_iter_items c.files.reader-iterator ≡ [] =
    nil_from_length _ (sym before.left ∙ c.in-None.ensures.steps.0) in
    c.files.readers.ok.0 ∙ sym (length-map c.files.readers.items (λ counted. counted.reader))
    ∙ ap length (before.same ∙ sym (append-nil c.files.yielded) ∙ ap (λ xs. c.files.yielded ++ xs) (sym empty)
    ∙ before.items)
