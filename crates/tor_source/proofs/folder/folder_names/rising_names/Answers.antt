use Rattle.std.proofs.Common.{◌≡◌}
use Rattle.std.specs.Io.Buffered.{reader_remaining}
use Rattle.std.specs.Cmp.Lexicographic.{on_texts, texts_ties}
use Rattle.std.proofs.lemmas.List.Filters.{dedup_is}
use Rattle.std.proofs.lemmas.List.Kept.{IsStrictlySortedBy-dedup}
use Rattle.tor_source.proofs.SameNames.{all_names, prepended_none}
use Rattle.tor_source.proofs.folder.folder_names.rising_names.Goals as goal

pub returns-clause-rising : goal.returns-clause-rising
returns-clause-rising g c =
    rw (dedup_is _ _ _ c.dedup.ensures.filtered)
    (IsStrictlySortedBy-dedup (on_texts (λ x. x.items)) (λ x y. texts_ties x.items y.items) _
    c.in_ok-sort.ensures.sorted)

pub returns-clause-all : goal.returns-clause-all
returns-clause-all g c =
    let known = g.D.Read.remaining in
    let reader = c.in_ok-with_capacity.field-0 in
    let read : reader_remaining known reader ≡ known c.args.folder =
    rw (
      c.in_ok-with_capacity.ensures.capacity,
      c.in_ok-with_capacity.ensures.empty,
      c.in_ok-with_capacity.ensures.inner,
    ) (prepended_none (known c.args.folder)) in
    all_names (known c.args.folder) (reader_remaining known reader) c.in_ok-names.names.items c.sort.new.self.items
    c.dedup.new.self.items read c.in_ok-names.ensures c.in_ok-sort.ensures.permutation
    (dedup_is _ _ _ c.dedup.ensures.filtered)
