use Rattle.std.proofs.Common.{◌≡◌, false, true, map, sym, ◌∙◌, append-nil}
use Rattle.std.specs.Prelude.{vec_items}
use Rattle.std.specs.Io.Iter.{split_byte, split_known_bytes}
use Rattle.std.proofs.lemmas.List.{map_push}
use Rattle.tor_source.specs.steps.Listing.{is_listed}
use Rattle.tor_source.proofs.Pieces.{read_all, read_more, read_none}
use Rattle.tor_source.proofs.folder.folder_names.names_of.Goals as goal

pub loop-name-init : goal.loop-name-init
loop-name-init g c =
    let known = g.B.Read.remaining in
    rw (c.new-names.ensures.items, c.into_iter-name-iterator.ensures.into_iter_gives) (
      c.split-name-items.ensures.byte,
      read_none (known c.args.folder)
          (split_known_bytes known c.split-name-items.result) c.split-name-items.ensures.bytes,
    )

pub loop-name-preserved-in-Continue-branch-2 : goal.loop-name-preserved-in-Continue-branch-2
loop-name-preserved-in-Continue-branch-2 g c =
    let known = g.B.Read.remaining in
    let before = c.loop-name.name-iterator in
    let piece = c.in_ok-name.name.items in
    let step = rw c.in_ok-name.was at c.in-Some.ensures.steps.2 in
    let listed : is_listed piece ≡ true = rw c.deref.ensures.value at (sym c.is_listed.ensures ∙ c.if-is_listed.true) in
    let more = read_more (known c.args.folder) (split_known_bytes known before)
    (split_known_bytes known c.next.new.self) (map vec_items c.loop-name.names.items) piece (split_byte before)
    c.loop-name.invariant.0 c.loop-name.invariant.1 step.0 step.1 in (
      c.in-Some.ensures.steps.1 ∙ c.loop-name.invariant.0,
      rw (c.in_ok-push.ensures.items, map_push vec_items c.loop-name.names.items c.in_ok-name.name) (rw listed at more),
    )

pub loop-name-preserved : goal.loop-name-preserved
loop-name-preserved g c =
    let known = g.B.Read.remaining in
    let before = c.loop-name.name-iterator in
    let piece = c.in_ok-name.name.items in
    let step = rw c.in_ok-name.was at c.in-Some.ensures.steps.2 in
    let unlisted : is_listed piece ≡ false =
    rw c.deref.ensures.value at (sym c.is_listed.ensures ∙ c.if-is_listed.false) in
    let more = read_more (known c.args.folder) (split_known_bytes known before)
    (split_known_bytes known c.next.new.self) (map vec_items c.loop-name.names.items) piece (split_byte before)
    c.loop-name.invariant.0 c.loop-name.invariant.1 step.0 step.1 in
    (c.in-Some.ensures.steps.1 ∙ c.loop-name.invariant.0, rw (unlisted, append-nil) at more)

pub returns : goal.returns
returns g c =
    let known = g.B.Read.remaining in
    read_all (known c.args.folder) (split_known_bytes known c.loop-name.name-iterator)
    (map vec_items c.loop-name.names.items) c.loop-name.invariant.1 c.in-None.ensures.steps.2
