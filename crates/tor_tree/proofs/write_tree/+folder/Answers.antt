use Rattle.tor_tree.proofs.Cited.{◌≡◌, ◌≢◌, ◌<◌, ◌≤◌, [], true, inl, inr, length, drop, take, sym, ap, ◌∙◌, arith}
use Rattle.tor_tree.proofs.Cited.{length-drop, both_ways, cases_lt, drop_all, take_all, All-same, view, pairs_view}
use Rattle.tor_tree.proofs.Cited.{IsRoot, has_name_at, files_below}
use Rattle.tor_tree.proofs.FilesBelow.{all_to, faultless_named, first_has, followed_by, followed_by-none}
use Rattle.tor_tree.proofs.FilesBelow.{followed_by-push, group_made, length-files_below, next_made, to_end}
use Rattle.tor_tree.proofs.ItemMemory.{dictionary_of_item}
use borrow.Author.Tests.{tests}
use Rattle.std.proofs.Common.{rules}
use Rattle.std.proofs.lemmas.Grind.{common_steps}
use Rattle.std.proofs.lemmas.List.Elements.{All-drop, All-take}
use Rattle.tor_tree.proofs.write_tree.+folder.Goals as goal

pub folder-loop-start-preserved : goal.folder-loop-start-preserved
folder-loop-start-preserved t c =
    let made = next_made c.args.depth c.loop-start.start c.in_ok-next.next.count c.args.files.now c.args.attrs.now
    c.args.roots.now
    c.in_ok-next.next.key.items (view c.in_ok-next.next.value) (rw (
      to_end c.loop-start.start c.args.files.now,
      to_end c.loop-start.start c.args.attrs.now,
      to_end c.loop-start.start c.args.roots.now,
    ) at c.in_ok-next.ensures.made) in (
      omega (arith, c.in_ok-next.ensures.count.1, length-drop c.loop-start.start c.args.files.now),
      rw c.in_ok-push.ensures.items
          (followed_by-push c.loop-start.pairs.items (c.in_ok-next.next.key, c.in_ok-next.next.value) _
          ∙ ap (followed_by (pairs_view c.loop-start.pairs.items)) (sym made) ∙ c.loop-start.invariant.1),
      all_to IsRoot c.loop-start.start c.in_ok-next.next.count c.args.roots.now c.loop-start.invariant.2
          (rw to_end at c.in_ok-next.ensures.rooted),
    )

pub folder-returns-clause-made : goal.folder-returns-clause-made
folder-returns-clause-made t c =
    let files = files_below c.args.depth c.args.files.now c.args.attrs.now c.args.roots.now in
    let ended : drop c.loop-start.start files ≡ [] = drop_all c.loop-start.start files
    (omega (
      arith,
      length-files_below c.args.depth c.args.files.now c.args.attrs.now c.args.roots.now
          c.requires.letters_each c.requires.one_each,
    )) in
    sym (followed_by-none (pairs_view c.loop-start.pairs.items)) ∙ (rw ended at c.loop-start.invariant.1)

pub folder-returns-clause-rooted : goal.folder-returns-clause-rooted
folder-returns-clause-rooted t c =
    All-same IsRoot c.args.roots.now (take c.loop-start.start c.args.roots.now) (sym
    (take_all c.loop-start.start c.args.roots.now (omega (arith, c.requires.one_each)))) c.loop-start.invariant.2

pub next_pair-returns-clause-made : goal.next_pair-returns-clause-made
next_pair-returns-clause-made t c =
    let name = c.index-names-depth.result in
    let named : name ≢ [] = faultless_named name c.as_bytes.ensures.faultless in
    let item = c.index-files-0.result in
    let deep : c.args.depth ≤ length item.0 = rw (← c.index-files-0.is) at (c.requires.deep 0 item c.requires.some) in
    let within : c.args.depth < length item.0 = omega (arith, ap length c.names.ensures.value) in
    let has : has_name_at c.args.depth name item.0 ≡ true =
    first_has c.args.depth name item.0 within (rw c.names-2.ensures.value at c.index-names-depth.is) in
    let some : 0 < c.run_len-count.result = elim (cases_lt 0 c.run_len-count.result) [
      | inl lt ↦ lt
      | inr past ↦ (let e : c.run_len-count.result ≡ 0 = omega arith in
          absurd (both_ways _ (rw (e, ← c.index-files-0.is) at (c.run_len-count.ensures.ends item (omega arith))) has))
    ] in
    let made = group_made c.args.depth name named c.args.files.now c.args.attrs.now c.args.roots.now
    c.run_len-count.result some c.requires.some c.requires.letters_each c.requires.one_each
    c.run_len-count.ensures.same c.run_len-count.ensures.ends
    (pairs_view c.in_ok-inside.inside.items) c.in_ok-inside.ensures.made in
    rw (c.in_ok-from_slice.ensures.items, c.as_bytes.ensures.value, dictionary_of_item) made

pub folder-next_pair-requires : goal.folder-next_pair-requires
folder-next_pair-requires t c = (
  omega arith,
  (
    omega arith,
    (search (rules, All-take, All-drop), (search (rules, All-take, All-drop), (omega arith, omega arith))),
  ),
)

pub next_pair-folder-requires : goal.next_pair-folder-requires
next_pair-folder-requires t c = (
  omega arith,
  (
    grind (arith, common_steps),
    (search (rules, All-take), (search rules, search rules)),
  ),
)

pub next_pair-returns-clause-count : goal.next_pair-returns-clause-count
next_pair-returns-clause-count t c = search (tests, rules, common_steps)
