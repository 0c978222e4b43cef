use Rattle.std.proofs.Common.{◌≡◌, ◌++◌, ◌∷◌, [], Some, Less, get_or, length, map, refl, arith}
use Rattle.std.proofs.lemmas.List.Elements.{All-pop, All-from_recursion}
use Rattle.tor_tree.specs.Path.{name_cmp}
use Rattle.tor_source.specs.steps.Order.{IsWaiting, path_in}
use Rattle.tor_source.specs.declared.folder.walk.WaitingName.{WaitingName}
use Rattle.tor_source.proofs.Entries.{ahead_folder, ahead_name, path_inside}
use Rattle.tor_source.proofs.FoundFiles.{rising_front}
use Rattle.tor_source.proofs.Waiting.{waiting_inside, waiting_name}
use Rattle.tor_source.proofs.Added.{moved_all, moved_more, moved_none, none_left}
use Rattle.tor_source.proofs.folder.walk.add_names.Goals as goal

pub loop-name-init : goal.loop-name-init
loop-name-init c = (
  c.requires,
  λ found start. (
    ahead_folder found c.args.above.now c.args.waiting.now.items start,
    λ k d lt. waiting_inside found
        (map (path_in c.args.above.now) c.args.waiting.now.items) c.args.above.now
        (get_or c.args.names.items k d).items start.paths,
  ),
  moved_none c.args.names.items
      c.args.waiting.now.items,
)

pub loop-name-preserved : goal.loop-name-preserved
loop-name-preserved c =
    let above = c.args.above.now in
    let name = c.in-Some.name in
    let left = c.pop.new.self.items in
    let entries = c.loop-name.waiting.items in
    let waiting = map (path_in above) entries in
    let next : WaitingName = record { depth = length above; name = name } in
    let items : c.loop-name.names.items ≡ left ++ name ∷ [] = c.in-Some.ensures.items in
    let front = rising_front (λ one next. name_cmp one.items next.items) left name
    (rw items at c.loop-name.invariant.0) in
    let pushed : map (path_in above) (entries ++ next ∷ []) ≡ waiting ++ (above ++ name.items ∷ []) ∷ [] =
    path_inside above entries next refl in (
      front.0,
      λ found start.
          let before = c.loop-name.invariant.1 found start in
          let each = All-pop (λ one. IsWaiting found (waiting ++ (above ++ one.items ∷ []) ∷ []))
          c.loop-name.names.items left (Some name) items before.1 in (
            rw c.in_ok-push.ensures.items (ahead_name found above entries next refl before.0 each.1),
            λ k d lt.
                let less : name_cmp (get_or left k d).items name.items ≡ Less =
                All-from_recursion (λ one. name_cmp one.items name.items ≡ Less) left front.1 k d lt in
                rw (c.in_ok-push.ensures.items, pushed)
                (waiting_name found waiting above (get_or left k d).items name.items less each.1 (each.0 k d lt)),
          ),
      rw c.in_ok-push.ensures.items
          (moved_more c.args.names.items left c.args.waiting.now.items entries next
          (rw items at c.loop-name.invariant.2)),
    )

pub returns-clause-ahead : goal.returns-clause-ahead
returns-clause-ahead c = λ found start. (c.loop-name.invariant.1 found start).0

pub returns-clause-all : goal.returns-clause-all
returns-clause-all c =
    let none : c.loop-name.names.items ≡ [] =
    none_left c.loop-name.names.items (omega (arith, c.loop-name.names.ok.0, c.in_default.ensures.cases.0)) in
    moved_all c.args.names.items c.args.waiting.now.items c.loop-name.waiting.items
    (rw none at c.loop-name.invariant.2)
