use Rattle.std.proofs.lemmas.Grind.{common_steps}
use Rattle.tor_bencode.proofs.Names.{◌≡◌, ap, ◌∙◌, sym, subst, arith, false≢true, dictionary, keys_of, AreRising}
use Rattle.tor_bencode.proofs.Names.{IsLawfulWithin, view, items_view, list, pairs_view}
use Rattle.tor_bencode.proofs.Lawfulness.{lawful-dictionary, lawful-list}
use Rattle.tor_bencode.proofs.Views.{view-Dict, view-List}
use Rattle.std.proofs.lemmas.Bool.{ltb-true}
use Rattle.tor_bencode.proofs.tree.+lawful.Goals.{is_lawful-then-room-gt0-2, is_lawful-else-room-gt0-2}
use Rattle.tor_bencode.proofs.tree.+lawful.Goals as goal

pub is_lawful-returns-else-keys_rise : goal.is_lawful-returns-else-keys_rise
is_lawful-returns-else-keys_rise t c =
    let seen : view c.args.item.now ≡ dictionary (pairs_view c.in-Dict.pairs.items) =
    ap view c.in-Dict.is ∙ view-Dict c.in-Dict.pairs in
    let parts =
    λ (h : IsLawfulWithin c.args.room (view c.args.item.now)). (lawful-dictionary c.args.room
    (pairs_view c.in-Dict.pairs.items)).0 (subst (IsLawfulWithin c.args.room) seen h) in
    elim c.if-room-gt0-2.branch [
      | is_lawful-then-room-gt0-2 w ↦ (
        λ e. absurd (false≢true (sym c.if-keys_rise.false ∙ e)),
        λ h. w.value-is ∙ w.keys_rise.ensures.1
            (subst (λ ps. AreRising (keys_of (pairs_view ps))) (sym w.deref.ensures.value) (parts h).1),
      )
      | is_lawful-else-room-gt0-2 w ↦ (
        λ e. absurd (false≢true (sym c.if-keys_rise.false ∙ e)),
        λ h. let more = (parts h).0 in absurd (omega arith),
      )
    ]

pub is_lawful-returns-then-room-gt0 : goal.is_lawful-returns-then-room-gt0
is_lawful-returns-then-room-gt0 t c =
    let seen : view c.args.item.now ≡ list (items_view c.in-List.items.items) =
    ap view c.in-List.is ∙ view-List c.in-List.items in
    let lawful = lawful-list c.args.room (items_view c.in-List.items.items) in (
      λ e. subst (IsLawfulWithin c.args.room) (sym seen)
          (lawful.1 (c.if-room-gt0.true, c.all_are_lawful.ensures.0 e)),
      λ h. c.all_are_lawful.ensures.1 (lawful.0 (subst (IsLawfulWithin c.args.room) seen h)).1,
    )

pub is_lawful-returns-else-room-gt0 : goal.is_lawful-returns-else-room-gt0
is_lawful-returns-else-room-gt0 t c =
    let seen : view c.args.item.now ≡ list (items_view c.in-List.items.items) =
    ap view c.in-List.is ∙ view-List c.in-List.items in (
      λ e. let more = ltb-true 0 c.args.room e in absurd (omega arith),
      λ h. let more =
          ((lawful-list c.args.room (items_view c.in-List.items.items)).0
          (subst (IsLawfulWithin c.args.room) seen h)).0 in
          absurd (omega arith),
    )

pub is_lawful-returns-then-keys_rise : goal.is_lawful-returns-then-keys_rise
is_lawful-returns-then-keys_rise t c =
    let seen : view c.args.item.now ≡ dictionary (pairs_view c.in-Dict.pairs.items) =
    ap view c.in-Dict.is ∙ view-Dict c.in-Dict.pairs in
    let lawful = lawful-dictionary c.args.room (pairs_view c.in-Dict.pairs.items) in (
      λ e. elim c.if-room-gt0-2.branch [
        | is_lawful-then-room-gt0-2 w ↦
            let rising = w.keys_rise.ensures.0 (sym w.value-is ∙ c.if-keys_rise.true) in
            subst (IsLawfulWithin c.args.room) (sym seen) (lawful.1 (
              w.if-room-gt0-2.true,
              subst (λ ps. AreRising (keys_of (pairs_view ps))) w.deref.ensures.value rising,
              c.values_are_lawful.ensures.0 e,
            ))
        | is_lawful-else-room-gt0-2 w ↦
            let more = ltb-true 0 c.args.room (sym w.value-is ∙ c.if-keys_rise.true) in absurd (omega arith)
      ],
      λ h. c.values_are_lawful.ensures.1 (lawful.0 (subst (IsLawfulWithin c.args.room) seen h)).2,
    )

-- A search fails at the loops' goals first, which takes longer than the proof.
pub all_are_lawful-returns : goal.all_are_lawful-returns
all_are_lawful-returns t c = grind (arith, common_steps)

pub values_are_lawful-returns : goal.values_are_lawful-returns
values_are_lawful-returns t c = grind (arith, common_steps)

pub all_are_lawful-loop-item-preserved : goal.all_are_lawful-loop-item-preserved
all_are_lawful-loop-item-preserved t c = grind (arith, common_steps)

pub values_are_lawful-loop-value-preserved : goal.values_are_lawful-loop-value-preserved
values_are_lawful-loop-value-preserved t c = grind (arith, common_steps)

pub all_are_lawful-returns-then-not-is_lawful : goal.all_are_lawful-returns-then-not-is_lawful
all_are_lawful-returns-then-not-is_lawful t c = grind (arith, common_steps)

pub values_are_lawful-returns-then-not-is_lawful : goal.values_are_lawful-returns-then-not-is_lawful
values_are_lawful-returns-then-not-is_lawful t c = grind (arith, common_steps)
