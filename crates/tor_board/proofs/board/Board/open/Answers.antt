use Rattle.tor_board.proofs.Names.{AreStarts, List, None, Option, Shape, Tree, ap, arith, length, refl, replicate, rules, set, subst}
use Rattle.tor_board.proofs.{Names.{sym, units_in, ℕ, ◌*◌, ◌+◌, ◌∙◌, ◌≡◌}, Opening.{opens, runs_back}}
use Rattle.tor_board.proofs.{Apart.few_units, Names.AreApart, Opening.shaped}
use Rattle.tor_board.proofs.board.Board.open.Goals as goal

abbrev zero_word : ℕ
zero_word = 0

pub overflow_add-units_in_trees : goal.overflow_add-units_in_trees
overflow_add-units_in_trees c = grind (arith, few_units c.args.units c.args.forest.now.trees.items c.requires.runs)

pub returns-clause-board : goal.returns-clause-board
returns-clause-board c = grind (arith, runs_back 0 0 c.args.forest.now.trees.items)

pub new-requires : goal.new-requires
new-requires c = let runs = c.deref.result.now in let trees = c.in_ok-trees.ensures in
    let are = subst (AreApart c.args.units) (sym c.deref.ensures.value) c.requires.runs in
    let shape : Shape = record { units = c.args.units; trees = c.in_ok-trees.trees } in
    opens shape (units_in runs) (shaped c.args.units runs are c.requires.units shape refl trees.trees)
    c.deref-3.result.now (c.deref-3.ensures.value
    ∙ ap (λ (l : List ℕ). set l 1 18446744073709551615) (c.in_ok-words.ensures.items_if_clones_equal (λ y e. e)
    ∙ ap (λ (n : ℕ). replicate (2 + n) (zero_word)) trees.units_in_trees))
    c.in_ok-slots.slots.items (omega (arith, c.in_ok-slots.ensures.len, trees.units_in_trees))

pub invariant_of-result : goal.invariant_of-result
invariant_of-result c =
    let runs = c.deref.result.now in let trees = c.in_ok-trees.ensures in let ok = c.in-Ok.ensures.ok in
    let are = subst (AreApart c.args.units) (sym c.deref.ensures.value) c.requires.runs in
    let shape : Shape = record { units = c.args.units; trees = c.in_ok-trees.trees } in
    let words : c.in-Ok.table.shared.table_id.words ≡ 2 + units_in runs = grind arith in
    let slots : c.in-Ok.table.shared.table_id.slots ≡ 2 * units_in runs = grind arith in
    let roots : c.len.result ≡ length c.in_ok-trees.trees.items = omega (arith, c.len.ensures) in record {
      bare = c.in_ok-roots.ensures.items_if_clones_equal (λ y e. search rules)
          ∙ ap (λ (n : ℕ). replicate {A = Option (List ℕ)} n None) roots;
      sized = ok.5;
      shaped = rw (words, slots) (shaped c.args.units runs are c.requires.units shape refl trees.trees);
      started = subst (λ (l : List Tree). AreStarts l c.in_ok-starts.starts.items) c.deref-2.ensures.value
          c.in_ok-starts.ensures;
    }
