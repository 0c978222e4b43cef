use Rattle.{std.proofs.lemmas.List.{append-nil, append_assoc, at_drop_all, at_drop_more}, tor_board.proofs.Names.{List}}
use Rattle.tor_board.proofs.Names.{Tree, [], ap, arith, drop, map, start_of, sym, total, ℕ, ◌++◌, ◌+◌, ◌∙◌, ◌∷◌, ◌≡◌, get_or}
use Rattle.tor_board.proofs.Starts.{firsts_rise, same_weight}
use Rattle.tor_board.proofs.open.starts_of.Goals as goal

abbrev no_tree : Tree
no_tree = record { number = 0; offset = 0; first = 0; count = 0; level = 0; height = 0 }

pub trees-preserved : goal.trees-preserved
trees-preserved c = let trees = c.args.trees.now in let k = c.trees.tree-index in let before = c.trees.starts.items in
    let tree : Tree = get_or trees k no_tree in
    let more = at_drop_more (λ (l : List Tree). l) trees k no_tree c.trees-test.true in
    let pushed : c.push.new.self.items ≡ before ++ start_of tree ∷ [] = grind arith in
    let joined = append_assoc before (start_of tree ∷ []) (map start_of (drop (k + 1) trees)) in
    rw (pushed, joined) (ap (λ (l : List Tree). before ++ map start_of l) (sym more) ∙ c.trees.invariant)

pub returns : goal.returns
returns c = let trees = c.args.trees.now in let before = c.trees.starts.items in
    let end = at_drop_all (λ (l : List Tree). l) trees c.trees.tree-index c.trees-test.false in
    let all : before ≡ map start_of trees = sym (append-nil before)
    ∙ (ap (λ (l : List Tree). before ++ map start_of l) (sym end) ∙ c.trees.invariant) in record {
      all = λ f. same_weight before _ c.sort_unstable.ensures.permutation f ∙ ap (λ (l : List (ℕ × ℕ)). total f l) all;
      rise = firsts_rise _ c.sort_unstable.ensures.sorted;
    }
