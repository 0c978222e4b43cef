-- the bytes stand behind what the tree has
use Rattle.std.proofs.Common.{◌≡◌, ◌++◌, ◌∙◌, [], ap, append_assoc, append-nil, arith, length, refl, subst, sym, take}
use Rattle.std.proofs.Common.{List, ℕ, take-append-drop}
use Rattle.tor_sums.proofs.OwedSums.{nothing_in}
use Rattle.tor_sums.specs.steps.Room.{count_in}
use Rattle.tor_sums.specs.steps.Worker.{HasTaken}
use Rattle.tor_sums.proofs.worker.WorkerSums.feed_pieces.Goals as goal

pub parts-init : goal.parts-init
parts-init c =
    let room = ap count_in c.in_ok-feed_tree.ensures.room in
    record {
      treed = omega (arith, c.in_ok-feed_tree.ensures.treed, c.count_held.ensures, room, c.args.self.now.marked);
      taken = (
        [],
        refl,
        λ kind p before unit taken.
            subst (λ (xs : List ℕ). HasTaken kind p before xs c.feed_tree.new.self) (sym (append-nil unit)) taken,
      );
    }

pub parts-preserved : goal.parts-preserved
parts-preserved c =
    let done = c.parts.invariant.taken in
    let put = c.in_ok-count.ensures in
    let count = c.in_ok-count.count in
    let left = c.parts.left.now in
    record {
      treed = put.treed;
      taken = (
        done.0 ++ take count left,
        append_assoc done.0 (take count left) c.split_at.result.1.now
            ∙ ap (λ xs. done.0 ++ (take count left ++ xs)) c.split_at.ensures.back
            ∙ ap (λ xs. done.0 ++ xs) (take-append-drop count left) ∙ done.1,
        λ kind p before unit taken.
            subst (λ (xs : List ℕ). HasTaken kind p before xs c.put.new.self)
            (append_assoc unit done.0 (take count left))
            (put.taken kind p before (unit ++ done.0) (done.2 kind p before unit taken)),
      );
    }

pub returns : goal.returns
returns c = λ kind p before unit taken.
    let done = c.parts.invariant.taken in
    let left = c.parts.left.now in
    let none : left ≡ [] = nothing_in (length left) left refl c.parts-test.ensures in
    let all : done.0 ≡ c.args.bytes.now = sym (append-nil done.0) ∙ ap (λ xs. done.0 ++ xs) (sym none) ∙ done.1 in
    subst (λ (xs : List ℕ). HasTaken kind p before (unit ++ xs) c.parts.self) all
    (done.2 kind p before unit (c.in_ok-feed_tree.ensures.keeps kind p before unit taken))
