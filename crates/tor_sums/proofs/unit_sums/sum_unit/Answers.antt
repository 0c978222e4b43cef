-- what was read sums up
use Rattle.std.proofs.Common.{◌≡◌, ℕ, List, [], ◌∷◌, ◌++◌, Option, None, Some, false, cond, length}
use Rattle.std.proofs.Common.{append-nil, ap, sym, ◌∙◌}
use Rattle.tor_plan.specs.Content.{unit_content}
use Rattle.tor_merkle.specs.Feeding.{Feeding}
use Rattle.tor_tree.specs.Kinds.{has_v1, has_v2}
use Rattle.tor_tree.specs.declared.kinds.Kind.{Kind}
use Rattle.tor_sums.specs.Hasher.{IsTreeOf}
use Rattle.tor_v1.specs.Piece.{piece_sums}
use Rattle.tor_sums.proofs.PartReads.{reads_as}
use Rattle.tor_sums.proofs.UnitNodes.{node_of_unit, room_of_unit}
use Rattle.tor_sums.proofs.unit_sums.sum_unit.Goals as goal

no_tree : (kind : Kind) (p : ℕ) (bytes : List ℕ) (tree : Option Feeding) → has_v2 kind ≡ false
    → IsTreeOf kind p bytes tree → tree ≡ None
no_tree kind p bytes tree none is =
    is ∙ ap (λ b. cond b (Some (record { piece_length = p; bytes = bytes })) None) none

pub new-requires : goal.new-requires
new-requires g c = λ tree found level at.
    let room = c.requires.unit.room level (c.level_in.ensures.tree level at) in
    let took = c.in-Ok.ensures.owing c.requires.owing.0 c.requires.owing.1 in
    room_of_unit c.args.plan.now c.args.unit.now c.requires.unit.within room.0
    (g.S.FileBytes.is_steady c.args.source.now) took.0 c.in-Ok.tree tree level took.1 found room.1

pub returns-clause-owing : goal.returns-clause-owing
returns-clause-owing g c = λ owed owes.
    let unit = c.args.unit.now in
    let plan = c.args.plan.now in
    let took = c.in-Ok.ensures.owing owed owes in
    let read = took.1 in (
      took.0,
      (
        record {
          reads = read.reads;
          are = reads_as (g.S.FileBytes.is_steady c.args.source.now) plan unit.parts (unit.parts ++ [])
              read.reads (sym (append-nil unit.parts)) read.are;
          sums = λ contents fit have.
              let tree = read.trees contents have in
              record {
                nodes = λ trees. node_of_unit plan unit c.requires.unit.within trees contents fit _ c.level_in.result
                    c.in-Ok.tree tree c.new.ensures.node c.level_in.ensures.level;
                bare = λ none. ap (λ n. n ∷ []) (c.new.ensures.bare
                    (no_tree plan.kind plan.piece_length _ c.in-Ok.tree none tree));
                pieces = read.is_own ∙ ap (λ xs. cond (has_v1 plan.kind) xs [])
                    (ap (piece_sums plan.piece_length) (sym (read.same contents have))
                    ∙ sym (append-nil (piece_sums plan.piece_length (unit_content contents unit))));
              };
        },
        ap (λ pieces. length pieces.items) c.new.ensures.pieces
            ∙ c.in_ok-pieces.ensures read.joined (read.long ∙ sym c.unit_length.ensures)
            ∙ sym (ap length read.is_own),
      ),
      took.2,
    )
