-- The sums of the units of a plan are those of its files.
use Rattle.std.proofs.Common.{◌≡◌, ◌≢◌, ℕ, ◌*◌, ◌<◌, ◌≤◌, IsTrue, true, false, List, length, map, arith, refl, ap}
use Rattle.std.proofs.Common.{◌∙◌, sym, mul-pos}
use Rattle.std.proofs.lemmas.Bool.{le-leb}
use Rattle.std.specs.Int.{is_power_of_two}
use Rattle.std.specs.List.{flat_map}
use Rattle.tor_merkle.specs.Layer.{IsPieceLength}
use Rattle.tor_merkle.specs.declared.TheConstants.{MAX_PIECE_LENGTH, MIN_PIECE_LENGTH}
use Rattle.tor_plan.specs.Content.{unit_content}
use Rattle.tor_plan.specs.Entries.{entry_units, separate_entry_units}
use Rattle.tor_plan.specs.PlanFacts.{PlanFacts, IsPlan, IsPlanPieceLength}
use Rattle.tor_plan.proofs.ProvedLaws.{entry_units_are_the_content, pieces_are_in_entry_units}
use Rattle.tor_tree.specs.Kinds.{has_v1, has_v2}
use Rattle.tor_tree.specs.declared.kinds.Kind.{Kind}
use Rattle.tor_tree.specs.declared.kinds.Kind.TheVariants.{V1, V2, Hybrid}
use Rattle.tor_v1.specs.Piece.{piece_sums}
use Rattle.tor_v1.specs.declared.entry.Entry.{Entry}
use Rattle.tor_sums.specs.steps.Hashes.{level_of, nodes_of_file, nodes_of_unit}
use Rattle.tor_sums.proofs.NodesByUnit.{nodes_from}

-- the kinds with trees cut each file by itself
units_with_trees : (kind : Kind) (p span : ℕ) (entries : List Entry) → has_v2 kind ≡ true
    → entry_units kind p span entries ≡ separate_entry_units (span * p) 0 entries
units_with_trees V1 p span entries trees = cc
units_with_trees V2 p span entries trees = refl
units_with_trees Hybrid p span entries trees = refl

-- no plan has pieces of no byte
pub some_piece : (kind : Kind) (p : ℕ) → IsPlanPieceLength kind p → 0 < p
some_piece V1 p pieces = omega (arith, pieces.0)
some_piece V2 p pieces = omega (arith, pieces.1)
some_piece Hybrid p pieces = omega (arith, pieces.1)

-- V2 has no SHA-1 of pieces
not_v2 : (kind : Kind) → has_v1 kind ≡ true → kind ≢ V2
not_v2 kind pieces is_v2 = let none : false ≡ true = ap has_v1 (sym is_v2) ∙ pieces in absurd cc

-- a power of two within the bounds is a piece length of trees
bounded : (n : ℕ) → IsTrue (is_power_of_two n) × (MIN_PIECE_LENGTH ≤ n) × (n ≤ MAX_PIECE_LENGTH) → IsPieceLength n
bounded n h =
    let from = le-leb MIN_PIECE_LENGTH n h.1 in let to = le-leb n MAX_PIECE_LENGTH h.2 in rw (h.0, from, to) refl

-- so is that of a plan with trees
pub allowed_with_trees : (kind : Kind) (p : ℕ) → IsPlanPieceLength kind p → has_v2 kind ≡ true → IsPieceLength p
allowed_with_trees V1 p pieces trees = cc
allowed_with_trees V2 p pieces trees = bounded p pieces
allowed_with_trees Hybrid p pieces trees = bounded p pieces

-- the nodes of the units are those of the files
pub unit_nodes_of_files : (plan : PlanFacts) (contents : List (List ℕ)) (is : IsPlan plan) → has_v2 plan.kind ≡ true
    → map length contents ≡ plan.lengths
    → flat_map (nodes_of_unit plan.piece_length (level_of plan.trees) contents) plan.units
    ≡ flat_map (nodes_of_file plan.piece_length (is.span * plan.piece_length) (level_of plan.trees)) contents
unit_nodes_of_files plan contents is trees fit =
    let p = plan.piece_length in
    let level = level_of plan.trees in
    ap (flat_map (nodes_of_unit p level contents))
    (ap (λ facts. facts.units) is.made ∙ units_with_trees plan.kind p is.span is.entries trees)
    ∙ nodes_from p (is.span * p) level contents 0 is.entries contents refl
    (fit ∙ ap (λ facts. facts.lengths) is.made)

-- the SHA-1 of the pieces of the units are those of what the units have together
pub unit_pieces_of_files : (plan : PlanFacts) (contents : List (List ℕ)) → IsPlan plan → has_v1 plan.kind ≡ true
    → map length contents ≡ plan.lengths
    → flat_map (λ unit. piece_sums plan.piece_length (unit_content contents unit)) plan.units
    ≡ piece_sums plan.piece_length (flat_map (unit_content contents) plan.units)
unit_pieces_of_files plan contents is pieces fit =
    let p = plan.piece_length in
    let pos = some_piece plan.kind p is.pieces in
    let unit : 0 < is.span * p = mul-pos (omega (arith, is.is_span.1)) pos in
    let laid = is.is_list.laid_out in
    let cut = ap (λ facts. facts.units) is.made in
    let long = fit ∙ ap (λ facts. facts.lengths) is.made in
    ap (flat_map (λ unit. piece_sums p (unit_content contents unit))) cut
    ∙ pieces_are_in_entry_units plan.kind p is.span is.entries contents (not_v2 plan.kind pieces) pos unit laid long
    ∙ sym (ap (piece_sums p) (ap (flat_map (unit_content contents)) cut
    ∙ entry_units_are_the_content plan.kind p is.span is.entries contents unit laid long))
