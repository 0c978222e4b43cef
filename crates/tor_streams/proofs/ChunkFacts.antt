-- What one chunk sums up to, from what its bytes hash to.
use Rattle.std.proofs.Common.{◌≡◌, ◌≢◌, ℕ, Bool, true, false, cond, List, [], ◌++◌, None, Some, refl, ap, ap₂}
use Rattle.std.proofs.Common.{◌∙◌, sym}
use Rattle.std.specs.Option.{ForSome}
use Rattle.tor_merkle.specs.Feeding.{Feeding}
use Rattle.tor_tree.specs.Kinds.{has_v2}
use Rattle.tor_v1.specs.Piece.{zeros}
use Rattle.tor_sums.specs.Hasher.{AreHashesOf}
use Rattle.tor_sums.specs.UnitSums.{bare_node, node_in}
use Rattle.tor_sums.specs.UnitNodes.{Node, node_over}
use Rattle.tor_sums.specs.declared.hasher.Hashed.{Hashed}
use Rattle.tor_sums.specs.declared.unit_sums.UnitSums.{UnitSums}
use Rattle.tor_streams.specs.declared.chunking.Chunking.{Chunking}
use Rattle.tor_streams.specs.steps.Cuts.{facts_of, node_of_bytes, pieces_of_cut}

module _ (chunking : Chunking) (unit n : ℕ) (bytes : List ℕ) (some : bytes ≢ []) (hashed : Hashed) (sums : UnitSums)
    (are : AreHashesOf chunking.kind chunking.piece_length bytes (bytes ++ zeros n) hashed) (is_unit : sums.unit ≡ unit)
    (node : ForSome hashed.tree (λ (tree : Feeding). tree.bytes ≢ [] →
    node_in sums ≡ node_over tree.piece_length None tree.bytes))
    (bare : hashed.tree ≡ None → node_in sums ≡ bare_node) (pieces : sums.pieces ≡ hashed.pieces) where
  abbrev fed : Feeding
  fed = record { piece_length = chunking.piece_length; bytes = bytes }

  node_is : node_in sums ≡ node_of_bytes chunking bytes
  node_is = by_kind (has_v2 chunking.kind) refl
    where
      by_kind : (b : Bool) → has_v2 chunking.kind ≡ b → node_in sums ≡ node_of_bytes chunking bytes
      by_kind true trees =
          node fed (are.tree ∙ ap (λ b. cond b (Some fed) None) trees) some
          ∙ sym (ap (λ b. cond b (node_over chunking.piece_length None bytes) bare_node) trees)
      by_kind false none =
          bare (are.tree ∙ ap (λ b. cond b (Some fed) None) none)
          ∙ sym (ap (λ b. cond b (node_over chunking.piece_length None bytes) bare_node) none)

  pub facts_are : facts_of sums ≡ (unit, node_of_bytes chunking bytes, pieces_of_cut chunking (bytes, n))
  facts_are =
      ap₂ (λ a (b : Node × List ℕ). (a, b.0, b.1)) is_unit
      (ap₂ (λ (a : Node) (b : List ℕ). (a, b)) node_is (ap (λ v. v.items) pieces ∙ are.pieces))
