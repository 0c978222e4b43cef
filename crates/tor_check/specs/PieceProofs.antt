-- Proofs that the hash of a piece stands in the tree of its file (BEP 52, "piece layers").
use Rattle.std.specs.Prelude.{◌≡◌, ◌==◌, ℕ, not, ◌||◌, List, nat_le, slice_get, slice_index_or}
use Rattle.std.specs.Prelude.{IsTrue, Option, None, Some, if◌then◌else◌}
use Rattle.tor_merkle.specs.Proof.{is_proof, proof_count, proof_level}
use Rattle.tor_merkle.specs.Subtree.{zero_leaf}
use Rattle.tor_check.specs.declared.piece_proofs.ProveError.{ProveError}
use Rattle.tor_check.specs.declared.piece_proofs.ProveError.TheVariants as errors
use Rattle.tor_spec.specs.valid.Layers.{is_long, root_of_file}
use Rattle.tor_spec.specs.valid.View.{FileView, View}
use Rattle.tor_tree.specs.Kinds.{has_v2}
use Rattle.tor_tree.specs.declared.kinds.Kind.{Kind}

-- why a piece of a file has no proof, the first that holds: there is no such file; there is no v2 side, or the file is
-- empty; the file has no such piece
abbrev pub refusal_at : Kind → ℕ → Option FileView → ℕ → Option ProveError
refusal_at kind piece_length None index = Some errors.Index
refusal_at kind piece_length (Some told) index =
    if not (has_v2 kind) || told.file.length == 0 then Some errors.NoTree else (
    if nat_le (proof_count told.file.length piece_length) index then Some errors.Index else None)

-- why a piece of a torrent's file has no proof. It is the first reason that holds, of the file at an index (profile)
abbrev pub piece_refusal : View → ℕ → ℕ → Option ProveError
piece_refusal view file index = refusal_at view.kind view.piece_length (slice_get view.files file) index

-- the hash of a piece: the one of its layer, or the root of a file that has no layer
abbrev pub piece_hash : ℕ → FileView → ℕ → List ℕ
piece_hash piece_length told index =
    if is_long piece_length told.file then slice_index_or told.layer index zero_leaf else root_of_file told.file

-- the hash of a piece, and its siblings. They lead from it to the root of the file (BEP 52, "piece layers"; profile)
pub record IsPieceProof (piece_length : ℕ) (told : FileView) (index : ℕ) (hash : List ℕ)
    (siblings : List (List ℕ)) : Type 0 where
  pub of_piece : hash ≡ piece_hash piece_length told index
  pub proof : IsTrue (is_proof (root_of_file told.file) (proof_count told.file.length piece_length)
      (proof_level told.file.length piece_length) index hash siblings)
