-- Sums that a torrent can be made of, and the facts that they tell.
use Rattle.std.specs.Prelude.{◌≡◌, ℕ, true, List, [], ◌∷◌, ◌++◌, length, map}
use Rattle.std.specs.List.{AllZip}
use Rattle.tor_merkle.specs.Layer.{piece_layer}
use Rattle.tor_meta.specs.Head.{settings_of}
pub use Rattle.tor_meta.specs.Judged.{IsJudged}
use Rattle.tor_streams.specs.Streams.{AreSumsOfContents}
use Rattle.tor_sums.specs.Sums.{lists_of, plan_content}
use Rattle.tor_meta.specs.Order.{has_tail}
use Rattle.tor_meta.specs.declared.head.Head.{Head}
use Rattle.tor_sums.specs.declared.sums.Sums.{Sums}
use Rattle.tor_spec.specs.Facts.{Facts, attrs_in, listed, layers_in, roots_in}
use Rattle.tor_merkle.specs.Layer.{root_of}
use Rattle.tor_spec.specs.Settings.{Settings, layout_of}
use Rattle.tor_tree.specs.Kinds.{has_v1, has_v2}
use Rattle.tor_tree.specs.declared.kinds.Kind.{Kind}
use Rattle.tor_tree.specs.FileList.{LetteredFiles, lengths_of}
use Rattle.tor_tree.specs.TidyTree.{HasItsRoot}
use Rattle.tor_plan.specs.PlanFacts.{PlanFacts}
use Rattle.tor_v1.specs.Content.{joined_content, v1_pieces}
use Rattle.tor_v1.specs.Entries.{v1_entries}
use Rattle.tor_v1.specs.Piece.{piece_sums, zeros}

-- roots and layers for each of its files, a root just where the file is not empty
pub record HaveTrees (head : Head) (files : List (List (List ℕ) × ℕ)) (sums : Sums) : Type 0 where
  pub rooted : has_v2 head.kind ≡ true → AllZip HasItsRoot files sums.roots.items
  pub layered : has_v2 head.kind ≡ true → length sums.layers.items ≡ length files

-- the facts of the files with their letters, with these roots and layers where the head asks for them
pub record AreFactsOf (head : Head) (list : LetteredFiles) (sums : Sums) (facts : List Facts) : Type 0 where
  pub is_listed : listed facts ≡ list.files
  pub is_lettered : attrs_in facts ≡ list.attrs
  pub is_rooted : has_v2 head.kind ≡ true → roots_in facts ≡ sums.roots.items
  pub is_layered : has_v2 head.kind ≡ true → layers_in facts ≡ lists_of sums.layers.items

-- the sums are those of the contents, as far as the head asks for them
pub record SumUp (head : Head) (files : List (List (List ℕ) × ℕ)) (contents : List (List ℕ))
    (sums : Sums) : Type 0 where
  pub roots : has_v2 head.kind ≡ true → sums.roots.items ≡ map root_of contents
  pub layers : has_v2 head.kind ≡ true
      → lists_of sums.layers.items ≡ map (λ content. piece_layer content head.piece_length) contents
  pub pieces : has_v1 head.kind ≡ true
      → sums.pieces.items
      ≡ v1_pieces head.piece_length (v1_entries (layout_of (settings_of head)) head.piece_length files) contents

-- the plan is one of the files, and its units are the content of the torrent's entries
pub record IsPlanOf (head : Head) (files : List (List (List ℕ) × ℕ)) (plan : PlanFacts) : Type 0 where
  pub kind : plan.kind ≡ head.kind
  pub piece_length : plan.piece_length ≡ head.piece_length
  pub lengths : plan.lengths ≡ lengths_of files
  pub content : (contents : List (List ℕ)) → map length contents ≡ plan.lengths → plan_content plan contents
      ≡ joined_content (v1_entries (layout_of (settings_of head)) head.piece_length files) contents

-- they are those of some contents, which have the lengths of the files
abbrev pub SumUpSome : Head → List (List (List ℕ) × ℕ) → Sums → Type 0
SumUpSome head files sums =
    (contents : List (List ℕ)) × (map length contents ≡ lengths_of files) × SumUp head files contents sums

-- the sums of one file of these bytes, and so many zeros after them
pub record SumsOfOne (kind : Kind) (piece_length : ℕ) (bytes : List ℕ) (tail : ℕ) (sums : Sums) : Type 0 where
  pub roots : has_v2 kind ≡ true → sums.roots.items ≡ root_of bytes ∷ []
  pub layers : has_v2 kind ≡ true → lists_of sums.layers.items ≡ piece_layer bytes piece_length ∷ []
  pub pieces : has_v1 kind ≡ true → sums.pieces.items ≡ piece_sums piece_length (bytes ++ zeros tail)

-- the sums of contents that were read once, as settings ask for them
abbrev pub AreSumsOfSettings : Settings → List (List ℕ) → Sums → Type 0
AreSumsOfSettings settings contents sums =
    AreSumsOfContents settings.kind (has_tail settings) settings.piece_length contents sums
