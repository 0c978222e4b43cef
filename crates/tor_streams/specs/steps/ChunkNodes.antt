-- The nodes of chunks, each as if it were alone in its file. Only private clauses cite these.
use Rattle.std.specs.Prelude.{◌≡◌, ◌*◌, ◌<◌, ◌≤◌, ℕ, List, length, map, None}
use Rattle.std.specs.List.{AllByRecursion, flat_map}
use Rattle.tor_merkle.specs.declared.TheConstants.{MAX_LENGTH}
use Rattle.tor_merkle.specs.Layer.{IsPieceLength}
use Rattle.tor_sums.specs.UnitNodes.{Node, node_over}
use Rattle.tor_sums.specs.UnitSums.{node_in}
use Rattle.tor_sums.specs.declared.unit_sums.UnitSums.{UnitSums}
use Rattle.tor_streams.specs.declared.chunking.Chunking.{Chunking}
use Rattle.tor_streams.specs.steps.Cuts.{node_of_bytes, pieces_of_cut, runs_of, stream_cuts}

-- this is the node of a run of so many bytes
pub record IsRunNode (piece_length count : ℕ) (run : List ℕ) (one : UnitSums) : Type 0 where
  pub some : 0 < count
  pub counted : length run ≡ count
  pub node : node_in one ≡ node_over piece_length None run

-- lengths of pieces and chunks over which there are trees
pub record IsTreeChunking (chunking : Chunking) : Type 0 where
  pub piece : IsPieceLength chunking.piece_length
  pub chunk : IsPieceLength chunking.size
  pub span : ℕ
  pub some : 0 < span
  pub size : chunking.size ≡ span * chunking.piece_length

abbrev pub nodes_alone : Chunking → List ℕ → List Node
nodes_alone chunking content = map (node_over chunking.piece_length None) (runs_of chunking.size content)

-- these are the nodes of the chunks of one content
pub record AreNodesOfOne (chunking : Chunking) (content : List ℕ) (count : ℕ) (own : List UnitSums) : Type 0 where
  pub counted : length content ≡ count
  pub small : count ≤ MAX_LENGTH
  pub nodes : map node_in own ≡ nodes_alone chunking content

-- of those of several, one after the other
pub record AreNodesOf (chunking : Chunking) (contents : List (List ℕ)) (lengths : List ℕ) (chunks : List UnitSums)
    : Type 0 where
  pub counted : map length contents ≡ lengths
  pub small : AllByRecursion (λ content. length content ≤ MAX_LENGTH) contents
  pub nodes : map node_in chunks ≡ flat_map (nodes_alone chunking) contents

-- these are the nodes of all chunks of contents, where the kind has trees, and the SHA-1 of their pieces
pub record SumUpCuts (chunking : Chunking) (contents : List (List ℕ)) (lengths : List ℕ) (chunks : List UnitSums)
    : Type 0 where
  pub counted : map length contents ≡ lengths
  pub small : AllByRecursion (λ content. length content ≤ MAX_LENGTH) contents
  pub nodes : map node_in chunks ≡ map (λ cut. node_of_bytes chunking cut.0) (stream_cuts chunking contents)
  pub pieces : map (λ sums. sums.pieces.items) chunks ≡ map (pieces_of_cut chunking) (stream_cuts chunking contents)
