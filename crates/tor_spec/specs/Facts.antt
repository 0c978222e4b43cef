-- What a torrent says of its files.
use Rattle.std.specs.Prelude.{ℕ, List, map, length, Option}
use Rattle.tor_merkle.specs.Layer.{root_of, piece_layer}
use Rattle.tor_tree.specs.declared.attr.Attr.{Attr}

-- a file: the names that lead to it, its bytes, and its letters, those of "attr" of BEP 47
pub record File : Type 0 where
  pub path : List (List ℕ)
  pub content : List ℕ
  pub attr : Attr

-- the names that lead to a file, how many bytes it has, its pieces root, the hashes of its piece layer, as BEP 52 has
-- them in "pieces root" and "piece layers", and its letters
pub record Facts : Type 0 where
  pub path : List (List ℕ)
  pub size : ℕ
  pub root : Option (List ℕ)
  pub layer : List (List ℕ)
  pub attr : Attr

-- the facts of a file in pieces of this length
abbrev pub facts_of : ℕ → File → Facts
facts_of piece_length file = record {
  path = file.path;
  size = length file.content;
  root = root_of file.content;
  layer = piece_layer file.content piece_length;
  attr = file.attr;
}

-- paths and lengths
abbrev pub listed : List Facts → List (List (List ℕ) × ℕ)
listed facts = map (λ file. (file.path, file.size)) facts

abbrev pub roots_in : List Facts → List (Option (List ℕ))
roots_in facts = map (λ file. file.root) facts

abbrev pub layers_in : List Facts → List (List (List ℕ))
layers_in facts = map (λ file. file.layer) facts

abbrev pub attrs_in : List Facts → List Attr
attrs_in facts = map (λ file. file.attr) facts
