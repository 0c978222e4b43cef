-- Words that a torrent is told with.
use Rattle.std.specs.Prelude.{ℕ, List, codes}
use Rattle.tor_tree.specs.declared.kinds.Kind.{Kind}
use Rattle.tor_tree.specs.declared.kinds.Kind.TheVariants.{V1, V2, Hybrid}

-- the word for a kind
abbrev pub word_of : Kind → List ℕ
word_of V1 = codes "v1"
word_of V2 = codes "v2"
word_of Hybrid = codes "hybrid"
