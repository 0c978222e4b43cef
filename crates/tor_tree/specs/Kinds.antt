-- Which sides a torrent of a kind has.
use Rattle.std.specs.Prelude.{Bool, true, false}
use Rattle.tor_tree.specs.declared.kinds.Kind.{Kind}
use Rattle.tor_tree.specs.declared.kinds.Kind.TheVariants.{V1, V2, Hybrid}

-- it has the keys of BEP 3
abbrev pub has_v1 : Kind → Bool
has_v1 V1 = true
has_v1 V2 = false
has_v1 Hybrid = true

-- it has the keys of BEP 52
abbrev pub has_v2 : Kind → Bool
has_v2 V1 = false
has_v2 V2 = true
has_v2 Hybrid = true
