-- Contents in the order of a list. Only private clauses cite these.
use Rattle.std.specs.Borrow.{Bor}
use Rattle.std.specs.Prelude.{ℕ, List, [], map, Vec, slice_index_or}
use Rattle.std.specs.declared.alloc.Global.{Global}
pub use Rattle.tor_meta.specs.Contents.{files_of}

-- the contents that are borrowed
abbrev pub bytes_of : List (Bor (List ℕ)) → List (List ℕ)
bytes_of contents = map (λ content. content.now) contents

-- those at these indices
abbrev pub contents_at : List (Vec ℕ Global) → List ℕ → List (List ℕ)
contents_at contents indices = map (λ index. slice_index_or (map (λ content. content.items) contents) index []) indices
