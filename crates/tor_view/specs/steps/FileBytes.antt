-- For the model of a file among pieces, and for the loop over its pieces.
use Rattle.std.specs.Prelude.{◌≡◌, ℕ, ◌+◌, ◌<◌, List, [], ◌∷◌, ◌++◌, nat_lt, if◌then◌else◌}
use Rattle.std.specs.Int.{div_ceil}
use Rattle.tor_view.specs.declared.file_pieces.ByteRange.{ByteRange}
use Rattle.tor_view.specs.declared.spans.FileSpan.{FileSpan}

-- these are the pieces of so many bytes that have some of the file
pub record IsSpanOf (p : ℕ) (span : FileSpan) : Type 0 where
  pub some : 0 < p
  pub lead : span.lead < p
  pub filled : 0 < span.length → span.after ≡ span.first + div_ceil (span.lead + span.length) p
  pub empty : span.length ≡ 0 → span.after ≡ span.first

-- one range more, unless it is empty
abbrev pub with_range : List ByteRange → ℕ → ℕ → List ByteRange
with_range ranges from to = ranges ++ (if nat_lt from to then record { from = from; to = to } ∷ [] else [])
