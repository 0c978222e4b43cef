-- For the loop over entries alone.
use Rattle.std.specs.Prelude.{ℕ, List, [], ◌∷◌, if◌then◌else◌}
use Rattle.tor_view.specs.Files.{joined_span}
use Rattle.tor_view.specs.declared.spans.FileSpan.{FileSpan}
use Rattle.tor_v1.specs.declared.entry.Entry.{Entry}

-- none of padding
abbrev pub span_of_entry : ℕ → ℕ → Entry → List FileSpan
span_of_entry p start entry = if entry.pad then [] else joined_span p start entry.length ∷ []
