use Rattle.tor_view.proofs.Names.{None, file_spans, get_or, no_span}
use Rattle.tor_view.proofs.SpanBounds.{empty_has_none, empty_is}
use Rattle.tor_view.proofs.laws.empty_files_are_whole.Goals as goal

pub returns : goal.returns
returns c = λ view lengths held file cut empty.
    empty_is held (get_or (file_spans view) file no_span) (get_or lengths file None) (empty_has_none view file cut)
    empty
