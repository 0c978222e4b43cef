use Rattle.tor_source.proofs.Parted.{all_taken}
use Rattle.tor_source.proofs.folder.FolderSource.listed.Goals as goal

pub returns-clause-all : goal.returns-clause-all
returns-clause-all g c = λ none.
    rw c.in_ok-survey.ensures.paths
    (all_taken c.args.files.items c.in_ok-found.found.paths.items c.in_ok-found.found.refused.items
    (rw c.in_ok-survey.ensures.refused at none) (rw c.deref.ensures.value at c.in_ok-found.ensures.parted))
