-- paths that rise stay in their order
use Rattle.std.proofs.Common.{List, ℕ, inl, refl, sym, subst, ap, ◌∙◌}
use Rattle.tor_meta.proofs.RisingPaths.{stay_in_order}
use Rattle.tor_meta.specs.MakeStreams.{are_rising}
use Rattle.tor_tree.specs.FileList.{paths_of}
use Rattle.tor_tree.specs.PathList.{AreIndexedPaths}
use Rattle.tor_engine.proofs.ProvedLaws.{stopped, stopped_by}
use Rattle.tor_meta.proofs.from_streams.rising_paths.Goals as goal

pub returns-in-Ok-clause-same : goal.returns-in-Ok-clause-same
returns-in-Ok-clause-same c =
    let paths = paths_of c.args.files.now in
    let copied = c.in_ok-paths.ensures in
    stay_in_order paths c.in-Ok.paths
    (ap are_rising (sym copied ∙ sym c.deref-2.ensures.value) ∙ sym c.if-not-are_rising.ensures)
    (subst (λ (copies : List (List (List ℕ))). AreIndexedPaths copies c.in-Ok.paths) copied
    c.in-Ok.ensures.indexed)
    c.in-Ok.ensures.lawful.in_order

-- where there is no memory for the paths
pub returns-in_err-paths : goal.returns-in_err-paths
returns-in_err-paths c =
    let r = c.from_residual.result in
    let is = c.from_residual.ensures.1 in record {
      same = stopped _ _ r is;
      indexed = stopped _ _ r is;
      lawful = stopped _ _ r is;
      accepted = stopped _ _ r is;
      refused = stopped_by _ _ r is (inl refl);
    }
