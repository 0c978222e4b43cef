-- paths that rise stay in their order, each with its length
use Rattle.std.proofs.Common.{◌≡◌, ◌∙◌, ℕ, List, [], ◌∷◌, ap, refl, subst, sym, arith}
use Rattle.std.proofs.lemmas.Grind.{common_steps}
use Rattle.std.specs.List.{zip}
use Rattle.tor_meta.specs.MakeStreams.{are_rising}
use Rattle.tor_meta.proofs.RisingPaths.{stay_in_order}
use Rattle.tor_tree.specs.FileList.{lengths_of, paths_of}
use Rattle.tor_tree.specs.PathList.{AreIndexedPaths}
use Rattle.tor_meta.proofs.listing.list_of.Goals as goal

both : (files : List (List (List ℕ) × ℕ)) → zip (paths_of files) (lengths_of files) ≡ files
both [] = refl
both (file ∷ files) = ap (λ (fs : List (List (List ℕ) × ℕ)). file ∷ fs) (both files)

pub returns-then-rising-clause-same : goal.returns-then-rising-clause-same
returns-then-rising-clause-same c =
    let paths = paths_of c.args.files.now in
    let copied = c.in_ok-paths.ensures in
    let entries = stay_in_order paths c.in-Ok.paths
    (ap are_rising (sym copied ∙ sym c.deref.ensures.value) ∙ sym c.if-rising.ensures)
    (subst (λ (copies : List (List (List ℕ))). AreIndexedPaths copies c.in-Ok.paths) copied c.in-Ok.ensures.indexed)
    c.in-Ok.ensures.lawful.in_order in
    c.in-Ok-with_lengths.ensures.list paths entries
    ∙ ap (zip paths) (c.deref-2.ensures.value ∙ c.in_ok-lengths.ensures) ∙ both c.args.files.now

pub with_lengths-requires : goal.with_lengths-requires
with_lengths-requires c = grind (arith, common_steps)
