-- one more file, and all of them
use Rattle.std.proofs.Common.{◌∙◌, ℕ, Global, Vec, ap, map, refl}
use Rattle.std.proofs.IntoIterSteps.{All-taken}
use Rattle.tor_tree.specs.declared.paths.FilePath.{FilePath}
use Rattle.tor_meta.proofs.ListSteps.{taken_more}
use Rattle.tor_meta.proofs.contents.split.Goals as goal

pub loop-path-preserved : goal.loop-path-preserved
loop-path-preserved c =
    let taken = c.loop-path.yielded in
    let file : FilePath × Vec ℕ Global = (c.in-Some.path, c.in-Some.content) in (
      c.in_ok-push.ensures.items
          ∙ taken_more (λ file. file.0) taken file c.loop-path.paths.items file.0 c.loop-path.invariant.0 refl,
      c.in_ok-push-2.ensures.items
          ∙ taken_more (λ file. file.1) taken file c.loop-path.contents.items file.1 c.loop-path.invariant.1 refl,
    )

pub returns : goal.returns
returns c =
    let begun = c.into_iter-path-iterator in
    let all = All-taken begun.result c.loop-path.yielded
    (c.next.new.self, (c.loop-path.path-iterator, c.loop-path.yielded_by, c.in-None.ensures.steps))
    ∙ begun.ensures.into_iter_gives.0 in record {
      paths = c.loop-path.invariant.0 ∙ ap (map (λ file. file.0)) all;
      contents = c.loop-path.invariant.1 ∙ ap (map (λ file. file.1)) all;
    }
