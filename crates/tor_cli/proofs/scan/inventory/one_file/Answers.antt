-- The one path rises.
use Rattle.std.proofs.Common.{◌∙◌, ◌∷◌, ◌≤◌, [], ap, arith, length, refl, true}
use Rattle.std.proofs.lemmas.List.Elements.{All-cons, All-nil}
use Rattle.tor_cli.proofs.LetteredPaths.{found_rise}
use Rattle.tor_cli.proofs.scan.inventory.one_file.Goals as goal

pub returns-clause-found : goal.returns-clause-found
returns-clause-found c =
    let paths = c.in_ok-vec.ensures.items ∙ ap (λ path. path ∷ []) c.in_ok-path.ensures in
    record {
      one_each = rw (c.in_ok-vec.ensures.items, c.in_ok-vec-2.ensures.items) refl;
      rising = found_rise c.in_ok-name.name true c.in_ok-vec.field-0.items paths;
      short = rw paths (All-cons (λ path. length path ≤ 64) (c.in_ok-name.name ∷ []) [] (omega arith)
          (All-nil (λ path. length path ≤ 64)));
      parts = tt;
    }
