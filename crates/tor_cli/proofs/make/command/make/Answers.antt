-- The options have a PATH.
use Rattle.std.proofs.Common.{rules, ◌≡◌, ℕ, List, Option, Some, subst, sym, option_map}
use Rattle.std.specs.Prelude.{IfErr}
use Rattle.tor_cli.specs.make.Request.{StopsFrom}
use Rattle.tor_cli.specs.Streams.{Streams}
use Rattle.tor_cli.proofs.make.command.make.Goals as goal

pub returns-in-Some-clause-stopped : goal.returns-in-Some-clause-stopped
returns-in-Some-clause-stopped g c =
    let s : Streams = record {
      reader = g.R.Read.remaining c.args.reader.now;
      reader' = g.R.Read.remaining c.make_of_place.new.reader;
      writer = g.W.Write.contents c.args.out.now;
      writer' = g.W.Write.contents c.make_of_place.new.out;
    } in
    let asked : option_map (λ place. place.now) c.args.options.now.place ≡ Some c.in-Some.place.now = search rules in
    subst (λ (place : Option (List ℕ)). IfErr c.make_of_place.result (StopsFrom place c.args.options.now s)) (sym asked)
    c.make_of_place.ensures.stopped
