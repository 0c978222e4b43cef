-- what is answered of each refusal is so of the one that there is
use Rattle.std.proofs.Common.{IfErr, rules, subst}
use Rattle.tor_meta.specs.Make.{make_refusal}
use Rattle.tor_tree.specs.FileList.{paths_of}
use Rattle.tor_cli.specs.make.Request.{IsRefusedFirst}
use Rattle.tor_cli.proofs.Stops.{refused_first}
use Rattle.tor_cli.proofs.make.from_place.by_sharing.Goals as goal

pub returns : goal.returns
returns g c =
    let answer = c.make_with-answer.result in
    record {
      whole = search rules;
      accepted = search rules;
      refused = subst (λ files. IfErr answer (IsRefusedFirst (make_refusal c.args.order.now (paths_of files))))
          c.deref.ensures.value
          (refused_first (make_refusal c.args.order.now (paths_of c.deref.result.now)) answer
          c.make_with-answer.ensures.refused);
      only = search rules;
      gave = search rules;
    }
