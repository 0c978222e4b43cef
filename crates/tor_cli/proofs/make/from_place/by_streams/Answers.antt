-- what is answered of the readers is so of the files
use Rattle.std.proofs.Common.{◌∙◌, IfErr, length, rules, sym, subst}
use Rattle.std.proofs.lemmas.List.{length-map}
use Rattle.tor_meta.specs.MakeStreams.{stream_refusal}
use Rattle.tor_tree.specs.FileList.{paths_of}
use Rattle.tor_cli.specs.make.Request.{IsRefusedFirst}
use Rattle.tor_cli.proofs.Stops.{refused_first}
use Rattle.tor_cli.proofs.StreamFaults.{stream_fault}
use Rattle.tor_cli.proofs.make.from_place.by_streams.Goals as goal

pub returns : goal.returns
returns g c =
    let answer = c.make_streams_with-answer.result in
    let readers = c.in_ok-readers.readers in
    record {
      whole = search rules;
      accepted = search rules;
      refused = subst (λ files. IfErr answer (IsRefusedFirst (stream_refusal c.args.order.now (paths_of files))))
          c.deref.ensures.value
          (refused_first (stream_refusal c.args.order.now (paths_of c.deref.result.now)) answer
          c.make_streams_with-answer.ensures.refused);
      only = search rules;
      gave = stream_fault _ (length c.args.found.now.files.items)
          (length-map readers.items _ ∙ sym readers.ok.0 ∙ c.in_ok-readers.ensures.count ∙ c.requires) answer
          c.make_streams_with-answer.ensures.gave;
    }
