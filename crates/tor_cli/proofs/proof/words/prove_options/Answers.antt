-- What the getters give are the values in the rows.
use Rattle.std.proofs.Common.{rules, ◌∙◌, codes}
use Rattle.clap.specs.Words.{found_of}
use Rattle.clap.proofs.WalkLemmas.{one_text-rows}
use Rattle.tor_cli.proofs.FoundTexts.{found_text}
use Rattle.tor_cli.proofs.proof.words.prove_options.Goals as goal

pub returns : goal.returns
returns c =
    let found = found_of c.args.matches.now in
    record {
      torrent =
          found_text found (codes "file") c.get_str.result c.in_ok-get_str.field-0 c.get_str.ensures (search rules);
      file = λ text is.
          let read = c.in_ok-get_one.ensures.value text (one_text-rows found (codes "file-number") ∙ is) in
          (read.0.0.0, read.0.1);
      index = λ text is.
          let read = c.in_ok-get_one-2.ensures.value text (one_text-rows found (codes "index") ∙ is) in
          (read.0.0.0, read.0.1);
    }
