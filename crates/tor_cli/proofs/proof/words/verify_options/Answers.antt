-- What the getters give are the values in the rows.
use Rattle.std.proofs.Common.{◌∙◌, sym, rules, codes}
use Rattle.clap.specs.Words.{found_of}
use Rattle.clap.proofs.WalkLemmas.{first_value-rows}
use Rattle.tor_cli.proofs.FoundTexts.{found_text}
use Rattle.tor_cli.proofs.proof.words.verify_options.Goals as goal

pub returns : goal.returns
returns c =
    let found = found_of c.args.matches.now in
    record {
      root =
          found_text found (codes "root") c.get_str.result c.in_ok-get_str.field-0 c.get_str.ensures (search rules);
      length =
          found_text found (codes "length") c.get_str-2.result c.in_ok-get_str-2.field-0 c.get_str-2.ensures
          (search rules);
      piece_length =
          found_text found (codes "piece-length") c.get_str-3.result c.in_ok-get_str-3.field-0 c.get_str-3.ensures
          (search rules);
      proof =
          found_text found (codes "proof") c.get_str-4.result c.in_ok-get_str-4.field-0 c.get_str-4.ensures
          (search rules);
      bytes = sym (first_value-rows found (codes "bytes")) ∙ sym c.get_str-5.ensures;
    }
