-- What the getters give are the values in the rows.
use Rattle.std.proofs.Common.{codes, sym, ◌∙◌}
use Rattle.clap.specs.Words.{found_of}
use Rattle.clap.proofs.WalkLemmas.{first_value-rows}
use Rattle.tor_cli.proofs.FoundTexts.{found_text}
use Rattle.tor_cli.proofs.lots.join_words.join_options.Goals as goal

pub returns : goal.returns
returns c =
    let found = found_of c.args.matches.now in
    record {
      plan = found_text found (codes "plan") c.get_str.result c.in-Some.plan c.get_str.ensures c.in-Some.is;
      parts = c.in_ok-parts.ensures;
      out = sym (first_value-rows found (codes "out")) ∙ sym c.get_str-2.ensures;
    }
