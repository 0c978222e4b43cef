-- What the getters give are the values in the rows.
use Rattle.std.proofs.Common.{codes, sym, ◌∙◌}
use Rattle.clap.specs.Words.{found_of}
use Rattle.clap.proofs.WalkLemmas.{first_value-rows}
use Rattle.tor_cli.proofs.FoundTexts.{found_flag, found_text, given_if_none}
use Rattle.tor_cli.proofs.edit.words.edit_options.Goals as goal

pub returns : goal.returns
returns c =
    let found = found_of c.args.matches.now in
    record {
      torrent =
          found_text found (codes "file") c.get_str.result c.in_ok-get_str.field-0 c.get_str.ensures
          c.in_ok-get_str.was;
      tracker = sym (first_value-rows found (codes "announce")) ∙ sym c.get_str-tracker.ensures;
      none = λ given is.
          sym (found_flag found (codes "no-announce") c.get_flag.result given c.get_flag.ensures.value
          c.get_flag.ensures.other is)
          ∙ given_if_none c.get_flag.result c.is_none.result c.get_str-tracker.result c.if-get_flag-is_none.false
          c.is_none.ensures;
      out = sym (first_value-rows found (codes "out")) ∙ sym c.get_str-2.ensures;
    }
