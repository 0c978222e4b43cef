-- What the getters give are the values in the rows.
use Rattle.std.proofs.Common.{◌∙◌, sym, codes}
use Rattle.clap.specs.Words.{found_of}
use Rattle.clap.proofs.WalkLemmas.{first_value-rows, one_text-rows}
use Rattle.tor_cli.proofs.FoundTexts.{found_flag, found_text}
use Rattle.tor_cli.proofs.make.options.torrent_options.Goals as goal

pub returns-clause-asked : goal.returns-clause-asked
returns-clause-asked c =
    let found = found_of c.args.matches.now in
    record {
      kind = c.in_ok-kind_in.ensures;
      name =
          found_text found (codes "name") c.get_str.result c.in_ok-get_str.field-0 c.get_str.ensures
          c.in_ok-get_str.was;
      piece_length = c.in_ok-piece_length_in.ensures.word;
      has_files = c.in_ok-piece_length_in.ensures.files;
      announce = sym (first_value-rows found (codes "announce")) ∙ sym c.get_str-2.ensures;
      is_private = λ is. c.get_flag.ensures.value (one_text-rows found (codes "private") ∙ is);
      is_public = λ is. c.get_flag.ensures.other (one_text-rows found (codes "private") ∙ is);
      tail = λ given is.
          found_flag found (codes "tail") c.get_flag-2.result given c.get_flag-2.ensures.value
          c.get_flag-2.ensures.other is;
      span = λ text is.
          let read = c.in_ok-get_one.ensures.value text (one_text-rows found (codes "span") ∙ is) in
          (read.0.0.0, read.0.1);
      out = sym (first_value-rows found (codes "out")) ∙ sym c.get_str-3.ensures;
      attrs = sym (first_value-rows found (codes "attrs")) ∙ sym c.get_str-4.ensures;
      list = sym (first_value-rows found (codes "files-from")) ∙ sym c.get_str-5.ensures;
    }
