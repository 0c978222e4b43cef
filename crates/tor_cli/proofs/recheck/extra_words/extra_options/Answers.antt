-- What the getters give are the values in the rows.
use Rattle.std.proofs.Common.{codes, ◌∙◌, refl}
use Rattle.clap.specs.Words.{found_of}
use Rattle.tor_cli.proofs.FoundTexts.{found_flag, found_text}
use Rattle.tor_cli.proofs.recheck.extra_words.extra_options.Goals as goal

pub returns : goal.returns
returns c =
    let found = found_of c.args.matches.now in
    record {
      torrent =
          found_text found (codes "file") c.get_str.result c.in_ok-get_str.field-0 c.get_str.ensures
          c.in_ok-get_str.was;
      place =
          found_text found (codes "path") c.get_str-2.result c.in_ok-get_str-2.field-0 c.get_str-2.ensures
          c.in_ok-get_str-2.was;
      form = λ null json is_null is_json.
          let same_null =
          found_flag found (codes "null") c.get_flag.result null c.get_flag.ensures.value c.get_flag.ensures.other
          is_null in
          let same_json =
          found_flag found (codes "json") c.get_flag-2.result json c.get_flag-2.ensures.value
          c.get_flag-2.ensures.other is_json in
          c.scan_form_of.ensures ∙ rw (same_null, same_json) refl;
      whole = c.requires.whole;
      extra = c.requires.extra;
    }
