-- What the getters give are the values in the rows.
use Rattle.std.proofs.Common.{rules, codes, ◌∙◌, refl}
use Rattle.clap.specs.Words.{found_of}
use Rattle.tor_cli.proofs.FoundTexts.{found_flag, found_text}
use Rattle.tor_cli.proofs.check.words.check_options.Goals as goal

pub returns : goal.returns
returns c =
    let found = found_of c.args.matches.now in
    record {
      torrent =
          found_text found (codes "file") c.get_str.result c.in_ok-get_str.field-0 c.get_str.ensures (search rules);
      telling = λ roots null json is_roots is_null is_json.
          let same_roots =
          found_flag found (codes "roots") c.get_flag.result roots c.get_flag.ensures.value c.get_flag.ensures.other
          is_roots in
          let same_null =
          found_flag found (codes "null") c.get_flag-2.result null c.get_flag-2.ensures.value
          c.get_flag-2.ensures.other is_null in
          let same_json =
          found_flag found (codes "json") c.get_flag-3.result json c.get_flag-3.ensures.value
          c.get_flag-3.ensures.other is_json in
          c.telling_of.ensures ∙ rw (same_roots, same_null, same_json) refl;
    }
