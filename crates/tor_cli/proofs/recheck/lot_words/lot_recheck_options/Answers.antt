-- What the getters give are the values in the rows.
use Rattle.std.proofs.Common.{ap, codes, not, sym, ◌∙◌, refl}
use Rattle.clap.specs.Words.{found_of}
use Rattle.tor_cli.proofs.FoundTexts.{found_flag, found_text}
use Rattle.tor_cli.proofs.recheck.lot_words.lot_recheck_options.Goals as goal

pub returns : goal.returns
returns g c =
    let found = found_of c.args.matches.now in
    record {
      torrent =
          found_text found (codes "file") c.get_str.result c.in_ok-get_str.field-0 c.get_str.ensures
          c.in_ok-get_str.was;
      place =
          found_text found (codes "path") c.get_str-2.result c.in_ok-get_str-2.field-0 c.get_str-2.ensures
          c.in_ok-get_str-2.was;
      lot = (
        c.in_ok-get_str-3.field-0.now,
        found_text found (codes "part") c.get_str-3.result c.in_ok-get_str-3.field-0 c.get_str-3.ensures
            c.in_ok-get_str-3.was,
        c.in_ok-lot_of.ensures.value,
      );
      form = λ brief json is_brief is_json.
          let same_brief =
          found_flag found (codes "brief") c.get_flag-2.result brief c.get_flag-2.ensures.value c.get_flag-2.ensures.other
          is_brief in
          let same_json =
          found_flag found (codes "json") c.get_flag-3.result json c.get_flag-3.ensures.value
          c.get_flag-3.ensures.other is_json in
          c.form_of.ensures ∙ rw (same_brief, same_json) refl;
      follows_links = λ given is.
          ap not (found_flag found (codes "no-links") c.get_flag-4.result given c.get_flag-4.ensures.value
          c.get_flag-4.ensures.other is);
      null = λ given is.
          sym (found_flag found (codes "null") c.get_flag.result given c.get_flag.ensures.value c.get_flag.ensures.other is)
          ∙ c.if-get_flag.false;
      workers = (
        c.in_ok-get_str-4.field-0.now,
        c.in_ok-workers_of.field-0,
        found_text found (codes "workers") c.get_str-4.result c.in_ok-get_str-4.field-0 c.get_str-4.ensures
            c.in_ok-get_str-4.was,
        c.in_ok-workers_of.ensures.value,
        refl,
      );
    }
