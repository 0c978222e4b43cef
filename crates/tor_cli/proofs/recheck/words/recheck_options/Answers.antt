-- What the getters give are the values in the rows.
use Rattle.std.proofs.Common.{ap, codes, not, sym, ◌∙◌, refl}
use Rattle.clap.specs.Words.{found_of}
use Rattle.tor_cli.proofs.FoundTexts.{beside_null, found_flag, found_text}
use Rattle.tor_cli.proofs.recheck.words.recheck_options.Goals as goal

pub returns : goal.returns
returns g c =
    let found = found_of c.args.matches.now in
    record {
      torrent =
          found_text found (codes "file") c.get_str.result c.in_ok-get_str.field-0 c.get_str.ensures
          c.in_ok-get_str.was;
      place =
          found_text found (codes "path") c.get_str-2.result c.in_ok-get_str-2.field-0 c.get_str-2.ensures
          c.in_ok-get_str-2.was;
      listing = λ files bad null is_files is_bad is_null.
          let same_files =
          found_flag found (codes "files") c.get_flag.result files c.get_flag.ensures.value
          c.get_flag.ensures.other is_files in
          let same_bad =
          found_flag found (codes "bad") c.get_flag-bad.result bad c.get_flag-bad.ensures.value
          c.get_flag-bad.ensures.other is_bad in
          let same_null =
          found_flag found (codes "null") c.get_flag-null.result null c.get_flag-null.ensures.value
          c.get_flag-null.ensures.other is_null in
          c.listing_of.ensures ∙ rw (same_files, same_bad, same_null) refl;
      form = λ brief json is_brief is_json.
          let same_brief =
          found_flag found (codes "brief") c.get_flag-2.result brief c.get_flag-2.ensures.value
          c.get_flag-2.ensures.other is_brief in
          let same_json =
          found_flag found (codes "json") c.get_flag-3.result json c.get_flag-3.ensures.value
          c.get_flag-3.ensures.other is_json in
          c.form_of.ensures ∙ rw (same_brief, same_json) refl;
      keeps_going = λ given is.
          found_flag found (codes "keep-going") c.get_flag-4.result given c.get_flag-4.ensures.value
          c.get_flag-4.ensures.other is;
      follows_links = λ given is.
          ap not (found_flag found (codes "no-links") c.get_flag-5.result given c.get_flag-5.ensures.value
          c.get_flag-5.ensures.other is);
      whole = c.requires.whole;
      pieces = c.requires.pieces;
      null = λ bad null is_bad is_null asked.
          let same_bad =
          found_flag found (codes "bad") c.get_flag-bad.result bad c.get_flag-bad.ensures.value
          c.get_flag-bad.ensures.other is_bad in
          let same_null =
          found_flag found (codes "null") c.get_flag-null.result null c.get_flag-null.ensures.value
          c.get_flag-null.ensures.other is_null in
          sym same_bad ∙ beside_null c.get_flag-null.result c.get_flag-bad.result
          (sym c.stands_alone.ensures ∙ c.if-stands_alone.false) (same_null ∙ asked);
      workers = (
        c.in_ok-get_str-3.field-0.now,
        c.in_ok-workers_of.field-0,
        found_text found (codes "workers") c.get_str-3.result c.in_ok-get_str-3.field-0 c.get_str-3.ensures
            c.in_ok-get_str-3.was,
        c.in_ok-workers_of.ensures.value,
        refl,
      );
    }
