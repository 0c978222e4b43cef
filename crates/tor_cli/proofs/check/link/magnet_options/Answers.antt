-- What the getters give are the values in the rows.
use Rattle.std.proofs.Common.{rules, codes}
use Rattle.clap.specs.Words.{found_of}
use Rattle.tor_cli.proofs.FoundTexts.{found_flag, found_text}
use Rattle.tor_cli.proofs.check.link.magnet_options.Goals as goal

pub returns : goal.returns
returns c =
    let found = found_of c.args.matches.now in
    record {
      torrent =
          found_text found (codes "file") c.get_str.result c.in_ok-get_str.field-0 c.get_str.ensures (search rules);
      name = λ given is.
          found_flag found (codes "name") c.get_flag.result given c.get_flag.ensures.value c.get_flag.ensures.other is;
      tracker = λ given is.
          found_flag found (codes "trackers") c.get_flag-2.result given c.get_flag-2.ensures.value
          c.get_flag-2.ensures.other is;
    }
