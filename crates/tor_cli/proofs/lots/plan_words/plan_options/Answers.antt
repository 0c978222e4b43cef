-- What the getters give are the values in the rows.
use Rattle.std.proofs.Common.{codes}
use Rattle.clap.specs.Words.{found_of}
use Rattle.tor_cli.proofs.FoundTexts.{found_text}
use Rattle.tor_cli.proofs.lots.plan_words.plan_options.Goals as goal

pub returns : goal.returns
returns c =
    let found = found_of c.args.matches.now in
    record {
      torrent = c.in_ok-torrent_options.ensures.asked;
      place =
          found_text found (codes "path") c.get_str.result c.in_ok-get_str.field-0 c.get_str.ensures
          c.in_ok-get_str.was;
    }
