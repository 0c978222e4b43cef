-- What the getters give are the values in the rows.
use Rattle.std.proofs.Common.{◌∙◌, sym, codes}
use Rattle.clap.specs.Words.{found_of}
use Rattle.clap.proofs.WalkLemmas.{first_value-rows}
use Rattle.tor_cli.proofs.FoundTexts.{found_flag}
use Rattle.tor_cli.proofs.make.options.make_options.Goals as goal

pub returns : goal.returns
returns g c =
    let found = found_of c.args.matches.now in
    let torrent = c.in_ok-torrent.ensures.asked in
    record {
      torrent = record {
        kind = torrent.kind;
        name = torrent.name;
        piece_length = torrent.piece_length;
        has_files = torrent.has_files;
        announce = torrent.announce;
        is_private = torrent.is_private;
        is_public = torrent.is_public;
        tail = torrent.tail;
        span = torrent.span;
        out = torrent.out;
        attrs = torrent.attrs;
        list = torrent.list;
      };
      way = c.in_ok-way_in.ensures.word;
      workers = c.in_ok-way_in.ensures.workers;
      check_after = λ given is.
          found_flag found (codes "check-after") c.get_flag.result given c.get_flag.ensures.value
          c.get_flag.ensures.other is;
      place = sym (first_value-rows found (codes "path")) ∙ sym c.get_str.ensures;
      whole = c.requires;
    }
