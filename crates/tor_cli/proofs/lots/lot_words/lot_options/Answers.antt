-- What the getters give are the values in the rows.
use Rattle.std.proofs.Common.{◌≡◌, codes, sym, ◌∙◌, subst, Some}
use Rattle.clap.specs.Words.{first_of, found_of, rows_of}
use Rattle.clap.proofs.WalkLemmas.{first_value-rows}
use Rattle.tor_cli.specs.Words.{HasWorkers, IsWorkersIn, way_word}
use Rattle.tor_cli.specs.declared.make.way.Way.{Way}
use Rattle.tor_cli.proofs.FoundTexts.{found_text}
use Rattle.tor_cli.proofs.lots.lot_words.lot_options.Goals as goal

pub returns-in_ok-get_str-in-Shared-2 : goal.returns-in_ok-get_str-in-Shared-2
returns-in_ok-get_str-in-Shared-2 g c =
    let found = found_of c.args.matches.now in
    record {
      plan =
          found_text found (codes "plan") c.get_str-in-Shared.result c.in_ok-get_str-in-Shared.field-0
          c.get_str-in-Shared.ensures c.in_ok-get_str-in-Shared.was;
      lot = (
        c.in_ok-get_str.field-0.now,
        found_text found (codes "part") c.get_str.result c.in_ok-get_str.field-0 c.get_str.ensures
            c.in_ok-get_str.was,
        c.in_ok-lot.ensures.value,
      );
      way = subst (λ (way : Way). first_of (codes "how") (rows_of found) ≡ Some (way_word way)) c.in-Shared.is
          c.in_ok-how.ensures.word;
      workers = subst (λ (way : Way). IsWorkersIn (rows_of found) (HasWorkers way)) c.in-Shared.is
          c.in_ok-how.ensures.workers;
      out = sym (first_value-rows found (codes "out")) ∙ sym c.get_str-in-Shared-2.ensures;
      place =
          found_text found (codes "path") c.get_str-in-Shared-3.result c.in_ok-get_str-in-Shared-2.field-0
          c.get_str-in-Shared-3.ensures c.in_ok-get_str-in-Shared-2.was;
    }
