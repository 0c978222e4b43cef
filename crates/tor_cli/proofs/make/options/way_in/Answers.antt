-- The words are the values in the rows.
use Rattle.std.proofs.Common.{◌≡◌, ◌∙◌, ap, sym, codes, Some}
use Rattle.std.proofs.lemmas.Option.{IfSome_then}
use Rattle.clap.specs.Words.{first_of, found_of, rows_of}
use Rattle.tor_cli.specs.Words.{HasWorkers, IsWorkersIn, way_word}
use Rattle.tor_cli.specs.declared.make.way.Way.{Way}
use Rattle.tor_cli.proofs.FoundTexts.{found_text}
use Rattle.tor_cli.proofs.make.options.way_in.Goals as goal

pub returns-clause-word : goal.returns-clause-word
returns-clause-word g c =
    let found = found_of c.args.matches.now in
    IfSome_then c.way_of.result {Q = λ (way : Way). first_of (codes "how") (rows_of found) ≡ Some (way_word way)}
    c.way_of.ensures.value
    (λ way is. found_text found (codes "how") c.get_str.result c.in_ok-word.word c.get_str.ensures c.in_ok-word.was
    ∙ ap Some (sym is.0))

pub returns-clause-workers : goal.returns-clause-workers
returns-clause-workers g c =
    let found = found_of c.args.matches.now in
    IfSome_then c.way_of.result {Q = λ (way : Way). IsWorkersIn (rows_of found) (HasWorkers way)}
    c.way_of.ensures.value
    (λ way is. (
      c.in_ok-get_str.field-0.now,
      c.in_ok-workers.workers,
      found_text found (codes "workers") c.get_str-2.result c.in_ok-get_str.field-0 c.get_str-2.ensures
          c.in_ok-get_str.was,
      c.in_ok-workers.ensures.value,
      is.1,
    ))
