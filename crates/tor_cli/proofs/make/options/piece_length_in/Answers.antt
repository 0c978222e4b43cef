-- The words are the values in the rows.
use Rattle.std.proofs.Common.{codes, refl}
use Rattle.clap.specs.Words.{found_of}
use Rattle.tor_cli.proofs.FoundTexts.{found_text}
use Rattle.tor_cli.proofs.make.options.piece_length_in.Goals as goal

pub returns-in_ok-get_str-in-Auto-clause-word : goal.returns-in_ok-get_str-in-Auto-clause-word
returns-in_ok-get_str-in-Auto-clause-word c =
    let found = found_of c.args.matches.now in (
      c.in_ok-get_str.field-0.now,
      found_text found (codes "piece-length") c.get_str.result c.in_ok-get_str.field-0 c.get_str.ensures
          c.in_ok-get_str.was,
      c.in_ok-length.ensures.value,
    )

pub returns-in_ok-get_str-in-Auto-clause-files : goal.returns-in_ok-get_str-in-Auto-clause-files
returns-in_ok-get_str-in-Auto-clause-files c = λ is_auto.
    let found = found_of c.args.matches.now in
    rw (found_text found (codes "path") c.get_str-in-Auto.result c.in_ok-get_str-in-Auto.field-0
    c.get_str-in-Auto.ensures c.in_ok-get_str-in-Auto.was) refl

pub returns-in-Bytes-clause-word : goal.returns-in-Bytes-clause-word
returns-in-Bytes-clause-word c =
    let found = found_of c.args.matches.now in (
      c.in_ok-get_str.field-0.now,
      found_text found (codes "piece-length") c.get_str.result c.in_ok-get_str.field-0 c.get_str.ensures
          c.in_ok-get_str.was,
      c.in_ok-length.ensures.value,
    )
