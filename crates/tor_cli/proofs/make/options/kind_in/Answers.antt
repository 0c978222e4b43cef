-- The word is the value in the rows.
use Rattle.std.proofs.Common.{◌≡◌, ◌∙◌, ap, sym, codes, Some}
use Rattle.std.proofs.lemmas.Option.{IfSome_then}
use Rattle.clap.specs.Words.{first_of, found_of, rows_of}
use Rattle.tor_tree.specs.declared.kinds.Kind.{Kind}
use Rattle.tor_cli.specs.Words.{word_of}
use Rattle.tor_cli.proofs.FoundTexts.{found_text}
use Rattle.tor_cli.proofs.make.options.kind_in.Goals as goal

pub returns : goal.returns
returns c =
    let found = found_of c.args.matches.now in
    IfSome_then c.kind_of.result {Q = λ (kind : Kind). first_of (codes "kind") (rows_of found) ≡ Some (word_of kind)}
    c.kind_of.ensures.value
    (λ kind is. found_text found (codes "kind") c.get_str.result c.in_ok-get_str.field-0 c.get_str.ensures
    c.in_ok-get_str.was ∙ ap Some (sym is))
