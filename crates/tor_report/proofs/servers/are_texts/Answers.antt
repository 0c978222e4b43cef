-- All items of a list are tested.
use Rattle.std.proofs.Common.{◌∙◌, sym}
use Rattle.tor_bencode.specs.RefView.{view}
use Rattle.tor_spec.specs.valid.Parts.{is_string}
use Rattle.tor_report.proofs.ServerTexts.{all_pass}
use Rattle.tor_report.proofs.servers.are_texts.Goals as goal

pub returns-then-is_list : goal.returns-then-is_list
returns-then-is_list c =
    c.all_are_strings.ensures
    ∙ all_pass is_string c.items_of.result.now (view c.args.value.now) c.items_of.ensures
    (sym c.is_list.ensures ∙ c.if-is_list.true)
