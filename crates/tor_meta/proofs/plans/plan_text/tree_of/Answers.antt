-- the tree is lawful, and has all fields
use Rattle.std.proofs.Common.{◌≡◌, ◌∙◌, [], ap, arith, subst, sym}
use Rattle.std.proofs.lemmas.List.Elements.{recursion_from_All}
use Rattle.tor_bencode.specs.Data.{Data, dictionary}
use Rattle.tor_bencode.specs.Lawful.{IsLawful}
use Rattle.tor_bencode.specs.View.{pairs_view, view}
use Rattle.tor_meta.specs.Head.{settings_of}
use Rattle.tor_meta.specs.PlanText.{plan_dictionary}
use Rattle.tor_meta.specs.steps.PlanText.{fields_before_name, text_of}
use Rattle.tor_meta.proofs.PlanLawful.{plan_is_lawful}
use Rattle.tor_tree.specs.FileList.{LetteredFiles}
use Rattle.tor_meta.proofs.plans.plan_text.tree_of.Goals as goal

pub unreachable-requires : goal.unreachable-requires
unreachable-requires c =
    let head = c.args.head.now in
    let list : LetteredFiles = record { files = c.args.files.now; attrs = c.args.attrs.now } in
    let text = text_of head c.args.span c.args.files.now c.args.attrs.now in
    let first = c.in_ok-push_before_name.ensures [] (ap pairs_view c.new-pairs.ensures.items) in
    let is : view c.dictionary.result ≡ plan_dictionary text = c.dictionary.ensures ∙ ap dictionary
    (c.in_ok-push_from_name.ensures (fields_before_name (settings_of head) list) first) in
    let lawful = plan_is_lawful text c.requires.piece_length (omega arith)
    (recursion_from_All _ c.args.files.now c.requires.small) in
    let no = c.in-Err.ensures.lawful.1 (subst (λ (d : Data). IsLawful d) (sym is) lawful) in
    cc

pub returns : goal.returns
returns c =
    let head = c.args.head.now in
    let list : LetteredFiles = record { files = c.args.files.now; attrs = c.args.attrs.now } in
    let first = c.in_ok-push_before_name.ensures [] (ap pairs_view c.new-pairs.ensures.items) in
    ap view c.in-Ok.ensures.kept ∙ c.dictionary.ensures ∙ ap dictionary
    (c.in_ok-push_from_name.ensures (fields_before_name (settings_of head) list) first)
