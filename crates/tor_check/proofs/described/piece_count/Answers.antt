use Rattle.tor_check.proofs.Names.{◌≡◌, true, ◌∙◌, rules, view, info_of, kind_of, has_v2}
use Rattle.tor_check.proofs.Bounds.{few_in_files}
use Rattle.tor_check.proofs.described.piece_count.Goals as goal

pub pieces_of_tree-requires-clause-few : goal.pieces_of_tree-requires-clause-few
pieces_of_tree-requires-clause-few c =
    let info = info_of (view c.args.root.now) in
    let v2 : has_v2 (kind_of info) ≡ true = search rules in
    few_in_files info c.args.head.now.piece_length c.deref.result.now (c.deref.ensures.value ∙ c.requires.sides.files)
    c.requires.judged v2 c.requires.head.some
