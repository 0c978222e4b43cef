use Rattle.tor_check.proofs.Names.{◌≡◌, true, false, ◌∙◌, ap, rules, subst, IfOk, unwrap_or, dictionary, no_pairs, view}
use Rattle.tor_check.proofs.Names.{info_of, kind_of, files_of_both, has_v2, layers_of, seen}
use Rattle.tor_check.proofs.Hybrids.{files_of_list_alone, lettered_if, tree_told}
use Rattle.tor_check.proofs.described.files_of.Goals as goal

pub returns-then-not-has_v2 : goal.returns-then-not-has_v2
returns-then-not-has_v2 c =
    let root = view c.args.root.now in
    let alone : has_v2 (kind_of (info_of root)) ≡ false = search rules in
    subst (λ files. IfOk c.views_of_list.result (λ views. views.items ≡ files))
    (files_of_list_alone root c.args.sides.list.files.items alone c.requires.sides.listed) c.views_of_list.ensures

pub returns : goal.returns
returns c =
    let root = view c.args.root.now in
    let v2 : has_v2 (kind_of (info_of root)) ≡ true = search rules in
    let listed = c.deref.ensures.value ∙ c.requires.sides.listed in
    let files : c.take_letters.new.files.items ≡ files_of_both (info_of root) =
    c.take_letters.ensures ∙ lettered_if (info_of root) _ _ v2 listed c.requires.sides.files in
    let layers : seen c.layers_of-layers.result ≡ layers_of root =
    ap (λ some. unwrap_or some (dictionary no_pairs)) c.layers_of-layers.ensures.item in
    subst (λ files. IfOk c.views_of_tree.result (λ views. views.items ≡ files))
    (tree_told root _ _ _ v2 (c.layers_of-layers.ensures.piece_length ∙ c.requires.head.piece_length) layers files)
    c.views_of_tree.ensures
