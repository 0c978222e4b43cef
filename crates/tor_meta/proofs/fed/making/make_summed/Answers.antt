use Rattle.std.proofs.Common.{ℕ, ◌≡◌, ◌∙◌, ◌∷◌, [], List, length, map, ap, refl}
use Rattle.tor_bencode.specs.Spelling.{spelling}
use Rattle.tor_meta.specs.Contents.{one_file}
use Rattle.tor_spec.specs.Metainfo.{facts_of_files, metainfo}
use Rattle.tor_tree.specs.FileList.{LetteredFiles, lengths_of}
use Rattle.tor_meta.proofs.ContentSteps.{have_trees, same_pieces, told_facts}
use Rattle.tor_meta.proofs.OneFile.{sum_up_one}
use Rattle.tor_meta.proofs.fed.making.make_summed.Goals as goal

pub torrent_bytes-requires-clause-trees : goal.torrent_bytes-requires-clause-trees
torrent_bytes-requires-clause-trees c =
    let head = c.args.head.now in
    let one = c.requires.summed in
    let file : List (List ℕ) × ℕ = (head.name ∷ [], c.args.count) in
    let same : map length (one.0 ∷ []) ≡ lengths_of (file ∷ []) = ap (λ n. n ∷ []) one.1 in
    rw c.in_ok-list.ensures.list
    (have_trees head (file ∷ []) (one.0 ∷ []) c.args.sums.now same
    (sum_up_one head file one.0 c.args.sums.now one.2))

pub returns-clause-made : goal.returns-clause-made
unfolding metainfo
returns-clause-made c = λ bytes long summed.
    let head = c.args.head.now in
    let file : List (List ℕ) × ℕ = (head.name ∷ [], c.args.count) in
    let same : map length (bytes ∷ []) ≡ lengths_of (file ∷ []) = ap (λ n. n ∷ []) long in
    let up = sum_up_one head file bytes c.args.sums.now summed in
    let list : LetteredFiles = record { files = file ∷ []; attrs = c.args.attr ∷ [] } in
    let told = told_facts head list (bytes ∷ []) c.args.sums.now refl same up in
    c.in_ok-bytes.ensures.made (facts_of_files head.piece_length (one_file head.name bytes c.args.attr))
    (rw c.in_ok-list.ensures.list told)
    ∙ ap spelling (same_pieces head list (bytes ∷ []) c.args.sums.now refl same up)
