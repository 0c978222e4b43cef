-- The file tree of a made torrent: no condition of the v2 side holds, and it tells the files.
use Rattle.tor_spec.proofs.Names.{◌≡◌, ◌==◌, ℕ, true, false, not, List, length, map, None, Some}
use Rattle.tor_spec.proofs.Names.{refl, ap, ◌∙◌, list_any, All-from_recursion, cond-true, Data, value_of, Facts, File}
use Rattle.tor_spec.proofs.Names.{attrs_in, listed, roots_in, AreMade, facts_of_files, Settings, tree_files}
use Rattle.tor_spec.proofs.Names.{tree_length}
use Rattle.tor_spec.proofs.Names.{tree_mixed, tree_no_files, tree_of, tree_root, tree_shape, tree_symlink}
use Rattle.tor_spec.proofs.Names.{tree_too_large, file_tree_of_list, tree_of_list_is_readable, lengths_too_large}
use Rattle.tor_spec.proofs.Names.{files_of_tree, is_folder, lacks_root, properties_in, tree_fault, tree_mixes, has_v2}
use Rattle.tor_spec.proofs.Names.{has_letter, has_negative_length, length_of, letter_l, file_tree, codes, clear}
use Rattle.tor_spec.proofs.LawfulTorrents.{one_attr_each}
use Rattle.tor_spec.proofs.MadeFacts.{Is32Bytes, hashed_roots, listed_made, made_is_makeable, made_lettered, roots_made}
use Rattle.tor_spec.proofs.MadeHeads.{IsInfo, tree_file}

-- no condition of the v2 side holds
pub record TreeIsValid (info : Data) : Type 0 where
  pub shape : tree_shape info ≡ false
  pub lengths : tree_length info ≡ false
  pub some : tree_no_files info ≡ false
  pub small : tree_too_large info ≡ false
  pub link : tree_symlink info ≡ false
  pub mixed : tree_mixed info ≡ false
  pub root : tree_root info ≡ false

-- where a tree without fault is
valid_tree : (info tree : Data) → value_of (codes "file tree") info ≡ Some tree → tree_fault tree ≡ None
    → TreeIsValid info
valid_tree info tree found faultless =
    let same : tree_of info ≡ tree = rw found refl in
    let a = clear (not (is_folder tree)) _ _ faultless in
    let b = clear (list_any has_negative_length (properties_in tree)) _ _ a.1 in
    let c = clear (length (properties_in tree) == 0) _ _ b.1 in
    let d = clear (lengths_too_large (map length_of (properties_in tree))) _ _ c.1 in
    let e = clear (list_any (has_letter letter_l) (properties_in tree)) _ _ d.1 in
    let f = clear (tree_mixes tree) _ _ e.1 in
    let g = clear (list_any lacks_root (properties_in tree)) _ _ f.1 in
    record {
      shape = rw found a.0;
      lengths = ap (λ (t : Data). list_any has_negative_length (properties_in t)) same ∙ b.0;
      some = ap (λ (t : Data). length (properties_in t) == 0) same ∙ c.0;
      small = ap (λ (t : Data). lengths_too_large (map length_of (properties_in t))) same ∙ d.0;
      link = ap (λ (t : Data). list_any (has_letter letter_l) (properties_in t)) same ∙ e.0;
      mixed = ap tree_mixes same ∙ f.0;
      root = ap (λ (t : Data). list_any lacks_root (properties_in t)) same ∙ g.0;
    }

module _ (settings : Settings) (files : List File) (made : AreMade settings files) (pieces : List ℕ) (info : Data)
    (is : IsInfo settings (facts_of_files settings.piece_length files) pieces info)
    (two : has_v2 settings.kind ≡ true) where
  abbrev facts : List Facts
  facts = facts_of_files settings.piece_length files

  tree_found : value_of (codes "file tree") info ≡ Some (file_tree (listed facts) (attrs_in facts) (roots_in facts))
  tree_found = is.tree ∙ cond-true (has_v2 settings.kind) _ None two

  pub made_tree : TreeIsValid info
  made_tree =
      valid_tree info (file_tree (listed facts) (attrs_in facts) (roots_in facts)) tree_found
      (tree_of_list_is_readable (listed facts) (attrs_in facts) (roots_in facts) (one_attr_each facts)
      (rw (listed_made settings.piece_length files) made.list)
      (roots_made settings.piece_length files)
      (All-from_recursion Is32Bytes (roots_in facts) (hashed_roots settings.piece_length files)))

  -- the tree tells the files
  pub made_tree_files : tree_files info ≡ map tree_file files
  made_tree_files =
      let same : tree_of info ≡ file_tree (listed facts) (attrs_in facts) (roots_in facts) = rw tree_found refl in
      let makeable = made_is_makeable settings files made in
      let tree = file_tree_of_list (listed facts) (attrs_in facts) (roots_in facts) (one_attr_each facts)
      makeable.in_order makeable.named (roots_made settings.piece_length files) in
      ap files_of_tree same ∙ tree.described ∙ made_lettered settings.piece_length files
