-- The files of a torrent that has a v2 side are in the order of their paths.
use Rattle.tor_check.proofs.Names.{◌≡◌, ℕ, true, List, [], ◌∷◌, map, Option, None, Some, unwrap_or, codes, ap, refl}
use Rattle.tor_check.proofs.Names.{subst, sym, value_has_rising_keys, Data, dictionary, no_pairs, value_of}
use Rattle.tor_check.proofs.Names.{HasRisingKeys, HasRisingPaths, IsViewOfValid, info_of, kind_of, part, tree_files}
use Rattle.tor_check.proofs.Names.{tree_of, FileView, View, file_of_tree, files_of_both, view_of, rising_paths, has_v1}
use Rattle.tor_check.proofs.Names.{has_v2, TreeFile}
use Rattle.tor_check.proofs.Names.{if◌then◌else◌, listed_files, map_lettered}

-- the keys of a part rise where those of the whole do
rising_part : (key : List ℕ) (whole : Data) → HasRisingKeys whole → HasRisingKeys (part key whole)
rising_part key whole rising = by_value (value_of key whole) refl
  where
    by_value : (found : Option Data) → value_of key whole ≡ found
        → HasRisingKeys (unwrap_or found (dictionary no_pairs))
    by_value None is = (tt, tt)
    by_value (Some value) is = value_has_rising_keys key whole value rising is

-- what is told of the files of a tree has their paths
told_paths : (root : Data) (files : List TreeFile)
    → map (λ (told : FileView). told.file.path) (map (file_of_tree root) files)
    ≡ map (λ (file : TreeFile). file.path) files
told_paths root [] = refl
told_paths root (file ∷ files) = ap (λ paths. file.path ∷ paths) (told_paths root files)

rising_in : (root : Data) → HasRisingKeys root → has_v2 (kind_of (info_of root)) ≡ true
    → HasRisingPaths (view_of root)
rising_in root rising v2 =
    let info = info_of root in
    let keys = rising_part (codes "file tree") info (rising_part (codes "info") root rising) in
    rw (
      v2,
      told_paths root (files_of_both info),
      map_lettered (λ (file : TreeFile). file.path) (λ listed file. refl)
          (if has_v1 (kind_of info) then listed_files info else []) (tree_files info),
    ) (rising_paths (tree_of info) keys)

pub rising_of_view : (view : View) → IsViewOfValid view → has_v2 view.kind ≡ true → HasRisingPaths view
rising_of_view view valid v2 =
    let own = subst (λ (v : View). has_v2 v.kind ≡ true) valid.described v2 in
    subst HasRisingPaths (sym valid.described) (rising_in valid.tree valid.lawful.keys own)
