-- The file tree that files are put together in is the one tidy tree of their list.
use Rattle.tor_tree.proofs.Cited.{◌≡◌, ℕ, List, length, map, Option, ap, ◌∙◌, AllByRecursion, AllZip, IsInPathOrder}
use Rattle.tor_tree.proofs.Cited.{Attr, file_of, HasNames, HasItsRoot, IsFileTreeOf, file_tree, with_properties}
use Rattle.tor_tree.proofs.MadeTree.{made_tidy, made_entries}
use Rattle.tor_tree.proofs.RisingTree.{made_rising}
use Rattle.tor_tree.proofs.TreeOfFiles.{described, one_root_each, paths_with, ready_files}

pub made_file_tree : (files : List (List (List ℕ) × ℕ)) (attrs : List Attr) (roots : List (Option (List ℕ)))
    → length attrs ≡ length files → AllZip HasItsRoot files roots → IsInPathOrder files
    → AllByRecursion (λ file. HasNames file.0) files → IsFileTreeOf files attrs roots (file_tree files attrs roots)
made_file_tree files attrs roots one_each with_roots in_order named =
    let ready = ready_files files attrs roots with_roots named in
    let paths = paths_with files attrs roots one_each (one_root_each files roots with_roots) in
    record {
      keys = made_rising (with_properties files attrs roots) ready (rw paths in_order);
      tidy = made_tidy (with_properties files attrs roots) ready;
      described = ap (map file_of) (made_entries (with_properties files attrs roots) ready)
          ∙ described files attrs roots with_roots;
    }
