-- The names that the proofs cite, passed on from one place. Declares nothing.
pub use Rattle.std.proofs.Common.{Bool, Equal, Err, Global, Greater, IfSome, IsTrue, Less, List, MatchResult, None, Ok}
pub use Rattle.std.proofs.Common.{Option, Ordering, Result, Some, Vec, [], ap, ap₂, append_assoc, arith, codes, cond}
pub use Rattle.std.proofs.Common.{count_by, drop, false, get_or, inl, inr, is_none, is_ok, is_some, length, length-drop}
pub use Rattle.std.proofs.Common.{map, nat_lt, not, pos, refl, rules, slice_index, subst, suc, suc-add, sum_by, sym}
pub use Rattle.std.proofs.Common.{take, true, unsigned_abs, unwrap_or, zero, zero-add, ℕ, ℤ, ⊎_elim, ◌&&◌, ◌*◌, ◌++◌}
pub use Rattle.std.proofs.Common.{◌+◌, ◌-◌, ◌<◌, ◌==◌, ◌^◌, ◌||◌, ◌∙◌, ◌∷◌, ◌≡◌, ◌≢◌, ◌≤◌, ◌⊎◌}
pub use Rattle.std.proofs.Math.Seq.{take-append_seam}
pub use Rattle.std.proofs.lemmas.Bool.{and_from, and_parts, both_ways, cases_lt, cases_order, eqb-false, eqb-true}
pub use Rattle.std.proofs.lemmas.Bool.{false_from_ne_true, le-ltb, lt-ltb, ltb-false, ltb-true, ne_eqb, not-false}
pub use Rattle.std.proofs.lemmas.Bool.{not-true, or_from, or_left, or_parts, or_right}
pub use Rattle.std.proofs.lemmas.Cmp.{alike_right, tied_itself}
pub use Rattle.std.proofs.lemmas.Int.{to_z-of_z}
pub use Rattle.std.proofs.lemmas.List.{append-nil, drop-drop, drop_all, drop_more, get_or-map, get_or_default}
pub use Rattle.std.proofs.lemmas.List.{length-map, map-append, take-append-drop, take_all}
pub use Rattle.std.proofs.lemmas.List.Elements.{All-append, All-from_recursion, All-more, All-same, recursion_from_All}
pub use Rattle.std.proofs.lemmas.List.Folds.{list_any_at, list_any_more, list_any_none}
pub use Rattle.std.proofs.lemmas.List.FromFn.{fill_by_all, get_or-enumerate_from, get_or-range_with_len}
pub use Rattle.std.proofs.lemmas.List.FromFn.{length-enumerate_from, length-range_with_len}
pub use Rattle.std.proofs.lemmas.List.Sorted.{All-permutation, IsPermutation-map, answers_always, length_permutation}
pub use Rattle.std.proofs.lemmas.List.Sorted.{list_any-IsPermutation, sum_by-IsPermutation}
pub use Rattle.std.proofs.lemmas.List.Sums.{sum_by-cons, sum_by-drop_more, sum_by-take-drop, sum_by-take-le}
pub use Rattle.std.proofs.lemmas.List.Sums.{sum_by_more}
pub use Rattle.std.proofs.lemmas.Map.Keys.{Less-from_sorted}
pub use Rattle.std.proofs.lemmas.Result.{IfErr-weaker, IfOk-weaker, err_from_is_err_and}
pub use Rattle.std.proofs.lemmas.Simd.{map-map}
pub use Rattle.std.proofs.lemmas.Slice.Eq.{bytes_eq-Decides}
pub use Rattle.std.proofs.lemmas.Str.{IsUtf8-from_is_utf8, is_utf8-from_IsUtf8}
pub use Rattle.std.specs.Cmp.{IsTotalOrder}
pub use Rattle.std.specs.Cmp.Lexicographic.{lists_ties, lists_total, nat_list_cmp_total, slice_cmp, texts_ties}
pub use Rattle.std.specs.Int.{next_multiple_of, w64}
pub use Rattle.std.specs.List.{All, AllAdjacentBelow, AllByRecursion, AllZip, IsAllAdjacentAnswer, enumerate_from}
pub use Rattle.std.specs.List.{list_any, range_with_len, starts_with, zip}
pub use Rattle.std.specs.List.Sorted.{IsPermutation, IsSortedByKey}
unfoldable pub use Rattle.std.specs.List.Sorted.{IsStrictlySortedBy}
pub use Rattle.std.specs.Borrow.{Bor}
pub use Rattle.std.specs.Option.{option_or}
pub use Rattle.std.specs.Ordering.{eq_by_cmp, is_eq, is_lt, ordering_reverse, ordering_then}
pub use Rattle.std.specs.Prelude.{IsSome, int_lt, if◌then◌else◌, ◌↔◌}
pub use Rattle.std.specs.Str.{IsUtf8, bytes_eq, is_utf8}
pub use Rattle.tor_bencode.specs.Data.{Data, Pairs, dictionary, integer, keys_of, list, no_pairs, pair, string}
pub use Rattle.tor_bencode.specs.Find.{value_of}
pub use Rattle.tor_bencode.specs.Lawful.{AreRising, HasRisingKeys, HasSmallIntegers, IsLawfulWithin}
pub use Rattle.tor_bencode.specs.Lawful.{PairsHaveRisingKeys, PairsHaveSmallIntegers, depth, pairs_depth}
pub use Rattle.tor_bencode.specs.RefView.{pairs_view as ref_pairs_view, view as ref_view}
pub use Rattle.tor_bencode.specs.View.{pairs_view, view}
pub use Rattle.tor_bencode.specs.declared.item.Item.{Dict, Item, the_lemmas}
pub use Rattle.tor_bencode.specs.declared.item_ref.ItemRef.{Dict as RefDict, ItemRef, the_lemmas as ref_lemmas}
pub use Rattle.tor_merkle.specs.declared.TheConstants.{MAX_LENGTH}
pub use Rattle.tor_tree.specs.FileList.{IsFileList, IsInPathOrder, is_inside, lengths_fault, lengths_of}
pub use Rattle.tor_tree.specs.FileList.{lengths_too_large, list_fault, paths_fault, paths_nest, paths_of, paths_repeat}
pub use Rattle.tor_tree.specs.FileList.{IsLetteredList, LetteredFiles, files_with_attrs, without_letters}
pub use Rattle.tor_tree.specs.FileTree.{are_entries, entries_in, entries_mix, entries_of, file_of, files_of_tree}
pub use Rattle.tor_tree.specs.FileTree.{folder_mixes, has_empty_key, is_folder, lacks_root, properties_in, takes_memory}
pub use Rattle.tor_tree.specs.FileTree.{takes_memory_in, tree_fault, tree_mixes, under}
pub use Rattle.tor_tree.specs.Letters.{letters, no_letters}
pub use Rattle.tor_tree.specs.Name.{has_byte, name_fault, slash}
pub use Rattle.tor_tree.specs.Path.{HasNames, IsFilePath, name_cmp, name_eq, path_cmp, path_eq}
pub use Rattle.tor_tree.specs.PathList.{AreIndexedPaths, AreIndices, indices_of, with_indices}
pub use Rattle.tor_tree.specs.Properties.{are_properties, as_integer, as_string, has_attr, has_letter}
pub use Rattle.tor_tree.specs.Properties.{has_negative_length, is_hash, length_of, letter_h, letter_l, letter_x}
pub use Rattle.tor_tree.specs.Properties.{letters_of, pieces_root, properties_for, with_string}
pub use Rattle.tor_tree.specs.TidyTree.{AreTidy, AtMostOneTree, HasItsRoot, IsFileTreeOf, IsTidy, IsTidyFile}
pub use Rattle.tor_tree.specs.TidyTree.{lettered_files}
pub use Rattle.tor_tree.specs.WrittenTree.{file_tree, pairs_of_files, put_first, put_inside, put_under, with_properties}
pub use Rattle.tor_tree.specs.declared.attr.Attr.{Attr}
pub use Rattle.tor_tree.specs.declared.entries.DescribedFile.{DescribedFile}
pub use Rattle.tor_tree.specs.declared.lists.ListError.{ListError}
pub use Rattle.tor_tree.specs.declared.lists.TheConstants.{MAX_TOTAL, ROUNDING}
pub use Rattle.tor_tree.specs.declared.names.NameError.TheVariants.{NotUtf8}
pub use Rattle.tor_tree.specs.declared.tree_file.TreeFault.TheVariants.{Memory}
pub use Rattle.tor_tree.specs.declared.tree_file.TreeFile.{TreeFile}
pub use Rattle.tor_tree.specs.steps.Reading.{entries_fault, entry_at, facts_in, facts_of, file_from, hash_of}
pub use Rattle.tor_tree.specs.steps.Reading.{path_if_any}
pub use Rattle.tor_tree.specs.steps.Writing.{IsRoot, below, files_below, has_name_at, is_first}
