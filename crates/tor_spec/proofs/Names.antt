-- The names that the proofs cite, passed on from one place. Declares nothing.
pub use Rattle.std.proofs.Common.{Bool, Equal, Greater, IfSome, Less, List, None, Option, Ordering, Some, [], ap}
pub use Rattle.std.proofs.Common.{append-nil, ap₂, arith, codes, cond, drop, drop_at, false, filter, find, get_or}
pub use Rattle.std.proofs.Common.{get_or-append-add, inl, inr, int_lt, is_none, is_some, length, length-append}
pub use Rattle.std.proofs.Common.{length-drop, length-take-le, lt_of_mul-lt-mul_right, map, mod-lt, mul-le-mul_right}
pub use Rattle.std.proofs.Common.{mul_assoc, nat_le, negsuc, not, option_map, pos, refl, replicate, rules}
pub use Rattle.std.proofs.Common.{slice_index_or, subst, suc, sum_by, sym, take, take-append-drop, take_all, take_at}
pub use Rattle.std.proofs.Common.{true, true≢false, unsigned_abs, unwrap_or, zero, zero-add, ℕ, ◌%◌, ◌&&◌, ◌*◌, ◌++◌}
pub use Rattle.std.proofs.Common.{◌+◌, ◌-◌, ◌/◌, ◌<◌, ◌==◌, ◌^◌, ◌||◌, ◌∙◌, ◌∷◌, ◌≡◌, ◌≢◌, ◌≤◌}
pub use Rattle.std.proofs.Math.Nat.{mod-add-div', mod-eq_of_lt, mod_self, zero-mod}
pub use Rattle.std.proofs.Math.Seq.{drop-append_seam, take-append_seam}
pub use Rattle.std.proofs.lemmas.Bool.{and_from, and_parts, and_right, cases_eq, cases_lt, cond-false, cond-true}
pub use Rattle.std.proofs.lemmas.Bool.{eq-eqb, false≢true, le-leb, le-ltb, leb-false, lt-leb, lt-ltb, ltb-false}
pub use Rattle.std.proofs.lemmas.Bool.{ltb-true, not_from_true, or_cases, or_from, or_left, or_parts, or_right}
pub use Rattle.std.proofs.lemmas.Cmp.{lists_equiv, nat_list_eq_equiv}
pub use Rattle.std.proofs.lemmas.Grind.{div_ceil_times}
pub use Rattle.std.proofs.lemmas.List.{drop-map, drop_all, length-replicate, map-append, nil_from_length}
pub use Rattle.std.proofs.lemmas.List.Elements.{All-append, All-contains, All-from_get_or, All-from_recursion, All-map}
pub use Rattle.std.proofs.lemmas.List.Elements.{All-nil, All-replicate, Contains-get_or, filter-append}
pub use Rattle.std.proofs.lemmas.List.Elements.{recursion_from_All}
pub use Rattle.std.proofs.lemmas.List.Folds.{list_any_none}
pub use Rattle.std.proofs.lemmas.List.FromFn.{fill_by_all, get_or-map-range_with_len, length-map-range_with_len}
pub use Rattle.std.proofs.lemmas.List.Sums.{sum_by-append, sum_by-cons, sum_by-le-sum_by, sum_by_push}
pub use Rattle.std.proofs.lemmas.Option.{same_Some}
pub use Rattle.std.proofs.lemmas.Slice.Eq.{bytes_eq-Decides}
pub use Rattle.std.specs.Cmp.Lexicographic.{nat_list_cmp_total, texts_ties}
pub use Rattle.std.specs.Int.{div_ceil, next_multiple_of}
pub use Rattle.std.specs.List.{All, AllByRecursion, AllZip, Contains, list_all, list_any, range_with_len}
unfoldable pub use Rattle.std.specs.List.Sorted.{IsStrictlySortedBy}
pub use Rattle.std.specs.Option.{option_or}
pub use Rattle.std.specs.Ordering.{is_eq, match_ordering, ordering_reverse}
pub use Rattle.std.specs.Prelude.{if◌then◌else◌, nat_lt, slice_get}
pub use Rattle.std.specs.Simd.{first_chunks}
pub use Rattle.std.specs.Str.{bytes_eq}
unfoldable pub use Rattle.std.specs.Str.{chars, is_utf8}
pub use Rattle.tor_bencode.proofs.ProvedLaws.{no_value_before_the_first_key}
pub use Rattle.tor_bencode.specs.Data.{Data, Items, Pairs, dictionary, integer, item, keys_of, list, no_pairs, pair}
pub use Rattle.tor_bencode.specs.Data.{string}
pub use Rattle.tor_bencode.specs.Find.{value_in, value_of}
pub use Rattle.tor_bencode.specs.Lawful.{AreRising, IsLawful, IsLawfulWithin, ItemsAreLawfulWithin}
pub use Rattle.tor_bencode.specs.Lawful.{PairsAreLawfulWithin}
unfoldable pub use Rattle.tor_bencode.specs.Spelling.{base_ten}
pub use Rattle.tor_bencode.specs.Spelling.{spelling}
pub use Rattle.tor_bencode.specs.View.{items_of}
pub use Rattle.tor_merkle.proofs.ProvedLaws.{below_from_ceil, ceil_at_most, ceil_whole}
pub use Rattle.tor_merkle.proofs.ProvedLaws.{count_of_piece_roots, layer_of_long_content, piece_length_bounds}
pub use Rattle.tor_merkle.proofs.ProvedLaws.{piece_lengths_divide_the_greatest, piece_roots_have_32_bytes}
pub use Rattle.tor_merkle.proofs.ProvedLaws.{piece_roots_of_joined, root_has_32_bytes, root_of_long_content}
pub use Rattle.tor_merkle.proofs.ProvedLaws.{root_of_short_content}
pub use Rattle.tor_merkle.specs.Block.{leaves, run_at}
pub use Rattle.tor_merkle.specs.Layer.{IsPieceLength, piece_level, piece_roots, pieces_root, root_of}
unfoldable pub use Rattle.tor_merkle.specs.Layer.{piece_layer}
pub use Rattle.tor_merkle.specs.Stack.{padded_root, padded_subtree}
pub use Rattle.tor_merkle.specs.declared.TheConstants.{MAX_LENGTH}
pub use Rattle.tor_spec.specs.Dictionary.{present, put, when}
pub use Rattle.tor_spec.specs.Facts.{Facts, File, attrs_in, listed, roots_in}
pub use Rattle.tor_spec.specs.FilesList.{attr_of, entry_dictionary, files_list, strings}
pub use Rattle.tor_spec.specs.InfoDictionary.{info_dictionary, single_letters, total_size}
pub use Rattle.tor_spec.specs.Made.{AreMade, IsViewOfMade, attrs_of, made_file, sizes_of}
pub use Rattle.tor_spec.specs.Makeable.{AreMakeable}
pub use Rattle.tor_spec.specs.Metainfo.{facts_of_files, pieces_of_files, root_dictionary}
unfoldable pub use Rattle.tor_spec.specs.Metainfo.{metainfo}
pub use Rattle.tor_spec.specs.PieceLayers.{joined, piece_layers}
pub use Rattle.tor_spec.specs.Present.{bytes_in, file_bytes, is_whole, joined_bytes}
pub use Rattle.tor_spec.specs.Settings.{Settings, is_aligned, layout_of}
pub use Rattle.tor_spec.specs.Verified.{file_pieces, is_merkle_piece, is_sha1_piece, is_verified, merkle_hash}
pub use Rattle.tor_spec.specs.Verified.{merkle_pieces, told_hash, verified_pieces}
pub use Rattle.tor_spec.specs.valid.Conditions.{Alignment, AttrDiffer, Condition, Duplicate, FileAndFolder, FileLength}
pub use Rattle.tor_spec.specs.valid.Conditions.{FileShape}
pub use Rattle.tor_spec.specs.valid.Conditions.{FilesDiffer, InfoShape, IsTorrentOf, LayerAbsent, LayerLength}
pub use Rattle.tor_spec.specs.valid.Conditions.{LayerRoot, LayersAbsent, LengthAndFiles, MetaVersion, MixedNode, Name}
pub use Rattle.tor_spec.specs.valid.Conditions.{NoFiles, PieceLength, PiecesLength, RootHash, RootShape, Symlink}
pub use Rattle.tor_spec.specs.valid.Conditions.{TooLarge, conditions, holds, of_both, of_list, of_tree, refusal_of}
pub use Rattle.tor_spec.specs.valid.Layers.{has_other_root, hashes_in, is_long, is_misshaped, lacks_layer, layer_of}
pub use Rattle.tor_spec.specs.valid.Layers.{layer_text, layers_of, pieces_in}
pub use Rattle.tor_spec.specs.valid.ListSide.{ListedFile, are_names, described, entry_file, is_name, is_no_entry}
pub use Rattle.tor_spec.specs.valid.ListSide.{is_no_sums, is_path, joined_size, listed_files, listed_paths, names_of}
pub use Rattle.tor_spec.specs.valid.ListSide.{side_files, side_piece_count, single_file, sizes_too_large}
pub use Rattle.tor_spec.specs.valid.ListSide.{without_padding}
pub use Rattle.tor_spec.specs.valid.Parts.{info_of, is_number, is_private, items_in, items_of_list, kind_of, name_of}
pub use Rattle.tor_spec.specs.valid.Parts.{part, piece_length_of, text_of}
pub use Rattle.tor_spec.specs.valid.SidesAgree.{aligned_after, alignment, attr_differs, files_differ}
pub use Rattle.tor_spec.specs.valid.SidesAgree.{has_wrong_tail, is_filled, is_misaligned_after, last_size}
pub use Rattle.tor_spec.specs.valid.SidesAgree.{letters_differ, listed_by_list}
pub use Rattle.tor_spec.specs.valid.SidesAgree.{listed_by_tree, same_files, size_before, some_letters_differ, tail_size}
pub use Rattle.tor_spec.specs.valid.TreeSide.{tree_files, tree_length, tree_mixed, tree_no_files, tree_of, tree_root}
pub use Rattle.tor_spec.specs.valid.TreeSide.{tree_shape, tree_symlink, tree_too_large}
pub use Rattle.tor_spec.specs.valid.View.{FileView, View, entry_of_file, file_of_list, file_of_tree, files_of}
pub use Rattle.tor_spec.specs.valid.View.{file_of_both, files_of_both, lettered, tree_piece_count, view_of}
pub use Rattle.tor_tree.proofs.ProvedLaws.{IsClear, clear, is_clear}
pub use Rattle.tor_tree.proofs.ProvedLaws.{file_tree_is_lawful, file_tree_of_list, files_are_small, lists_have_names}
pub use Rattle.tor_tree.proofs.ProvedLaws.{tree_of_list_is_readable}
pub use Rattle.tor_tree.specs.FileList.{IsFileList, lengths_fault, lengths_of, lengths_too_large, list_fault}
pub use Rattle.tor_tree.specs.FileList.{paths_fault, paths_nest, paths_of, paths_repeat}
pub use Rattle.tor_tree.specs.FileTree.{files_of_tree, is_dictionary, is_folder, lacks_root, properties_in, tree_fault}
pub use Rattle.tor_tree.specs.FileTree.{tree_mixes}
pub use Rattle.tor_tree.specs.Kinds.{has_v1, has_v2}
pub use Rattle.tor_tree.specs.Letters.{letters, no_letters}
pub use Rattle.tor_tree.specs.Name.{has_byte, name_fault}
pub use Rattle.tor_tree.specs.Path.{IsFilePath, name_cmp, path_eq}
pub use Rattle.tor_tree.specs.Properties.{as_integer, as_string, has_letter, has_negative_length, length_of, letter_h}
pub use Rattle.tor_tree.specs.Properties.{letter_l, letter_x, properties_for}
pub use Rattle.tor_tree.specs.TidyTree.{HasItsRoot, lettered_files}
pub use Rattle.tor_tree.specs.WrittenTree.{file_tree}
pub use Rattle.tor_tree.specs.declared.attr.Attr.{Attr}
pub use Rattle.tor_tree.specs.declared.kinds.Kind.{Kind}
pub use Rattle.tor_tree.specs.declared.kinds.Kind.TheVariants.{Hybrid, V1, V2}
pub use Rattle.tor_tree.specs.declared.lists.ListError.{ListError}
pub use Rattle.tor_tree.specs.declared.lists.TheConstants.{MAX_TOTAL, ROUNDING}
pub use Rattle.tor_tree.specs.declared.tree_file.TreeFile.{TreeFile}
pub use Rattle.tor_v1.proofs.ProvedLaws.{each_lettered, facts-v1_entries, length-joined_content, length-piece_sums}
pub use Rattle.tor_v1.proofs.ProvedLaws.{letters_change_no_pieces, letters_change_no_size, letters_keep}
pub use Rattle.tor_v1.proofs.ProvedLaws.{letters_keep_files, no_padding}
pub use Rattle.tor_v1.proofs.ProvedLaws.{sums_of_joined}
pub use Rattle.tor_v1.specs.Content.{AreContentsOf, file_entries}
unfoldable pub use Rattle.tor_v1.specs.Content.{joined_content, v1_pieces}
pub use Rattle.tor_v1.specs.Entries.{file_entry, has_bytes, pad_entry, padding_after, padding_length, v1_entries}
pub use Rattle.tor_v1.specs.Entries.{with_attr}
unfoldable pub use Rattle.tor_v1.specs.Entries.{aligned_entries}
unfoldable pub use Rattle.tor_v1.specs.Entries.{with_letters as on_entries}
pub use Rattle.tor_v1.specs.Piece.{piece_sums}
unfoldable pub use Rattle.tor_v1.specs.Piece.{zeros}
pub use Rattle.tor_v1.specs.declared.entry.Entry.{Entry}
pub use Rattle.tor_v1.specs.declared.layout.Layout.{Layout}
pub use Rattle.tor_v1.specs.declared.layout.Layout.TheVariants.{Aligned, AlignedTail, Joined}
unfoldable pub use lib.Count.{ones}
unfoldable pub use lib.Utf8.{encode}
pub use mathlib.Core.List.{reverse_aux}
