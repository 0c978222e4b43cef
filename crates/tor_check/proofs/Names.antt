-- The names that the proofs cite, passed on from one place. Declares nothing.
pub use Rattle.std.proofs.Common.{Bool, Err, List, None, Ok, Option, Result, Some, [], ap, ap₂, arith, codes, cond}
pub use Rattle.std.proofs.Common.{drop, false, get_or, inl, inr, int_lt, is_none, is_some, leb-false, leb-true, length}
pub use Rattle.std.proofs.Common.{lit<, map, min, nat_eq, nat_lt, negsuc, not, pos, refl, replicate, reverse, rules}
pub use Rattle.std.proofs.Common.{slice_index_or, subst, suc, sum_by, sym, take, true, true≢false, unsigned_abs}
pub use Rattle.std.proofs.Common.{unwrap_or, zero, ℕ, ℤ, ⊎_elim, ◌&&◌, ◌*◌, ◌++◌, ◌+◌, ◌-◌, ◌/◌, ◌<◌, ◌==◌, ◌^◌, ◌||◌}
pub use Rattle.std.proofs.Common.{◌∙◌, ◌∷◌, ◌≡◌, ◌≢◌, ◌≤◌, ◌⊎◌}
pub use Rattle.std.proofs.Math.Nat.{mul-le-mul_left, mul-le-mul_right}
pub use Rattle.std.proofs.Math.Seq.{take-suc}
pub use Rattle.std.proofs.lemmas.Bool.{cases_lt, cond-true, eqb-false, eqb-true, le-leb, le-ltb, lt-leb, lt-ltb}
pub use Rattle.std.proofs.lemmas.Bool.{ltb-true}
pub use Rattle.std.proofs.lemmas.Bool.{ltb-false}
pub use Rattle.std.proofs.lemmas.Grind.{div_ceil_times}
pub use Rattle.std.proofs.lemmas.Int.{to_z-of_z}
pub use Rattle.std.proofs.lemmas.List.{append-nil, length-map, length-replicate, map-append, reverse-append, take_all}
pub use Rattle.std.proofs.lemmas.List.{take_more}
pub use Rattle.std.proofs.lemmas.List.Elements.{All-from_recursion, All-get_or, filter_map-append}
pub use Rattle.std.proofs.lemmas.List.Folds.{list_all-map, list_all_at, list_all_more, list_any_at, list_any_more}
pub use Rattle.std.proofs.lemmas.List.FromFn.{length-map-range_with_len}
pub use Rattle.std.proofs.lemmas.List.Sums.{sum_by-cons, sum_by-le-sum_by}
pub use Rattle.std.proofs.lemmas.Option.{cond_some, get_or_from_slice_get, none-some, same_Some, slice_get-map}
pub use Rattle.std.proofs.lemmas.Option.{slice_get_read, slice_get_within}
pub use Rattle.std.proofs.lemmas.Slice.Eq.{bytes_eq-Decides}
pub use Rattle.std.specs.Int.{div_ceil, next_multiple_of, w64}
pub use Rattle.std.specs.List.{All, AllByRecursion, cons_option, list_all, list_any}
pub use Rattle.std.specs.Option.{option_or}
pub use Rattle.std.specs.Prelude.{IfErr, IfOk, OnOk, find, if◌then◌else◌, nat_le, option_map, slice_get}
pub use Rattle.std.specs.Simd.{first_chunks}
pub use Rattle.std.specs.Slice.Iter.{iter_rest}
pub use Rattle.std.specs.Str.{bytes_eq}
pub use Rattle.tor_bencode.proofs.ProvedLaws.{no_spelling_begins_another, value_has_rising_keys}
pub use Rattle.tor_bencode.specs.Data.{Data, dictionary, list, no_pairs}
pub use Rattle.tor_bencode.specs.Find.{keys_in, value_of}
pub use Rattle.tor_bencode.specs.Lawful.{HasRisingKeys, IsLawful}
pub use Rattle.tor_bencode.specs.Spelling.{spelling}
pub use Rattle.tor_bencode.specs.RefView.{items_view, view}
pub use Rattle.tor_bencode.specs.View.{items_of}
pub use Rattle.tor_bencode.specs.declared.item_ref.ItemRef.{ItemRef}
pub use Rattle.tor_check.specs.PieceProofs.{IsPieceProof, piece_refusal}
pub use Rattle.tor_check.specs.Refusals.{of_list_error, of_tree_fault, refusal_for}
pub use Rattle.tor_check.specs.Valid.{IsRefused, IsRefusedFor}
pub use Rattle.tor_check.specs.ValidViews.{HasRisingPaths, IsViewOfValid}
pub use Rattle.tor_check.specs.declared.listed.Listed.{Listed}
pub use Rattle.tor_check.specs.declared.marks.Marks.{Marks}
pub use Rattle.tor_check.specs.declared.piece_proofs.ProveError.{ProveError}
pub use Rattle.tor_check.specs.declared.refusal.Refusal.{Refusal}
pub use Rattle.tor_check.specs.declared.refusal.Refusal.TheVariants.{Memory}
pub use Rattle.tor_check.specs.steps.Judged.{IsFirst, Names, alignment_conditions, conditions_before_memory, first_in}
pub use Rattle.tor_check.specs.steps.Judged.{first_of_alignment, head_conditions, layer_conditions}
pub use Rattle.tor_check.specs.steps.Layers.{IsJudged, IsKept, IsShared, has_faulty_layer, hashes_of, layer_of_root}
pub use Rattle.tor_check.specs.steps.Layers.{seen}
pub use Rattle.tor_check.specs.steps.Listed.{all_listed, file_of_listed, files_from, first_after_sizes, first_of_list}
pub use Rattle.tor_check.specs.steps.Listed.{list_holds, listed_entry, listed_single, lists_some, marks_in, marks_of}
pub use Rattle.tor_check.specs.steps.Listed.{side_conditions, size_of_listed, sized, sized_files, takes_files}
pub use Rattle.tor_check.specs.steps.Listed.{tree_pairs}
pub use Rattle.tor_check.specs.steps.PieceProofs.{HasTree}
pub use Rattle.tor_check.specs.steps.Sides.{earlier, earlier_refusal, earliest, files_if, first_of_both, first_of_sides}
pub use Rattle.tor_check.specs.steps.Sides.{first_of_tree, list_if, listed_if, number_of, takes_tree, tree_holds}
pub use Rattle.tor_check.specs.steps.Sides.{tree_if}
pub use Rattle.tor_check.specs.steps.Views.{viewed}
pub use Rattle.tor_merkle.proofs.ProvedLaws.{ceil_few, count_of_piece_roots, proofs_are_low}
pub use Rattle.tor_merkle.specs.Layer.{IsPieceLength, is_piece_length, piece_level, piece_roots}
pub use Rattle.tor_merkle.specs.Proof.{is_proof, proof_count, proof_level}
unfoldable pub use Rattle.tor_merkle.specs.Proof.{proof_root, siblings_of}
pub use Rattle.tor_merkle.specs.Stack.{padded_root}
unfoldable pub use Rattle.tor_merkle.specs.Subtree.{height}
pub use Rattle.tor_merkle.specs.declared.TheConstants.{MAX_LENGTH}
pub use Rattle.tor_spec.specs.valid.Conditions.{Condition, IsValid, conditions, holds, of_list, of_tree, refusal_of}
pub use Rattle.tor_spec.specs.valid.Heads.{is_no_piece_length}
pub use Rattle.tor_spec.specs.valid.Layers.{has_other_root, is_misshaped, lacks_layer, layer_length, layer_of}
pub use Rattle.tor_spec.specs.valid.Layers.{hashes_in, layer_root, layer_text, layers_of, pieces_in, root_of_file}
pub use Rattle.tor_spec.specs.valid.ListSide.{ListedFile, described, entry_file, has_list, is_name, is_no_entry}
pub use Rattle.tor_spec.specs.valid.ListSide.{is_no_sums, is_path, joined_size, letter_p, list_duplicate}
pub use Rattle.tor_spec.specs.valid.ListSide.{list_file_and_folder, list_length, list_no_files, list_pieces, list_shape}
pub use Rattle.tor_spec.specs.valid.ListSide.{list_symlink, listed_files, listed_paths, names_of, side_files, side_size}
pub use Rattle.tor_spec.specs.valid.ListSide.{single_file, without_padding}
pub use Rattle.tor_spec.specs.valid.Parts.{info_of, items_in, kind_of, part, piece_length_of, text_of}
pub use Rattle.tor_spec.specs.valid.SidesAgree.{aligned_after, alignment, attr_differs, files_differ, has_wrong_tail}
pub use Rattle.tor_spec.specs.valid.SidesAgree.{is_filled, is_misaligned_after, last_size, letters_differ, same_files}
pub use Rattle.tor_spec.specs.valid.SidesAgree.{some_letters_differ, tail_size}
pub use Rattle.tor_spec.specs.valid.TreeSide.{tree_files, tree_of, tree_root}
pub use Rattle.tor_spec.specs.valid.View.{FileView, View, entry_of_file, file_of_list, file_of_tree, files_of, view_of}
pub use Rattle.tor_spec.specs.valid.View.{file_of_both, files_of_both, lettered}
pub use Rattle.tor_spec.proofs.ProvedLaws.{lettered_case, lettered_none, map_lettered}
pub use Rattle.tor_tree.proofs.ProvedLaws.{rising_paths}
pub use Rattle.tor_tree.specs.FileList.{lengths_of, lengths_too_large, list_fault, paths_nest, paths_of, paths_repeat}
pub use Rattle.tor_tree.specs.FileTree.{entries_of, file_of, lacks_root, tree_fault}
pub use Rattle.tor_tree.specs.Kinds.{has_v1, has_v2}
pub use Rattle.tor_tree.specs.Name.{has_byte}
pub use Rattle.tor_tree.specs.Properties.{has_attr}
pub use Rattle.tor_tree.specs.Properties.{are_properties, as_integer, as_string, has_letter, has_negative_length}
pub use Rattle.tor_tree.specs.Properties.{is_hash, length_of, letter_h, letter_l, letter_x, letters_of, pieces_root}
pub use Rattle.tor_tree.specs.declared.kinds.Kind.{Kind}
pub use Rattle.tor_tree.specs.declared.kinds.Kind.TheVariants.{Hybrid, V1, V2}
pub use Rattle.tor_tree.specs.declared.lists.ListError.{ListError}
pub use Rattle.tor_tree.specs.declared.lists.TheConstants.{MAX_TOTAL, ROUNDING}
pub use Rattle.tor_tree.specs.declared.tree_file.TreeFault.{TreeFault}
pub use Rattle.tor_tree.specs.declared.tree_file.TreeFile.{TreeFile}
pub use Rattle.tor_v1.specs.Piece.{max_piece_length}
pub use native.Mathlib.Numerals.{unary_clauses}
