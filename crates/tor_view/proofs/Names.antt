-- The names that the proofs cite, passed on from one place. Declares nothing.
pub use Rattle.std.proofs.Common.{Bool, IfOk, List, None, Option, Some, [], add-one, ap, append-nil, append_assoc, ap₂}
pub use Rattle.std.proofs.Common.{arith, bit_or, codes, cond, drop, eqb, false, find, get_or, inl, inr, is_some, leb}
pub use Rattle.std.proofs.Common.{length, length-append, length-drop, lit<, ltb, map, max, min, mul-le-mul_right}
pub use Rattle.std.proofs.Common.{nat_le}
pub use Rattle.std.proofs.Common.{nat_lt, negsuc, not, option_map, pos, refl, replicate, reverse, subst, suc, sum}
pub use Rattle.std.proofs.Common.{sum_by, sym, take, true, unsigned_abs, unwrap_or, w8, zero, zero-add, ℕ, ℤ, ◌%◌, ◌&&◌}
pub use Rattle.std.proofs.Common.{◌*◌, ◌++◌, ◌+◌, ◌-◌, ◌/◌, ◌<◌, ◌==◌, ◌^◌, ◌||◌, ◌↔◌, ◌∙◌, ◌∷◌, ◌≡◌, ◌≢◌, ◌≤◌, ◌⊎◌}
pub use Rattle.std.proofs.Math.Bool.{beq}
pub use Rattle.std.proofs.Math.ListN.{set}
pub use Rattle.std.proofs.Math.Nat.{add-mul-div_right, add-mul-mod_self_right, div-div-eq-div-mul, mod-lt}
pub use Rattle.std.proofs.Math.Nat.{pow-suc, zero-div, zero-mod}
pub use Rattle.std.proofs.Math.Seq.{take-append-add}
pub use Rattle.std.proofs.lemmas.Bool.{and_from, and_parts, and_right, cases_Bool, cases_eq, cases_lt, cond-false}
pub use Rattle.std.proofs.lemmas.Bool.{cond-true, eqb-true, false≢true, le-leb, le-ltb, leb-true, lt-leb, lt-ltb}
pub use Rattle.std.proofs.lemmas.Bool.{and_left, eq-eqb, ltb-false, ltb-true, ne_eqb, not-false, or_parts, true≢false}
pub use Rattle.std.proofs.lemmas.Grind.{div_ceil_times, get_or_default_zero}
pub use Rattle.std.proofs.lemmas.List.{drop-append-le, drop-drop, drop-map, drop-replicate, drop_all, drop_at}
pub use Rattle.std.proofs.lemmas.List.{get_or-append_right, get_or-replicate, get_or-take, length-take}
pub use Rattle.std.proofs.lemmas.List.{get_or-drop, get_or-set_other, get_or-set_same, get_or_past}
pub use Rattle.std.proofs.lemmas.List.{drop_more, get_or_append_left, length-map, length-replicate}
pub use Rattle.std.proofs.lemmas.List.{replicate-append-replicate}
pub use Rattle.std.proofs.lemmas.List.{reverse-append, take-append-le, take-map, take-replicate, take_all, take_min}
pub use Rattle.std.proofs.lemmas.List.Elements.{All-nil, All-push, All-from_recursion, All-get_or, filter-append}
pub use Rattle.std.proofs.lemmas.List.Folds.{list_all-append, list_all_at, list_any-append}
pub use Rattle.std.proofs.lemmas.List.FromFn.{fill_by_all, get_or-map-range_with_len, length-map-range_with_len}
pub use Rattle.std.proofs.lemmas.List.FromFn.{map-range_with_len_more, sum_by-map-range_with_len_more}
pub use Rattle.std.proofs.lemmas.List.Quantifiers.{all_pairs_push}
pub use Rattle.std.proofs.lemmas.List.Sorted.{IsPermutation-reverse, list_any-IsPermutation, sum_by-IsPermutation}
pub use Rattle.std.proofs.lemmas.List.Sums.{count_by-le-length}
pub use Rattle.std.proofs.lemmas.List.Sums.{count_by_more_no, count_by_more_yes, sum_by-append, sum_by-cons}
pub use Rattle.std.proofs.lemmas.List.Sums.{sum_by-le-sum_by}
pub use Rattle.std.proofs.lemmas.Nat.{div-add-mod', div-mul-add, div_below, le-div, or_of_8}
pub use Rattle.std.proofs.lemmas.Nat.Bits.{bit_at-lt, bit_at_set_other, bit_at_set_same, shr_and_one}
pub use Rattle.std.proofs.lemmas.Option.{slice_get-get_or, slice_get_past}
pub use Rattle.std.specs.Int.{bit_at, div_ceil, next_multiple_of}
pub use Rattle.std.specs.List.{All, AllByRecursion, AllPairs, flat_map, list_all, list_any, range_with_len}
pub use Rattle.std.specs.Option.{option_eq}
pub use Rattle.std.specs.Prelude.{if◌then◌else◌}
pub use Rattle.std.specs.Prelude.{filter, slice_get}
pub use Rattle.std.specs.Str.{bytes_eq}
pub use Rattle.tor_bencode.specs.Data.{Data}
pub use Rattle.tor_bencode.specs.Find.{value_of}
pub use Rattle.tor_bencode.specs.Span.{span_of}
pub use Rattle.tor_check.specs.ValidViews.{IsViewOfValid}
pub use Rattle.tor_merkle.proofs.ProvedLaws.{below_from_ceil, ceil_few, piece_length_bounds, range_same}
pub use Rattle.tor_merkle.specs.Block.{run_at}
pub use Rattle.tor_merkle.specs.Layer.{is_piece_length}
pub use Rattle.tor_merkle.specs.declared.TheConstants.{MAX_LENGTH}
pub use Rattle.tor_plan.proofs.ProvedLaws.{Label, aligned_pieces_are_joined, entry_cases, file, files_within, padding}
pub use Rattle.tor_plan.specs.Content.{part_content, unit_content}
pub use Rattle.tor_plan.specs.Entries.{after_part, after_zeros, empty_unit, entries_length, entry_units}
pub use Rattle.tor_plan.specs.Entries.{file_unit, joined_entry_unit, lengths_of_entries, shared, units_of_file}
unfoldable pub use Rattle.tor_plan.specs.Entries.{joined_entry_units, padding_before_next, separate_entry_units}
unfoldable pub use Rattle.tor_plan.specs.Entries.{unit_within}
pub use Rattle.tor_plan.specs.EntryList.{IsPaddedTo, has_padding}
unfoldable pub use Rattle.tor_plan.specs.EntryList.{ArePadded, IsLaidOut}
pub use Rattle.tor_plan.specs.PlanFacts.{IsPlanPieceLength}
pub use Rattle.tor_plan.specs.Present.{is_part_there, is_there}
pub use Rattle.tor_plan.specs.declared.units.Part.{Part}
pub use Rattle.tor_plan.specs.declared.units.PlanUnit.{PlanUnit}
pub use Rattle.tor_view.specs.Bitfield.{bit_of, bitfield, byte_from, set_count}
pub use Rattle.tor_view.specs.FileBytes.{AreRangesOf, PiecedFile, is_bad_byte, is_in_ranges}
pub use Rattle.tor_view.specs.FileBytes.{piece_of_byte}
pub use Rattle.tor_view.specs.Files.{AllHold, AreFewer, AreThere, OneFails}
pub use Rattle.tor_view.specs.Files.{file_found, file_spans, found_at, has_bytes_of}
pub use Rattle.tor_view.specs.Files.{joined_span, tree_span}
pub use Rattle.tor_view.specs.Files.{joined_spans, no_span, pieces_of_file, state_of, tree_spans}
pub use Rattle.tor_view.specs.Pieces.{IsCut, entries_to_cut, has_root, has_sha1, hashes_of_file}
pub use Rattle.tor_view.specs.Pieces.{is_right, no_file, piece_root, pieces_of}
pub use Rattle.tor_view.specs.Pieces.{told_hashes}
unfoldable pub use Rattle.tor_view.specs.Pieces.{right_pieces}
pub use Rattle.tor_view.specs.declared.file_pieces.ByteRange.{ByteRange}
pub use Rattle.tor_view.specs.declared.files.FileState.TheVariants.{Bad, Short, Whole}
pub use Rattle.tor_view.specs.declared.spans.FileSpan.{FileSpan}
pub use Rattle.tor_view.specs.steps.FileBytes.{IsSpanOf, with_range}
pub use Rattle.tor_view.specs.steps.Packed.{AreBytes, Grows, KeepsBits, packed_bit, packed_bits}
pub use Rattle.tor_view.specs.steps.Spans.{span_of_entry}
pub use Rattle.tor_spec.specs.Present.{bytes_in, file_bytes, is_whole, joined_bytes}
pub use Rattle.tor_spec.specs.Verified.{file_pieces, is_merkle_piece, is_sha1_piece, is_verified, merkle_hash}
pub use Rattle.tor_spec.specs.Verified.{merkle_pieces, told_hash, verified_pieces}
pub use Rattle.tor_spec.specs.valid.Conditions.{conditions, holds, refusal_of}
pub use Rattle.tor_spec.specs.valid.Heads.{is_no_piece_length}
pub use Rattle.tor_spec.specs.valid.Layers.{pieces_in}
pub use Rattle.tor_spec.specs.valid.ListSide.{ListedFile, joined_size, list_too_large, listed_files, side_files}
pub use Rattle.tor_spec.specs.valid.ListSide.{side_piece_count, sizes_too_large, without_padding}
pub use Rattle.tor_spec.specs.valid.Parts.{info_of, is_private, kind_of, name_of, part, piece_length_of, text_of}
pub use Rattle.tor_spec.specs.valid.SidesAgree.{aligned_after, alignment, files_differ, has_wrong_tail, is_filled}
pub use Rattle.tor_spec.specs.valid.SidesAgree.{is_misaligned_after, last_size, listed_by_list, listed_by_tree}
pub use Rattle.tor_spec.specs.valid.SidesAgree.{same_files, size_before, tail_size}
pub use Rattle.tor_spec.specs.valid.TreeSide.{tree_files, tree_of, tree_too_large}
pub use Rattle.tor_spec.specs.valid.View.{FileView, View, entry_of_file, file_of_list, file_of_tree, tree_piece_count}
pub use Rattle.tor_spec.specs.valid.View.{files_of_both, view_of}
pub use Rattle.tor_spec.proofs.ProvedLaws.{map_lettered, sum_lettered}
pub use Rattle.tor_tree.specs.FileList.{lengths_too_large}
pub use Rattle.tor_tree.specs.Kinds.{has_v1, has_v2}
pub use Rattle.tor_tree.specs.Path.{path_eq}
pub use Rattle.tor_tree.specs.Properties.{as_integer}
pub use Rattle.tor_tree.specs.declared.kinds.Kind.{Kind}
pub use Rattle.tor_tree.specs.declared.kinds.Kind.TheVariants.{Hybrid, V1, V2}
pub use Rattle.tor_tree.specs.declared.lists.TheConstants.{MAX_TOTAL, ROUNDING}
pub use Rattle.tor_tree.specs.declared.tree_file.TreeFile.{TreeFile}
pub use Rattle.tor_v1.proofs.ProvedLaws.{no_padding}
pub use Rattle.tor_v1.specs.Entries.{file_entry, padding_length}
pub use Rattle.tor_v1.specs.Piece.{IsV1PieceLength, max_piece_length, piece_sums}
unfoldable pub use Rattle.tor_v1.specs.Piece.{zeros}
pub use Rattle.tor_v1.specs.declared.entry.Entry.{Entry}
