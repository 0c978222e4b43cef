-- The names that the proofs cite, passed on from one place. Declares nothing.
pub use Rattle.std.proofs.Common.{Bool, IfOk, IsTrue, List, None, Option, Some, [], ap, append-nil, append_assoc, ap₂}
pub use Rattle.std.proofs.Common.{arith, cond, drop, eq-zero-or-pos, false, get_or, inl, inr, leb, length}
pub use Rattle.std.proofs.Common.{length-append, length-drop, lt_of_mul-lt-mul_right, ltb, map, max, min}
pub use Rattle.std.proofs.Common.{mul-le-mul_right, mul-pos, mul_assoc, mul_comm, pow-add, pow-suc, refl, rules, set}
pub use Rattle.std.proofs.Common.{subst, suc, sum, sum_by, sym, take, true, zero, zero-add, ℕ, ◌%◌, ◌&&◌, ◌*◌, ◌++◌}
pub use Rattle.std.proofs.Common.{◌+◌, ◌-◌, ◌/◌, ◌<◌, ◌^◌, ◌∙◌, ◌∷◌, ◌||◌, ◌≡◌, ◌≢◌, ◌≤◌, ◌⊎◌}
pub use Rattle.std.proofs.Math.Nat.{le-mul_of_pos_right, pow-le-pow_right}
pub use Rattle.std.proofs.Math.Pow.{pow-lt}
pub use Rattle.std.proofs.Math.Seq.{take-add, take-append-add}
pub use Rattle.std.proofs.lemmas.Bool.{and_from, and_left, and_right, cases_Bool, cases_eq, cases_lt, cases_order}
pub use Rattle.std.proofs.lemmas.Bool.{cond-false, cond-true, eqb-true, le-leb, le-ltb, lt-leb, lt-ltb, ltb-false}
pub use Rattle.std.proofs.lemmas.Bool.{or_from, or_parts, true≢false}
pub use Rattle.std.proofs.lemmas.Grind.{div_ceil_times}
pub use Rattle.std.proofs.lemmas.List.{drop-append-le, drop-drop, drop-replicate, drop-take, drop_all, drop_at}
pub use Rattle.std.proofs.lemmas.List.{drop_more, get_or-drop, get_or-map, get_or_default, length-map, length-take-le}
pub use Rattle.std.proofs.lemmas.List.{nil_from_length, replicate-append-replicate, set_at, take-append-drop}
pub use Rattle.std.proofs.lemmas.List.{take-append-le, take-replicate, take-take, take_all, take_min}
pub use Rattle.std.proofs.lemmas.List.Concat.{flat_map-append}
pub use Rattle.std.proofs.lemmas.List.Elements.{All-append, All-cons, All-head, All-map, All-nil, All-tail}
pub use Rattle.std.proofs.lemmas.List.Folds.{flat_map-map}
pub use Rattle.std.proofs.lemmas.List.FromFn.{get_or-map-range_with_len, length-map-range_with_len}
pub use Rattle.std.proofs.lemmas.List.FromFn.{length-range_with_len, map-range_with_len_more}
pub use Rattle.std.proofs.lemmas.List.Sums.{sum-map, sum_by-append, sum_by-cons, sum_by-le-sum_by, sum_by_more}
pub use Rattle.std.proofs.lemmas.Nat.{ones_le_self, zero_from_ones}
pub use Rattle.std.proofs.lemmas.Simd.{map-map}
pub use Rattle.std.specs.Int.{div_ceil, is_power_of_two, next_multiple_of}
pub use Rattle.std.specs.Int.RustNames.{count_ones}
pub use Rattle.std.specs.List.{All, flat_map, list_any, range_with_len}
pub use Rattle.std.specs.Option.{option_or}
pub use Rattle.tor_merkle.proofs.ProvedLaws.{below_from_ceil, ceil_at_most, ceil_few, ceil_is, height_least}
pub use Rattle.tor_merkle.proofs.ProvedLaws.{power_from_ones, range_same}
pub use Rattle.tor_merkle.specs.Subtree.{height}
pub use Rattle.tor_merkle.specs.declared.TheConstants.{MAX_LENGTH}
pub use Rattle.tor_plan.specs.Content.{layout_of_kind, part_content, unit_content}
pub use Rattle.tor_plan.specs.Entries.{after_part, after_zeros, empty_unit, entries_length, entry_units}
pub use Rattle.tor_plan.specs.Entries.{file_unit, joined_entry_unit, lengths_of_entries, shared, units_of_file}
unfoldable pub use Rattle.tor_plan.specs.Entries.{joined_entry_units, padding_before_next, separate_entry_units}
unfoldable pub use Rattle.tor_plan.specs.Entries.{unit_within}
pub use Rattle.tor_plan.specs.EntryList.{IsEntryList, IsPaddedTo, has_padding, is_filled}
unfoldable pub use Rattle.tor_plan.specs.EntryList.{ArePadded, IsLaidOut}
pub use Rattle.tor_plan.specs.Forest.{forest_trees, unit_level}
unfoldable pub use Rattle.tor_plan.specs.Forest.{AreRuns, log2, trees_from}
pub use Rattle.tor_plan.specs.Pieces.{piece_of_unit, unit_between}
unfoldable pub use Rattle.tor_plan.specs.Pieces.{parts_between, pieces_of_unit}
pub use Rattle.tor_plan.specs.PlanFacts.{IsPlan, IsPlanPieceLength, IsSpan, PlanFacts, plan_of_entries}
pub use Rattle.tor_plan.specs.Positions.{positions, positions_of_unit}
unfoldable pub use Rattle.tor_plan.specs.Positions.{positions_of_files}
pub use Rattle.tor_plan.specs.Present.{is_there}
pub use Rattle.tor_plan.specs.WithinEntries.{IsInFile, IsUnitWithin, unit_length}
pub use Rattle.tor_plan.specs.WithinFiles.{IsFileUnit}
pub use Rattle.tor_plan.specs.declared.forests.Run.{Run}
pub use Rattle.tor_plan.specs.declared.unit_cut.Stretch.{Stretch}
pub use Rattle.tor_plan.specs.declared.unit_cut.Stretch.TheVariants.{Bytes, Zeros}
pub use Rattle.tor_plan.specs.declared.unit_cut.UnitCut.{UnitCut}
pub use Rattle.tor_plan.specs.declared.units.Part.{Part}
pub use Rattle.tor_plan.specs.declared.units.PlanUnit.{PlanUnit}
pub use Rattle.tor_plan.specs.steps.Joined.{file_alone, joined, part_alone, zeros_alone}
pub use Rattle.tor_plan.specs.steps.UnitCut.{HasCut, IsStretchAt, stretch_at}
pub use Rattle.tor_plan.specs.steps.Whole.{AreWhole, plan_of_whole, separate_pieces, unnamed, whole_unit, whole_units}
unfoldable pub use Rattle.tor_plan.specs.steps.Whole.{whole_from}
pub use Rattle.tor_tree.proofs.ProvedLaws.{files_are_small, is_clear}
pub use Rattle.tor_tree.specs.FileList.{IsFileList, lengths_fault, lengths_of, lengths_too_large, paths_fault, paths_of}
pub use Rattle.tor_tree.specs.declared.kinds.Kind.{Kind}
pub use Rattle.tor_tree.specs.declared.kinds.Kind.TheVariants.{Hybrid, V1, V2}
pub use Rattle.tor_tree.specs.declared.lists.ListError.{ListError}
pub use Rattle.tor_tree.specs.declared.lists.ListError.TheVariants.{TooLarge}
pub use Rattle.tor_tree.specs.declared.lists.TheConstants.{MAX_TOTAL, ROUNDING}
pub use Rattle.tor_v1.proofs.ProvedLaws.{facts-v1_entries, length_of_zeros, no_padding, piece_sums-nil}
pub use Rattle.tor_v1.proofs.ProvedLaws.{sums_of_joined, whole_with_padding}
pub use Rattle.tor_v1.specs.Content.{AreContentsOf, file_entries}
unfoldable pub use Rattle.tor_v1.specs.Content.{joined_content}
pub use Rattle.tor_v1.specs.Entries.{file_entry, has_bytes, pad_entry, padding_after, padding_length, v1_entries}
unfoldable pub use Rattle.tor_v1.specs.Entries.{aligned_entries}
pub use Rattle.tor_v1.specs.Piece.{IsV1PieceLength, piece_sums}
unfoldable pub use Rattle.tor_v1.specs.Piece.{zeros}
pub use Rattle.tor_v1.specs.declared.entry.Entry.{Entry}
pub use Rattle.tor_v1.specs.declared.layout.Layout.{Layout}
pub use lib.Count.{ones_step}
