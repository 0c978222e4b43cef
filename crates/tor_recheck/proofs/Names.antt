-- The names that the proofs cite, passed on from one place. Declares nothing.
pub use Rattle.std.proofs.Common.{Bool, IfOk, List, None, Option, Some, [], ap, append-nil, ap₂}
pub use Rattle.std.proofs.Common.{arith, cond, drop, false, get_or, inl, inr, is_some}
pub use Rattle.std.proofs.Common.{length, length-append, length-drop, map, min}
pub use Rattle.std.proofs.Common.{nat_le}
pub use Rattle.std.proofs.Common.{not, option_map, refl, replicate, subst, suc, sum}
pub use Rattle.std.proofs.Common.{sum_by, sym, take, true, unwrap_or, zero, zero-add, ℕ, ◌%◌, ◌&&◌}
pub use Rattle.std.proofs.Common.{◌*◌, ◌++◌, ◌+◌, ◌-◌, ◌/◌, ◌<◌, ◌==◌, ◌||◌, ◌↔◌, ◌∙◌, ◌∷◌, ◌≡◌, ◌≢◌, ◌≤◌}
pub use Rattle.std.proofs.Math.ListN.{drop_of_length-le, get_or-map}
pub use Rattle.std.proofs.Math.Nat.{mod-lt}
pub use Rattle.std.proofs.Math.Seq.{drop-append-add}
pub use Rattle.std.proofs.lemmas.Bool.{and_parts, cases_Bool, cases_lt, cond-false}
pub use Rattle.std.proofs.lemmas.Bool.{cond-true, eqb-true, false≢true, le-leb, le-ltb, leb-true, lt-leb, lt-ltb}
pub use Rattle.std.proofs.lemmas.Bool.{eq-eqb}
pub use Rattle.std.proofs.lemmas.Grind.{div_ceil_times}
pub use Rattle.std.proofs.lemmas.List.{drop-drop}
pub use Rattle.std.proofs.lemmas.List.{get_or-take, length-take}
pub use Rattle.std.proofs.lemmas.List.{get_or-drop, get_or_past}
pub use Rattle.std.proofs.lemmas.List.{get_or_append_left, length-map, length-replicate}
pub use Rattle.std.proofs.lemmas.List.{take_all, take_min}
pub use Rattle.std.proofs.lemmas.List.{take_more}
pub use Rattle.std.proofs.lemmas.List.Elements.{All-from_recursion, All-get_or}
pub use Rattle.std.proofs.lemmas.List.FromFn.{fill_by_all, get_or-map-range_with_len, length-map-range_with_len}
pub use Rattle.std.proofs.lemmas.List.FromFn.{map-range_with_len_more}
pub use Rattle.std.proofs.lemmas.List.Sums.{sum_by-append, sum_by-cons}
pub use Rattle.std.proofs.lemmas.Nat.{div-add-mod'}
pub use Rattle.std.specs.Int.{div_ceil}
pub use Rattle.std.specs.List.{All, AllByRecursion, flat_map, list_all, list_any, range_with_len}
pub use Rattle.std.specs.Option.{option_or}
pub use Rattle.std.specs.Prelude.{filter}
pub use Rattle.std.specs.Str.{bytes_eq}
pub use Rattle.tor_sums.specs.Contents.{contents_in}
unfoldable pub use Rattle.tor_sums.specs.Fault.{first_of}
pub use Rattle.tor_source.specs.Answers.{Answers}
pub use Rattle.tor_sums.specs.Given.{HasTold, IsGivenPieces}
pub use Rattle.tor_engine.specs.PieceFault.{asked_fault, first_asked_fault, first_piece_fault, lengths_told}
pub use Rattle.tor_engine.specs.PieceFault.{pieces_fault}
pub use Rattle.tor_engine.specs.PieceHashes.{hash_if_there, piece_hash, piece_hashes, pieces_of_plan}
pub use Rattle.tor_engine.specs.There.{HaveHashesOf, is_within}
pub use Rattle.tor_sums.specs.declared.errors.EngineError.{EngineError}
pub use Rattle.tor_sums.specs.declared.errors.EngineError.TheVariants.{Changed, Missing, Read, Resources}
pub use Rattle.tor_sums.specs.declared.errors.EngineError.TheVariants.{StreamTooLong}
pub use Rattle.tor_engine.specs.declared.pieces.piece_hash.PieceHash.{PieceHash}
pub use Rattle.tor_merkle.proofs.ProvedLaws.{range_same}
pub use Rattle.tor_merkle.specs.Block.{leaves, run_at}
pub use Rattle.tor_merkle.specs.Layer.{piece_level, pieces_root}
pub use Rattle.tor_merkle.specs.Stack.{padded_subtree}
pub use Rattle.tor_merkle.specs.declared.TheConstants.{MAX_LENGTH}
pub use Rattle.tor_plan.proofs.ProvedLaws.{units_are_cut_into_pieces}
pub use Rattle.tor_plan.specs.Content.{part_content, unit_content}
pub use Rattle.tor_plan.specs.Entries.{empty_unit, entries_length}
pub use Rattle.tor_plan.specs.Entries.{lengths_of_entries}
unfoldable pub use Rattle.tor_plan.specs.Entries.{joined_entry_units, padding_before_next, separate_entry_units}
unfoldable pub use Rattle.tor_plan.specs.Entries.{unit_within}
pub use Rattle.tor_plan.specs.EntryList.{IsEntryList, has_padding}
pub use Rattle.tor_plan.specs.PlanFacts.{IsPlanPieceLength, PlanFacts, plan_of_entries}
pub use Rattle.tor_plan.specs.Present.{is_part_there, is_there}
pub use Rattle.tor_plan.specs.declared.units.Part.{Part}
pub use Rattle.tor_plan.specs.declared.units.PlanUnit.{PlanUnit}
pub use Rattle.tor_view.specs.Bitfield.{bitfield, set_count}
pub use Rattle.tor_view.specs.FileBytes.{PiecedFile, is_bad_byte}
pub use Rattle.tor_view.specs.FileBytes.{piece_of_byte}
pub use Rattle.tor_view.specs.Files.{AllHold, AreThere}
pub use Rattle.tor_view.specs.Files.{file_spans, files_found, found_at, has_bytes_of, held_pieces}
pub use Rattle.tor_recheck.specs.Findings.{AreAmong, AreWithin}
pub use Rattle.tor_view.specs.Files.{joined_spans, no_span, tree_spans}
pub use Rattle.tor_view.specs.Pieces.{IsCut, count_of_pieces, entries_to_cut, has_root, has_sha1, hashes_of_file}
pub use Rattle.tor_view.specs.Pieces.{is_right, no_file, part_root, piece_root, pieces_of, root_of_parts}
pub use Rattle.tor_view.specs.Pieces.{told_hashes}
unfoldable pub use Rattle.tor_view.specs.Pieces.{right_pieces}
pub use Rattle.tor_recheck.specs.Recheck.{IsFault, IsGiven, first_fault, of_engine_error}
pub use Rattle.tor_view.specs.declared.files.FileFound.{FileFound}
pub use Rattle.tor_view.specs.declared.files.FileState.TheVariants.{Bad, Whole}
pub use Rattle.tor_view.specs.declared.spans.FileSpan.{FileSpan}
pub use Rattle.tor_recheck.specs.steps.Hashes.{hashes_in}
pub use Rattle.tor_recheck.specs.steps.Judge.{all_held, all_judged, all_merkle_judged, is_found, is_merkle_found}
pub use Rattle.tor_recheck.specs.steps.Judge.{is_told, judged, merkle_judged}
pub use Rattle.tor_source.specs.Source.{SourceFacts}
pub use Rattle.tor_spec.specs.Present.{bytes_in, is_whole, joined_bytes}
pub use Rattle.tor_spec.specs.Verified.{file_pieces, is_merkle_piece, is_sha1_piece, is_verified, merkle_hash}
pub use Rattle.tor_spec.specs.Verified.{merkle_pieces, told_hash, verified_pieces}
pub use Rattle.tor_spec.specs.valid.Layers.{pieces_in}
pub use Rattle.tor_spec.specs.valid.View.{FileView, View}
pub use Rattle.tor_tree.specs.Kinds.{has_v1, has_v2}
pub use Rattle.tor_tree.specs.declared.kinds.Kind.{Kind}
pub use Rattle.tor_tree.specs.declared.kinds.Kind.TheVariants.{Hybrid, V1, V2}
pub use Rattle.tor_tree.specs.declared.lists.TheConstants.{MAX_TOTAL}
pub use Rattle.tor_tree.specs.declared.tree_file.TreeFile.{TreeFile}
pub use Rattle.tor_v1.specs.Piece.{piece_sums}
unfoldable pub use Rattle.tor_v1.specs.Piece.{zeros}
pub use Rattle.tor_v1.specs.declared.entry.Entry.{Entry}
unfoldable pub use lib.Count.{ones}
