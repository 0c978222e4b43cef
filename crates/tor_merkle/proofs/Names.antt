-- The names that the proofs cite, passed on from one place. Declares nothing.
pub use Rattle.sha2.specs.Hashers.{Holds256}
unfoldable pub use Rattle.sha2.specs.Sha256.{digest_bytes, sha256}
pub use Rattle.sha2.specs.declared.Sha256.{Sha256}
pub use Rattle.std.proofs.Common.{Bool, Bor, IsTrue, List, None, Option, Some, [], add-one, add-suc, add-zero, ap}
pub use Rattle.std.proofs.Common.{append-nil, append_assoc, ap₂, arith, below_more, cond, count_ones, div-mul-le_self}
pub use Rattle.std.proofs.Common.{drop, eqb, false, get_or, get_or-set_other, get_or-set_same, inl, inr, le_antisymm}
pub use Rattle.std.proofs.Common.{le_refl, le_trans, leb, leb-false, leb-true, length, length-append, length-drop}
pub use Rattle.std.proofs.Common.{length-set, length-take, lt_of_mul-lt-mul_right, map, min, mul-le-mul_right, mul-pos}
pub use Rattle.std.proofs.Common.{mul_assoc, mul_comm, option_map, pow-add, pow-suc, pow_mono, pow_pos, refl, replicate}
pub use Rattle.std.proofs.Common.{rules, set, subst, suc, suc-add, sym, take, take-append-drop, true, unwrap_or, zero}
pub use Rattle.std.proofs.Common.{zero-add, zero-mul, ℕ, ◌%◌, ◌&&◌, ◌*◌, ◌++◌, ◌+◌, ◌-◌, ◌/◌, ◌<◌, ◌^◌, ◌↔◌, ◌∙◌, ◌∷◌}
pub use Rattle.std.proofs.Common.{◌≡◌, ◌≢◌, ◌≤◌, ◌⊎◌}
pub use Rattle.std.proofs.Math.Arith.{bin_ind}
pub use Rattle.std.proofs.Math.Nat.{div-div-eq-div-mul, div-eq_of_lt-le, lt-div-mul-add, min_comm, mul-div_cancel}
pub use Rattle.std.proofs.Math.Nat.{mul-div_cancel_left, mul-lt-mul_of_pos_left, pow-succ', two-pow-succ, zero-div}
pub use Rattle.std.proofs.Math.Pow.{pow-lt}
pub use Rattle.std.proofs.Math.Seq.{take-add}
pub use Rattle.std.proofs.lemmas.Bool.{and_from, and_parts, both_ways, cases_Bool, cases_eq, cases_lt, cases_order}
pub use Rattle.std.proofs.lemmas.Bool.{cond-false, cond-true, cond_both, eq-eqb, eqb-false, eqb-true, false≢true}
pub use Rattle.std.proofs.lemmas.Bool.{le-leb, le-ltb, lt-leb, lt-ltb, ne_eqb, not-false, not-true, not_from_false}
pub use Rattle.std.proofs.lemmas.Bool.{not_from_true, or_from, or_left, or_right}
pub use Rattle.std.proofs.lemmas.Grind.{div_ceil_times, flat_map-append}
pub use Rattle.std.proofs.lemmas.List.{at_drop_all, at_drop_more, drop-append-le, drop-drop, drop-take, drop_all}
pub use Rattle.std.proofs.lemmas.List.{drop_at, drop_more, get_or-append_right, get_or-drop, get_or-replicate}
pub use Rattle.std.proofs.lemmas.List.{get_or-take, get_or_append_left, get_or_default, get_or_past, get_or_push}
pub use Rattle.std.proofs.lemmas.List.{length-map, length-replicate, length_push, map-append, map_push, nil_from_length}
pub use Rattle.std.proofs.lemmas.List.{take-append-le, take-take, take_all, take_at, take_min, take_rest}
pub use Rattle.std.proofs.lemmas.List.Elements.{All-append, All-drop, All-map, All-replicate, All-take}
pub use Rattle.std.proofs.lemmas.List.Folds.{list_all_at}
pub use Rattle.std.proofs.lemmas.List.FromFn.{fill_by_all, get_or-map-range_with_len, get_or-range_with_len}
pub use Rattle.std.proofs.lemmas.List.FromFn.{length-map-range_with_len, length-range_with_len, map-range_with_len_more}
pub use Rattle.std.proofs.lemmas.List.Sums.{list_all-from_AllPass}
pub use Rattle.std.proofs.lemmas.Nat.{one_shl, zero_from_ones}
pub use Rattle.std.proofs.lemmas.Simd.{map-map}
pub use Rattle.std.proofs.lemmas.Slice.Eq.{bytes_eq-Decides}
pub use Rattle.std.proofs.lemmas.Slice.Zip.{zip_end, zip_turn}
pub use Rattle.std.specs.Int.{div_ceil, is_power_of_two, to_be_bytes, w32}
pub use Rattle.std.specs.Int.Count.{ones_step}
unfoldable pub use Rattle.std.specs.Int.Count.{ones}
pub use Rattle.std.specs.Iterator.Adapters.{zip_first, zip_second}
pub use Rattle.std.specs.List.{All, flat_map, list_all, range_with_len}
pub use Rattle.std.specs.Prelude.{slice_index}
pub use Rattle.std.specs.Slice.Iter.{iter_rest}
pub use Rattle.std.specs.Str.{bytes_eq}
pub use Rattle.tor_merkle.specs.Block.{run_at}
unfoldable pub use Rattle.tor_merkle.specs.Block.{blocks, leaves}
pub use Rattle.tor_merkle.specs.Layer.{IsPieceLength, piece_level, tree_leaves}
unfoldable pub use Rattle.tor_merkle.specs.Layer.{piece_layer, piece_roots, pieces_root}
pub use Rattle.tor_merkle.specs.Proof.{is_past_end, is_proof, is_zero_past_end, proof_count, proof_level, sibling_index}
unfoldable pub use Rattle.tor_merkle.specs.Proof.{proof_root, siblings_of}
pub use Rattle.tor_merkle.specs.Stack.{Subtrees, padded_subtree}
unfoldable pub use Rattle.tor_merkle.specs.Stack.{padded_root}
pub use Rattle.tor_merkle.specs.Subtree.{padded}
unfoldable pub use Rattle.tor_merkle.specs.Subtree.{height, node_of, subtree_root, zero_leaf, zero_subtree}
pub use Rattle.tor_merkle.specs.declared.TheConstants.{MAX_LENGTH, MAX_PIECE_LENGTH, MIN_PIECE_LENGTH}
pub use Rattle.tor_merkle.specs.steps.Blocks.{KeepsBlocks, in_blocks}
unfoldable pub use Rattle.tor_merkle.specs.steps.Node.{first_nodes, node, nodes}
pub use Rattle.tor_merkle.specs.steps.Pieces.{EndsPiece, KeepsPieces, filled}
unfoldable pub use Rattle.tor_merkle.specs.steps.Plain.{level_above}
pub use Rattle.tor_merkle.specs.steps.Tops.{KeepsTops}
pub use borrow.Rule.Slice.PartMut.{put_mid}
pub use denote.Param.Send.{IsSend, owning_send, sendable}
pub use denote.RattleType.{RattleType, Valss}
pub use denote.Steps.{nothing}
pub use denote.Struct.Struct.{Struct, within}
pub use mir.Val.{Val, vcons, vnil, vstruct}
pub use seplogic.Ra.Ura.{Ura}
pub use types.Kit.{Goal, Item, Step, feq_i, fjoin, fpack, move, step, ‵, ◌$◌}
pub use types.Logic.{Logic}
