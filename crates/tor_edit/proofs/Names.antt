-- The names that the proofs cite, passed on from one place. Declares nothing.
pub use Rattle.std.proofs.Common.{Bool, Equal, Global, Greater, Less, List, None, Option, Ordering, Some, Vec, [], ap}
pub use Rattle.std.proofs.Common.{append-nil, append_assoc, ap₂, arith, codes, cond, drop, false, get_or, inl, inr}
pub use Rattle.std.proofs.Common.{length, map, not, option_map, refl, rules, subst, suc, sym, take, true, true≢false}
pub use Rattle.std.proofs.Common.{unwrap_or, zero, ℕ, ◌&&◌, ◌++◌, ◌+◌, ◌-◌, ◌<◌, ◌^◌, ◌||◌, ◌∙◌, ◌∷◌, ◌≡◌, ◌≢◌, ◌≤◌}
pub use Rattle.std.proofs.Common.{Err}
pub use Rattle.std.proofs.Math.Seq.{take-add}
pub use Rattle.std.proofs.lemmas.Bool.{cases_Bool, false_from_ne_true, false≢true}
pub use Rattle.std.proofs.lemmas.Fmt.{decimal-digits_of, decimal_digit}
pub use Rattle.std.proofs.lemmas.Grind.{common_steps}
pub use Rattle.std.proofs.lemmas.List.{drop-drop, drop_all, drop_at, drop_more, length-append, length-drop}
pub use Rattle.std.proofs.lemmas.List.{take-append-drop, take_all, take_at, take_more}
pub use Rattle.std.proofs.lemmas.Option.{none-some, same_Some}
pub use Rattle.std.proofs.lemmas.Slice.Eq.{bytes_eq-Decides}
pub use Rattle.std.specs.Borrow.{Bor}
pub use Rattle.std.specs.Cmp.Lexicographic.{nat_list_cmp_total, slice_cmp, texts_ties}
pub use Rattle.std.specs.List.{list_any}
pub use Rattle.std.specs.Ordering.{is_eq, match_ordering, nat_cmp, ordering_reverse}
pub use Rattle.std.specs.Prelude.{IfOk, decimal, find, if◌then◌else◌}
pub use Rattle.std.specs.Str.{bytes_eq}
pub use Rattle.tor_bencode.proofs.ProvedLaws.{no_pairs_are_lawful, no_spelling_begins_another}
pub use Rattle.tor_bencode.proofs.ProvedLaws.{no_value_before_the_first_key, pairs_are_lawful, pairs_by_their_values}
pub use Rattle.tor_bencode.proofs.ProvedLaws.{span_of_a_value, string_is_lawful}
pub use Rattle.tor_bencode.specs.Data.{Data, Pairs, dictionary, integer, item, keys_of, list, no_items, no_pairs}
pub use Rattle.tor_bencode.specs.Data.{pair, string}
pub use Rattle.tor_bencode.specs.Find.{value_in, value_of}
pub use Rattle.tor_bencode.specs.Lawful.{AreRising, HasRisingKeys, IsLawful, IsLawfulWithin, PairsAreLawfulWithin}
pub use Rattle.tor_bencode.specs.Lawful.{pairs_depth}
pub use Rattle.tor_bencode.specs.RefView.{pairs_view, view}
pub use Rattle.tor_bencode.specs.Span.{span_in, span_of}
unfoldable pub use Rattle.tor_bencode.specs.Spelling.{base_ten}
pub use Rattle.tor_bencode.specs.Spelling.{pairs_spelling, spelling, string_spelling}
pub use Rattle.tor_bencode.specs.declared.item_ref.ItemRef.{Dict, ItemRef, the_lemmas as ref_lemmas}
pub use Rattle.tor_spec.specs.Dictionary.{put}
pub use Rattle.tor_bencode.specs.declared.TheConstants.{MAX_NESTING}
pub use Rattle.tor_check.specs.Valid.{IsRefusedFor, of_bencode}
pub use Rattle.tor_edit.specs.Tracker.{announced, tracker_edited, without}
pub use Rattle.tor_edit.specs.steps.Cut.{after, before, joined, tracker_pair}
pub use Rattle.tor_spec.specs.valid.Conditions.{Condition, IsTorrentOf, IsValid, conditions, holds, of_both, of_list}
pub use Rattle.tor_spec.specs.valid.Conditions.{of_tree, refusal_of}
pub use Rattle.tor_spec.specs.valid.Layers.{is_long, layer_of, layers_of}
pub use Rattle.tor_spec.specs.valid.ListSide.{listed_files, side_files, side_piece_count}
pub use Rattle.tor_spec.specs.valid.Parts.{info_of, is_private, kind_of, name_of, part, piece_length_of, text_of}
pub use Rattle.tor_spec.specs.valid.TreeSide.{tree_files}
pub use Rattle.tor_spec.specs.valid.View.{FileView, View, entry_of_file, file_of_list, files_of_both}
pub use Rattle.tor_spec.specs.valid.View.{tree_piece_count, view_of}
pub use Rattle.tor_tree.specs.FileTree.{is_dictionary}
pub use Rattle.tor_tree.specs.Kinds.{has_v1, has_v2}
pub use Rattle.tor_tree.specs.declared.tree_file.TreeFile.{TreeFile}
