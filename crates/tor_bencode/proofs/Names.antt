-- The names that the proofs cite, passed on from one place. Declares nothing.
pub use Rattle.std.proofs.Common.{Bool, Equal, Err, Global, Greater, IfErr, IfOk, Less, List, None, Ok, Option}
pub use Rattle.std.proofs.Common.{Ordering, Result, Some, Vec, [], ap, append_assoc, ap₂, arith, cond, drop, false}
pub use Rattle.std.proofs.Common.{get_or, inl, inr, length, map, negsuc, not, option_map, pos, refl, rules, subst, suc}
pub use Rattle.std.proofs.Common.{sym, take, true, zero, ℕ, ℤ, ◌%◌, ◌&&◌, ◌*◌, ◌++◌, ◌+◌, ◌-◌, ◌/◌, ◌<◌, ◌==◌, ◌^◌}
pub use Rattle.std.proofs.Common.{◌||◌, ◌↔◌, ◌∙◌, ◌∷◌, ◌≡◌, ◌≢◌, ◌≤◌, ◌⊎◌}
pub use Rattle.std.proofs.Math.Numerals.{one-add}
pub use Rattle.std.proofs.lemmas.Bool.{and_parts, cases_Bool, cases_lt, false_from_ne_true, false≢true, le-leb}
pub use Rattle.std.proofs.lemmas.Bool.{leb-true, true≢false}
pub use Rattle.std.proofs.lemmas.Bool.Decides.{nat_tests}
pub use Rattle.std.proofs.lemmas.Fmt.{decimal_by_steps}
pub use Rattle.std.proofs.lemmas.Fn.{always_returns_same}
pub use Rattle.std.proofs.lemmas.Grind.{common_steps, take_at_read}
pub use Rattle.std.proofs.lemmas.Int.{ints}
pub use Rattle.std.proofs.lemmas.Int.Digits.{all_below_base_digits_of, digits_of_step, first_digits_of}
pub use Rattle.std.proofs.lemmas.Int.Digits.{number_digits_of}
pub use Rattle.std.proofs.lemmas.List.{append-nil, drop_all, drop_at, drop_more, length-append, length-drop}
pub use Rattle.std.proofs.lemmas.List.{length-take, map-append, take-append-drop, take_all, take_at}
pub use Rattle.std.proofs.lemmas.List.Sorted.{searchable_from_sorted}
pub use Rattle.std.proofs.lemmas.List.Sums.{prefix_len-le-length}
pub use Rattle.std.proofs.lemmas.Map.Text.{is_eq-slice_cmp}
pub use Rattle.std.proofs.lemmas.Option.{none-some}
pub use Rattle.std.proofs.lemmas.Result.{err_from_is_err_and}
pub use Rattle.std.proofs.lemmas.Slice.Eq.{bytes_eq-Decides}
pub use Rattle.std.specs.Borrow.{Bor}
pub use Rattle.std.specs.Char.{is_ascii_digit}
pub use Rattle.std.specs.Cmp.Lexicographic.{nat_list_cmp_total, slice_cmp}
pub use Rattle.std.specs.FinMap.{nat_cmp-IsAntisymmetric, slice_cmp-IsAntisymmetric}
pub use Rattle.std.specs.Fmt.{signed_decimal}
pub use Rattle.std.specs.Int.{w64}
pub use Rattle.std.specs.Int.Digits.{AllBelowBase, digits_of, number_from_digits_after}
pub use Rattle.std.specs.List.{list_all, prefix_len, slice_get}
pub use Rattle.std.specs.List.Sorted.{IsBinarySearchResult, IsSearchInRange, IsSortedBy}
pub use Rattle.std.specs.Ordering.{is_eq, is_lt, nat_cmp, ordering_reverse}
pub use Rattle.std.specs.Prelude.{FitsSigned, codes, decimal, min, nat_le, nat_lt}
pub use Rattle.std.specs.Str.{bytes_eq}
pub use Rattle.tor_bencode.specs.Data.{Data, Items, Pairs, dictionary, integer, item, keys_of, list, no_items, no_pairs}
pub use Rattle.tor_bencode.specs.Data.{pair, string}
pub use Rattle.tor_bencode.specs.Fault.{Begins, BeginsWithDigit, HasBadLength, IsBadInteger, IsBadKey, IsBadValue}
pub use Rattle.tor_bencode.specs.Fault.{IsCutInteger, IsCutString, IsFaultAt, IsFaultIn, IsOutOfOrder, IsTooLarge}
pub use Rattle.tor_bencode.specs.Fault.{IsTrailing, Runs, at_key, at_value, in_list, in_pair, is_integer_byte, last_key}
pub use Rattle.tor_bencode.specs.Fault.{may_take_memory}
pub use Rattle.tor_bencode.specs.Find.{keys_in, value_in, value_of}
pub use Rattle.tor_bencode.specs.Lawful.{AreRising, HasRisingKeys, IsLawful, IsLawfulWithin, ItemsAreLawfulWithin}
pub use Rattle.tor_bencode.specs.Lawful.{PairsAreLawfulWithin, PairsHaveRisingKeys}
pub use Rattle.tor_bencode.specs.Span.{IsSpelledAt, IsTree, span_in, span_of}
pub use Rattle.tor_bencode.specs.Spelling.{items_spelling, pairs_spelling, signed_base_ten, spelling, string_spelling}
unfoldable pub use Rattle.tor_bencode.specs.Spelling.{base_ten}
pub use Rattle.tor_bencode.specs.RefView.{items_view as ref_items_view, pairs_view as ref_pairs_view, view as ref_view}
pub use Rattle.tor_bencode.specs.View.{items_view, pairs_view, view}
pub use Rattle.tor_bencode.specs.declared.fault.Fault.{Fault}
pub use Rattle.tor_bencode.specs.declared.fault.Fault.TheVariants.{BadByte, BadInteger, BadLength, IntegerRange}
pub use Rattle.tor_bencode.specs.declared.fault.Fault.TheVariants.{KeyNotBytes, KeyOrder, TooDeep, Trailing, Truncated}
pub use Rattle.tor_bencode.specs.declared.item.Item.{Dict, Int, Item, List as ListItem, the_lemmas}
pub use Rattle.tor_bencode.specs.declared.item_ref.ItemRef.{Dict as RefDict, Int as RefInt, ItemRef, List as RefList}
pub use Rattle.tor_bencode.specs.declared.item_ref.ItemRef.{the_lemmas as ref_lemmas}
pub use Rattle.tor_bencode.specs.declared.stop.Stop.{Stop}
pub use Rattle.tor_bencode.specs.steps.Reading.{Reading, Stops, follows, in_range, integer_after, is_positive}
pub use Rattle.tor_bencode.specs.steps.Reading.{is_shortest, items_at, last_of, negative_of, number_after, opened}
pub use Rattle.tor_bencode.specs.steps.Reading.{pairs_at, positive_of, string_after, value_with, ◌>>=◌}
unfoldable pub use Rattle.tor_bencode.specs.steps.Reading.{integer_at, integer_of, is_integer, nested_at, number}
unfoldable pub use Rattle.tor_bencode.specs.steps.Reading.{string_at, value_at, whole}
pub use mir.Val.{SFits, of_z, to_z}
