-- The names that the proofs of the board cite, passed on from one place. Declares nothing.
pub use Rattle.atomic_table.{proofs.Lists.{at_map, set_again, set_else, set_here}, specs.Table.{Act, Allows, State}}
pub use Rattle.atomic_table.specs.Table.{carried_after, chain, gives, put_back, rest, step, takes, turned}
pub use Rattle.std.proofs.Common.{Bool, List, None, Option, Some, [], add-zero, ap, arith, cond, drop, false, get_or}
pub use Rattle.std.proofs.Common.{get_or-set_other, get_or-set_same, inl, inr, le-ltb, length, length-set, ltb, map}
pub use Rattle.std.proofs.Common.{min, mul-le-mul_right, refl, replicate, rules, set, set-set, subst, suc, sym, true}
pub use Rattle.std.proofs.Common.{zero, ℕ, ◌%◌, ◌*◌, ◌++◌, ◌+◌, ◌-◌, ◌/◌, ◌<◌, ◌==◌, ◌^◌, ◌||◌, ◌∙◌, ◌∷◌, ◌≡◌, ◌≢◌, ◌≤◌}
pub use Rattle.std.proofs.{Common.◌⊎◌, Math.Nat.pow-suc, Math.Pow.pow_mono, lemmas.List.map-set}
pub use Rattle.{std.specs.Mem.Slots.{slots_filled, slots_items, slots_len}, tor_board.specs.Climb.{Climb, way_in}}
pub use Rattle.tor_board.specs.{Climb.way_of, Desks.{Desk, GivenUnit, Way, finished, in_run, joined_more, names}}
pub use Rattle.tor_board.specs.{Desks.{spent as spent_desk, units_of}, Machine.{Event, IsGivenSide, IsLeastFailed}}
pub use Rattle.tor_board.specs.Machine.{IsLegalRun, IsStep, Machine, Side, arrive, begins, claim, claims, ends, fail}
pub use Rattle.tor_board.specs.Machine.{fails, goes_on, hand, hands, is_given_side, join, joins, lesser, look, looks}
pub use Rattle.tor_board.specs.Machine.{meets, rests, seal, seals, sees, side_of, split, splits, start, times_arrived}
pub use Rattle.tor_board.specs.{Machine.{times_failed, top_root}, Plays.{IsAtTop, IsFree, Seated, arrived_from}}
pub use Rattle.tor_board.specs.{Plays.{claimed, gave as gave_told, looked, sealed_from}, Results.IsTreeEnd}
pub use Rattle.tor_board.specs.{Rising.{climb_from, climbed, met, other_slot, raised, risen}, Rule.{ClimbsIn, IsKnown}}
pub use Rattle.tor_board.specs.Rule.{IsSide, Keeps, KeepsClaims, KeepsTree, TopsAre, climbing, climbs_to, has_out}
pub use Rattle.tor_board.specs.{Rule.{nobody, out, tops_of}, Running.{least_of, runs_of}, Seats.{IsLeastOf, run_of}}
pub use Rattle.tor_board.specs.Shapes.{AreApart, AreStarts, Fits, IsRun, IsShape, IsTreeOf, start_of}
pub use Rattle.tor_board.specs.{Stepping.{IsChange, IsEvent, Shows}, Trees.IsRoot}
pub use Rattle.tor_board.specs.Trees.{WasGiven, has_unit, joined_in, middle, pairs, ready, slot_at, slot_of}
pub use Rattle.tor_board.specs.{Trees.{times_given, word_of}, Views.{both, desk_of, desks_of, failing, failures, first}}
pub use Rattle.tor_board.specs.Views.{fresh, handed, joining, keeping, named, rested, spent, stopped, topped}
pub use Rattle.tor_board.specs.{Weights.{below, only, times, total}, declared.board.Board.Board}
pub use Rattle.tor_board.specs.declared.{tree.Shape.Shape, tree.Tree.Tree, view.View.View}
pub use Rattle.tor_board.specs.steps.Climbing.{AtMostOneSpare, IsClimbing, LastGiveIsIn, climb_at, joined_view}
pub use Rattle.{tor_board.specs.steps.Row.{IsIn, IsLeft, IsLow, units_in}, tor_merkle.specs.Subtree.node_of}
pub use Rattle.tor_plan.specs.declared.forests.Run.{Run}
pub use lib.{ListN.get_elem?, Seq.set-get_or}
pub use mathlib.Core.{Logic.dite, Option.{Option as Opt, none, some, some-injective, some-ne-none}}
pub use native.Mathlib.Decide.{dec_le, ℕ_discrete}
