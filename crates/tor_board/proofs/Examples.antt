-- The worked runs are legal, and what is no event is none.
use Rattle.{std.proofs.Common.{leb, leb-true}, tor_board.proofs.Names.{Desk, IsGivenSide, IsLegalRun, IsStep, List}}
use Rattle.tor_board.proofs.Names.{Machine, Run, Some, Way, [], arith, arrive, begins, claim, claims, ends, fail, fails}
use Rattle.tor_board.proofs.Names.{goes_on, hand, hands, inl, inr, join, joins, look, looks, ltb, meets, refl, rests}
use Rattle.tor_board.proofs.Names.{seal, seals, sees, side_of, split, splits, start, suc, times_arrived, true, zero, ℕ}
use Rattle.tor_board.{proofs.Names.{◌*◌, ◌+◌, ◌<◌, ◌^◌, ◌∷◌, ◌≡◌, ◌≢◌, ◌≤◌}, proofs.Trees.by_sides, specs.Desks.first}
use Rattle.tor_board.specs.Examples.{IsExcluded, end, events, forest, left, right, rising_end, rising_events}
use Rattle.tor_board.specs.{Examples.{three_units, way_to}, Machine.times_given}
use Rattle.tor_merkle.specs.Subtree.{height}
use borrow.Author.Tests.{ltb-true}

-- what numbers show by themselves
at_most : {a b : ℕ} → leb a b ≡ true → a ≤ b
at_most {a = a} {b = b} e = leb-true a b e

less : {a b : ℕ} → ltb a b ≡ true → a < b
less {a = a} {b = b} e = ltb-true a b e

1≢0 : ◌≢◌ {A = ℕ} 1 0
1≢0 e = omega arith

at_zero : (i : ℕ) → i < (0 + 1) * 2 ^ 0 → i ≡ 0
at_zero i high = omega arith

at_one : (i : ℕ) → 1 * 2 ^ 0 ≤ i → i < (1 + 1) * 2 ^ 0 → i ≡ 1
at_one i low high = omega arith

two_high : ◌≡◌ {A = ℕ} 1 (height 2)
unfolding height
two_high = refl

abbrev top : Way
top = record left { level = 1 }

pub worked : (a b : List ℕ) → IsLegalRun 3 forest (events a b) (end a b)
worked a b = let r0 : IsLegalRun 3 forest [] start = begins in
    let r1 = goes_on [] _ _ 0 look r0 (less refl) (looks (less refl) refl refl refl) in
    let r2 = goes_on _ _ _ 0 claim r1 (less refl) (claims (less refl) refl refl refl (less refl)) in
    let r3 = goes_on _ _ _ 0 split r2 (less refl) (splits (at_most refl) refl) in
    let r4 = goes_on _ _ _ 1 look r3 (less refl) (looks (less refl) refl refl refl) in
    let r5 = goes_on _ _ _ 1 claim r4 (less refl) (claims (less refl) refl refl refl (less refl)) in
    let r6 = goes_on _ _ _ 0 (hand 0 a) r5 (less refl)
    (hands 0 a (Some left) (less refl) refl (less refl) (refl, refl, ((0, (refl, refl)), inl (less refl)))) in
    let r7 = goes_on _ _ _ 0 arrive r6 (less refl)
    (rests left (less refl) refl (less refl) (λ i low high inside. rw (at_zero i high) (less refl)) refl refl) in
    let r8 = goes_on _ _ _ 1 (hand 1 b) r7 (less refl)
    (hands 1 b (Some right) (less refl) refl (less refl) (refl, refl, ((0, (refl, refl)), inl (less refl)))) in
    let r9 = goes_on _ _ _ 1 arrive r8 (less refl)
    (meets right top (less refl) refl (less refl) (λ i low high inside. rw (at_one i low high) (less refl)) refl refl
    refl refl ((0, (refl, refl)), inr (two_high, refl))) in
    let r10 = goes_on _ _ _ 1 seal r9 (less refl) (seals top (less refl) refl (two_high, refl)
    (by_sides (λ (side : ℕ). times_arrived (record { tree = 0; level = 0; index = side })
    (side_of right ∷ side_of left ∷ []) ≡ 1) refl refl)) in
    let r11 = goes_on _ _ _ 0 look r10 (less refl) (looks (less refl) refl refl refl) in
    let r12 = goes_on _ _ _ 0 claim r11 (less refl) (claims (less refl) refl refl refl (less refl)) in
    let r13 = goes_on _ _ _ 0 (fail 2) r12 (less refl) (fails 2 (less refl) refl (less refl)) in
    let r14 = goes_on _ _ _ 1 look r13 (less refl) (sees 2 (less refl) refl refl refl) in
    goes_on _ _ _ 0 (join 1) r14 (less refl) (joins 1 _ (less refl) refl (less refl) refl 1≢0 (less refl) refl)

three_high : ◌≡◌ {A = ℕ} 2 (height 3)
unfolding height
three_high = refl

-- its left side is given once units 0 and 1 are
left_given : (desks : List Desk) → 0 < times_given 0 desks → 0 < times_given 1 desks → IsGivenSide desks three_units 1 0
left_given desks a b zero low high inside = a
left_given desks a b (suc zero) low high inside = b
left_given desks a b (suc (suc n)) low high inside = omega arith

at_two : (i : ℕ) → 1 * 2 ^ 1 ≤ i → i < 3 → i ≡ 2
at_two i low inside = omega arith

pub risen : (a b c : List ℕ) → IsLegalRun 3 (three_units ∷ []) (rising_events a b c) (rising_end a b c)
risen a b c = let r0 : IsLegalRun 3 (three_units ∷ []) [] start = begins in
    let r1 = goes_on [] _ _ 0 look r0 (less refl) (looks (less refl) refl refl refl) in
    let r2 = goes_on _ _ _ 0 claim r1 (less refl) (claims (less refl) refl refl refl (less refl)) in
    let r3 = goes_on _ _ _ 0 look r2 (less refl) (looks (less refl) refl refl refl) in
    let r4 = goes_on _ _ _ 0 claim r3 (less refl) (claims (less refl) refl refl refl (less refl)) in
    let r5 = goes_on _ _ _ 0 look r4 (less refl) (looks (less refl) refl refl refl) in
    let r6 = goes_on _ _ _ 0 claim r5 (less refl) (claims (less refl) refl refl refl (less refl)) in
    let r7 = goes_on _ _ _ 0 (hand 0 a) r6 (less refl)
    (hands 0 a (Some (way_to 0 0)) (less refl) refl (less refl) (refl, refl, ((0, (refl, refl)), inl (less refl)))) in
    let r8 = goes_on _ _ _ 0 arrive r7 (less refl) (rests (way_to 0 0) (less refl) refl (less refl)
    (λ i low high inside. rw (at_zero i high) (less refl)) refl refl) in
    let r9 = goes_on _ _ _ 0 (hand 1 b) r8 (less refl)
    (hands 1 b (Some (way_to 0 1)) (less refl) refl (less refl) (refl, refl, ((0, (refl, refl)), inl (less refl)))) in
    let r10 = goes_on _ _ _ 0 arrive r9 (less refl) (meets (way_to 0 1) (way_to 1 0) (less refl) refl (less refl)
    (λ i low high inside. rw (at_one i low high) (less refl)) refl refl refl refl
    ((0, (refl, refl)), inl (less refl))) in let both_given : Desk = record first {
      held = 2 ∷ [];
      given = record { unit = 1; hash = b; joined = 1 } ∷ record { unit = 0; hash = a; joined = 0 } ∷ [];
      arrivals = 2;
      climb = Some (way_to 1 0);
    } in let r11 = goes_on _ _ _ 0 arrive r10 (less refl) (rests (way_to 1 0) (less refl) refl (less refl)
    (left_given (both_given ∷ []) (less refl) (less refl)) refl refl) in
    let r12 = goes_on _ _ _ 0 (hand 2 c) r11 (less refl) (hands 2 c (Some (way_to 1 1)) (less refl) refl (less refl)
    (refl, refl, ((1, (1, refl, at_most refl, (refl, refl))), inl (less refl)))) in
    let r13 = goes_on _ _ _ 0 arrive r12 (less refl) (meets (way_to 1 1) (way_to 2 0) (less refl) refl (less refl)
    (λ i low high inside. rw (at_two i low inside) (less refl)) refl refl refl refl
    ((0, (refl, refl)), inr (three_high, refl))) in
    goes_on _ _ _ 0 seal r13 (less refl) (seals (way_to 2 0) (less refl) refl (three_high, refl)
    (by_sides (λ (side : ℕ). times_arrived (record { tree = 0; level = 1; index = side })
    (side_of (way_to 1 1) ∷ side_of (way_to 1 0) ∷ side_of (way_to 0 1) ∷ side_of (way_to 0 0) ∷ []) ≡ 1) refl refl))

unlooked_is : (units : ℕ) (runs : List Run) (n : Machine) → IsStep units runs start 0 first claim n → ⊥
unlooked_is units runs n (claims some_room idle not_done looked more) = cc
unlooked_is units runs n (ends some_room idle not_done looked past) = cc

module _ (units : ℕ) (forest : List Run) (m : Machine) (seat : ℕ) (d : Desk) where
  twice_is : (n : Machine) (w : Way) → d.climb ≡ Some w → 0 < times_arrived (side_of w) m.arrived
      → IsStep units forest m seat d arrive n → ⊥
  twice_is n w is has (rests v some_room is' near given none none') =
      let e : w ≡ v = cc in let z : times_arrived (side_of w) m.arrived ≡ 0 = rw e none in omega arith
  twice_is n w is has (meets v up some_room is' near given none none' same same' next) =
      let e : w ≡ v = cc in let z : times_arrived (side_of w) m.arrived ≡ 0 = rw e none in omega arith

  look_is : (n : Machine) (w : Way) → d.climb ≡ Some w → IsStep units forest m seat d look n → ⊥
  look_is n w is (looks some_room idle not_done none) = cc
  look_is n w is (sees u some_room idle not_done is') = cc

  claim_is : (n : Machine) (w : Way) → d.climb ≡ Some w → IsStep units forest m seat d claim n → ⊥
  claim_is n w is (claims some_room idle not_done looked more) = cc
  claim_is n w is (ends some_room idle not_done looked past) = cc

  fail_is : (u : ℕ) (n : Machine) (w : Way) → d.climb ≡ Some w → IsStep units forest m seat d (fail u) n → ⊥
  fail_is u n w is (fails x some_room idle has) = cc

  done_is : (n : Machine) → d.done ≡ true → IsStep units forest m seat d look n → ⊥
  done_is n done (looks some_room idle not_done none) = cc
  done_is n done (sees u some_room idle not_done is') = cc

pub excluded : (units : ℕ) (forest : List Run) → IsExcluded units forest
excluded units forest = record {
  unlooked = unlooked_is units forest;
  twice = λ m n seat d w. twice_is units forest m seat d n w;
  look_in_climb = λ m n seat d w. look_is units forest m seat d n w;
  claim_in_climb = λ m n seat d w. claim_is units forest m seat d n w;
  fail_in_climb = λ m n seat d w u. fail_is units forest m seat d u n w;
  look_when_done = λ m n seat d. done_is units forest m seat d n;
}
