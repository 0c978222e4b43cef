-- Sinks that are no writers: what counts bytes, and what fills a room with them.
use Rattle.std.proofs.Common.{◌≡◌, ◌∙◌, refl, sym, ap, ℕ, ◌+◌, ◌≤◌, ◌<◌, ◌^◌, List, ◌++◌, arith, length, take, drop}
use Rattle.std.proofs.Common.{append_assoc, length-append, length-drop}
use Rattle.std.proofs.Math.Seq.{take-append-add, drop-append-add, take-append_seam}
use Rattle.std.proofs.lemmas.List.{drop-drop, length-take-le, take-append-drop}
use Rattle.tor_report.specs.Sinks.{IsSink}

pub count_is_sink : {C : Type 0} (count : C → ℕ)
    → IsSink (λ old new bytes. count new ≡ count old + length bytes) (λ old bytes. 2 ^ 64 ≤ count old + length bytes)
count_is_sink count = record {
  none = λ s. omega arith;
  both = λ r s t xs ys one two. let longer = length-append xs ys in omega (arith, one, two, longer);
  sooner = λ s xs ys fails. let longer = length-append xs ys in omega (arith, fails, longer);
  later = λ r s xs ys one fails. let longer = length-append xs ys in omega (arith, one, fails, longer);
  long = λ s xs long. omega (arith, long);
}

-- ---- bytes in a room, from an offset on

module _ (room : List ℕ) (at : ℕ) (within : at ≤ length room) (xs ys : List ℕ) where
  abbrev front : List ℕ
  front = take at room

  abbrev rest : List ℕ
  rest = drop (at + length xs) room

  size : length front ≡ at
  size = length-take-le at room within

  kept : take (at + length xs) (front ++ (xs ++ rest)) ≡ front ++ xs
  kept =
      ap (λ count. take (count + length xs) (front ++ (xs ++ rest))) (sym size)
      ∙ take-append-add front (xs ++ rest) (length xs)
      ∙ ap (λ (taken : List ℕ). front ++ taken) (take-append_seam xs rest)

  left : drop (at + length xs + length ys) (front ++ (xs ++ rest)) ≡ drop (at + length (xs ++ ys)) room
  left =
      ap (λ count. drop count (front ++ (xs ++ rest)))
      (let same = size in omega (arith, same))
      ∙ drop-append-add front (xs ++ rest) (length xs + length ys)
      ∙ drop-append-add xs rest (length ys) ∙ drop-drop (length ys) (at + length xs) room
      ∙ ap (λ count. drop count room) (let longer = length-append xs ys in omega (arith, longer))

  filled_twice : take (at + length xs) (front ++ (xs ++ rest))
      ++ (ys ++ drop (at + length xs + length ys) (front ++ (xs ++ rest)))
      ≡ front ++ ((xs ++ ys) ++ drop (at + length (xs ++ ys)) room)
  filled_twice =
      ap (λ (taken : List ℕ). taken ++ (ys ++ drop (at + length xs + length ys) (front ++ (xs ++ rest)))) kept
      ∙ ap (λ (dropped : List ℕ). (front ++ xs) ++ (ys ++ dropped)) left
      ∙ append_assoc front xs (ys ++ drop (at + length (xs ++ ys)) room)
      ∙ ap (λ (after : List ℕ). front ++ after) (sym (append_assoc xs ys (drop (at + length (xs ++ ys)) room)))

pub room_is_sink : {R N : Type 0} (name : R → N) (at : R → ℕ) (room : R → List ℕ)
    → ((r : R) → at r ≤ length (room r)) → ((r : R) → length (room r) < 2 ^ 64)
    → IsSink (λ old new bytes. (name new ≡ name old) × (at new ≡ at old + length bytes)
    × (room new ≡ take (at old) (room old) ++ (bytes ++ drop (at old + length bytes) (room old))))
    (λ old bytes. length (room old) < at old + length bytes)
room_is_sink name at room within small = record {
  none = λ s.
      let same : at s ≡ at s + 0 = omega arith in (
        refl,
        same,
        sym (ap (λ count. take (at s) (room s) ++ drop count (room s)) (sym same)
            ∙ take-append-drop (at s) (room s)),
      );
  both = λ r s t xs ys one two.
      let longer = length-append xs ys in
      let moved : at t ≡ at r + length (xs ++ ys) = omega (arith, one.1, two.1, longer) in (
        two.0 ∙ one.0,
        moved,
        two.2 ∙ ap (λ count. take count (room s) ++ (ys ++ drop (count + length ys) (room s))) one.1
            ∙ ap (λ (now : List ℕ). take (at r + length xs) now ++ (ys
            ++ drop (at r + length xs + length ys) now)) one.2
            ∙ filled_twice (room r) (at r) (within r) xs ys,
      );
  sooner = λ s xs ys fails. let longer = length-append xs ys in omega (arith, fails, longer);
  later = λ r s xs ys one fails.
      let longer = length-append xs ys in
      let size = ap length one.2 in
      let front = length-take-le (at r) (room r) (within r) in
      let parts = length-append (take (at r) (room r)) (xs ++ drop (at r + length xs) (room r)) in
      let others = length-append xs (drop (at r + length xs) (room r)) in
      let dropped = length-drop (at r + length xs) (room r) in
      omega (arith, one.1, fails, longer, size, front, parts, others, dropped);
  long = λ s xs long. let fits = small s in omega (arith, long, fits);
}
