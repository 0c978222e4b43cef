-- What was made of chunks, in any order, put in the order of their numbers.
use Rattle.std.proofs.Common.{◌≡◌, ℕ, ◌+◌, ◌<◌, List, [], ◌∷◌, length, map, get_or, arith, refl, ap, ◌∙◌, sym}
use Rattle.std.proofs.Common.{subst, IsPermutation}
use Rattle.std.proofs.lemmas.List.{ext_get_or, get_or-map, get_or_default, length-map, nil_from_length}
use Rattle.std.proofs.lemmas.Simd.{map-map}
use Rattle.std.proofs.lemmas.List.FromFn.{get_or-range_with_len}
use Rattle.std.proofs.lemmas.List.Sorted.{Contains-permutation, IsPermutation-map, IsPermutation-sym}
use Rattle.std.proofs.lemmas.List.Sorted.{IsPermutation-trans, length_permutation}
use Rattle.std.specs.List.{range_with_len}
use Rattle.tor_lane.specs.declared.chunk.Chunk.{Chunk}
use Rattle.tor_sums.specs.declared.unit_sums.UnitSums.{UnitSums}
use Rattle.tor_streams.specs.declared.chunking.Chunking.{Chunking}
use Rattle.tor_streams.specs.steps.ChunkNodes.{SumUpCuts}
use Rattle.tor_streams.specs.steps.Cuts.{Cut, PutsContents, SumsFacts, cut_of, facts_of, facts_of_chunk, node_of_bytes}
use Rattle.tor_streams.specs.steps.Cuts.{pieces_of_cut}
use Rattle.tor_sums.specs.steps.Places.{AreNumbers}
use Rattle.tor_sums.proofs.Numbers.{moved_numbers, range_numbers}

-- ---- values under such numbers

module _ {X : Type 0} (number : X → ℕ) (xs ys : List X) (moved : IsPermutation xs ys)
    (counted : map number xs ≡ range_with_len 0 (length xs)) (numbers : map number ys ≡ range_with_len 0 (length xs))
  where
    -- the one that has its place's number is the one that stood there
    pub in_order : ys ≡ xs
    in_order = by_length ys refl
      where
        long : length ys ≡ length xs
        long = length_permutation xs ys moved

        number_at : (zs : List X) (k : ℕ) (d : X) → map number zs ≡ range_with_len 0 (length xs) → length zs ≡ length xs
            → k < length zs → number (get_or zs k d) ≡ k
        number_at zs k d are same lt =
            sym (get_or-map number zs k d 0 lt) ∙ ap (λ ns. get_or ns k 0) are
            ∙ get_or-range_with_len 0 (length xs) k 0 (omega (arith, same, lt))
            ∙ (let e : 0 + k ≡ k = omega arith in e)

        at : (k : ℕ) (d : X) → k < length ys → get_or ys k d ≡ get_or xs k d
        at k d lt =
            let y = get_or ys k d in
            let there = Contains-permutation ys xs y (IsPermutation-sym xs ys moved)
            (k, lt, get_or_default ys k y d lt) in
            let j = there.0 in
            let same : k ≡ j =
            sym (number_at ys k d numbers long lt) ∙ ap number (sym there.2) ∙ number_at xs j y counted refl there.1 in
            sym there.2 ∙ ap (λ n. get_or xs n y) (sym same)
            ∙ get_or_default xs k y d (omega (arith, lt, long))

        by_length : (zs : List X) → ys ≡ zs → ys ≡ xs
        by_length [] is = ap (λ l. l) is ∙ sym (nil_from_length xs (omega (arith, long, ap length is)))
        by_length (z ∷ zs) is = ext_get_or z ys xs long (λ k lt. at k z lt)

-- ---- what was made of chunks

module _ (chunking : Chunking) (contents : List (List ℕ)) (lengths : List ℕ) (put taken : List Chunk)
    (sums sorted : List UnitSums) (puts : PutsContents chunking contents lengths put)
    (settled : IsPermutation put taken) (made : map facts_of sums ≡ map (facts_of_chunk chunking) taken)
    (moved : IsPermutation sums sorted)
    (placed : AreNumbers (map (λ (one : UnitSums). one.unit) sums)
    → map (λ (one : UnitSums). one.unit) sorted ≡ range_with_len 0 (length sums)) where
  numbers_put : map (λ (facts : SumsFacts). facts.0) (map (facts_of_chunk chunking) put)
      ≡ range_with_len 0 (length put)
  numbers_put = map-map (λ (facts : SumsFacts). facts.0) (facts_of_chunk chunking) put ∙ puts.cut.units

  facts_moved : IsPermutation (map (facts_of_chunk chunking) put) (map facts_of sums)
  facts_moved =
      subst (IsPermutation (map (facts_of_chunk chunking) put)) (sym made)
      (IsPermutation-map (facts_of_chunk chunking) put taken settled)

  numbers_made : AreNumbers (map (λ (one : UnitSums). one.unit) sums)
  numbers_made =
      let number = λ (facts : SumsFacts). facts.0 in
      let all = map number (map (facts_of_chunk chunking) put) in
      subst AreNumbers (map-map number facts_of sums)
      (moved_numbers all (map number (map facts_of sums))
      (IsPermutation-map number (map (facts_of_chunk chunking) put) (map facts_of sums) facts_moved)
      (subst AreNumbers (sym numbers_put) (range_numbers (length put))))

  facts_in_order : map facts_of sorted ≡ map (facts_of_chunk chunking) put
  facts_in_order =
      let number = λ (facts : SumsFacts). facts.0 in
      let all = map (facts_of_chunk chunking) put in
      let long = length-map put (facts_of_chunk chunking) in
      let made_long : length sums ≡ length all =
      sym (length-map sums facts_of) ∙ length_permutation all (map facts_of sums) facts_moved in
      in_order number all (map facts_of sorted)
      (IsPermutation-trans all (map facts_of sums) (map facts_of sorted) facts_moved
      (IsPermutation-map facts_of sums sorted moved))
      (numbers_put ∙ ap (range_with_len 0) (sym long))
      (map-map number facts_of sorted ∙ placed numbers_made ∙ ap (range_with_len 0) made_long)

  pub sum_up_cuts : SumUpCuts chunking contents lengths sorted
  sum_up_cuts =
      let node = λ (facts : SumsFacts). facts.1 in
      let own = λ (facts : SumsFacts). facts.2 in
      let node_of = λ (one : Cut). node_of_bytes chunking one.0 in record {
        counted = puts.counted;
        small = puts.small;
        nodes = sym (map-map node facts_of sorted) ∙ ap (map node) facts_in_order
            ∙ map-map node (facts_of_chunk chunking) put ∙ sym (map-map node_of cut_of put)
            ∙ ap (map node_of) puts.cut.cuts;
        pieces = sym (map-map own facts_of sorted) ∙ ap (map own) facts_in_order
            ∙ map-map own (facts_of_chunk chunking) put ∙ sym (map-map (pieces_of_cut chunking) cut_of put)
            ∙ ap (map (pieces_of_cut chunking)) puts.cut.cuts;
      }
