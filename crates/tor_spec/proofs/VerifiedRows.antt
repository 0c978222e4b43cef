-- Which pieces are verified, computed for worked torrents and contents where no hash decides it.
use Rattle.tor_spec.proofs.Names.{◌≡◌, ℕ, Bool, true, false, List, [], ◌∷◌, ◌++◌, length, map, refl, codes, replicate}
use Rattle.tor_spec.proofs.Names.{take, drop, range_with_len, Data, run_at, is_whole, joined_bytes, verified_pieces}
use Rattle.tor_spec.proofs.Names.{view_of, zeros, zero, suc, ◌+◌, ◌*◌, ◌-◌, ◌<◌, ◌≤◌, Option, None, Some, arith}
use Rattle.tor_spec.proofs.Names.{ap, ap₂, sym, ◌∙◌, length-replicate}
use Rattle.std.proofs.lemmas.List.{length-map, drop-append-le, take-append-le, replicate-append-replicate, length-drop}
use Rattle.std.proofs.lemmas.List.FromFn.{map-range_with_len_more}
use Rattle.tor_spec.proofs.OwnBytes.{run_there, whole_there}
use Rattle.tor_spec.proofs.ValidRows.{hybrid, listed, of_list, properties, treed}
use Rattle.tor_spec.proofs.WorkedTrees.{bytes, dict, file, items, padding, two}

abbrev bits : Data → List (List ℕ) → List Bool
bits torrent contents = verified_pieces (view_of torrent) contents

-- a and b have two bytes and one: contents in which some byte of them is not there
abbrev lacking : List (List (List ℕ))
lacking =
    [] ∷ ((1 ∷ 2 ∷ []) ∷ []) ∷ ((1 ∷ 2 ∷ []) ∷ [] ∷ []) ∷ ((1 ∷ []) ∷ (3 ∷ []) ∷ []) ∷
    ((1 ∷ []) ∷ (3 ∷ 4 ∷ 5 ∷ []) ∷ []) ∷ []

-- BEP 3: both files are in one piece
one_piece : map (bits (of_list two)) lacking ≡ map (λ contents. false ∷ []) lacking
one_piece = refl

-- bytes past a file's length are not looked at
longer : bits (of_list two) ((1 ∷ 2 ∷ 9 ∷ []) ∷ (3 ∷ 9 ∷ []) ∷ (9 ∷ []) ∷ [])
    ≡ bits (of_list two) ((1 ∷ 2 ∷ []) ∷ (3 ∷ []) ∷ [])
longer = refl

-- pieces of two bytes: b is in the second
two_pieces : map (λ contents. drop 1 (bits (listed (codes "f") (items two) 2 (bytes 40)) contents))
    (((1 ∷ 2 ∷ []) ∷ []) ∷ ((1 ∷ 2 ∷ []) ∷ [] ∷ []) ∷ [])
    ≡ (false ∷ []) ∷ (false ∷ []) ∷ []
two_pieces = refl

without_a : take 1 (bits (listed (codes "f") (items two) 2 (bytes 40)) ((1 ∷ []) ∷ (3 ∷ []) ∷ [])) ≡ false ∷ []
without_a = refl

-- BEP 52: a piece of each file, and none of an empty one
abbrev tree_of : List (List ℕ × Data) → Data
tree_of nodes = treed (dict nodes) 16384 []

abbrev tree_two : Data
tree_two = tree_of ((codes "a", properties 2) ∷ (codes "b", properties 1) ∷ [])

tree_lengths : map (λ torrent. length (bits torrent []))
    (tree_two ∷ tree_of ((codes "a", properties 0) ∷ (codes "b", properties 1) ∷ []) ∷
    tree_of ((codes "a", properties 0) ∷ []) ∷ tree_of ((codes "a", properties 32769) ∷ []) ∷ [])
    ≡ 2 ∷ 1 ∷ 0 ∷ 3 ∷ []
tree_lengths = refl

tree_without_b : map (λ contents. drop 1 (bits tree_two contents))
    (((1 ∷ 2 ∷ []) ∷ []) ∷ ((1 ∷ 2 ∷ []) ∷ [] ∷ []) ∷ []) ≡ (false ∷ []) ∷ (false ∷ []) ∷ []
tree_without_b = refl

tree_without_a : map (λ contents. take 1 (bits tree_two contents))
    ([] ∷ ([] ∷ (3 ∷ []) ∷ []) ∷ ((1 ∷ []) ∷ (3 ∷ []) ∷ []) ∷ []) ≡ (false ∷ []) ∷ (false ∷ []) ∷ (false ∷ []) ∷ []
tree_without_a = refl

after_empty : bits (tree_of ((codes "a", properties 0) ∷ (codes "b", properties 1) ∷ [])) ((3 ∷ []) ∷ []) ≡ false ∷ []
after_empty = refl

-- a file longer than a piece, of which only the first piece is there
first_of_long : drop 1 (bits (tree_of ((codes "a", properties 32769) ∷ [])) (replicate 16384 1 ∷ []))
    ≡ false ∷ false ∷ []
first_of_long = refl

-- a hybrid has the pieces of its v2 side; the padding after a is in the first
abbrev both : Data
both = hybrid (file 2 (codes "a") ∷ padding 16382 ∷ file 1 (codes "b") ∷ []) (bytes 40)

both_count : length (bits both []) ≡ 2
both_count = refl

both_without_b : drop 1 (bits both ((1 ∷ 2 ∷ []) ∷ [])) ≡ false ∷ []
unfolding zeros
both_without_b = refl

both_without_a : take 1 (bits both ([] ∷ (3 ∷ []) ∷ [])) ≡ false ∷ []
unfolding zeros
both_without_a = refl

-- 17 pieces of padding, which are there, and a file of one byte in the piece after them
abbrev padded : Data
padded = listed (codes "f") (items (padding 278528 ∷ file 1 (codes "a") ∷ [])) 16384 (bytes 360)

padded_count : length (bits padded []) ≡ 18
padded_count = refl

without_file : drop 17 (bits padded []) ≡ false ∷ []
unfolding zeros
without_file = refl

-- a piece of zeros is there, whatever follows them
piece_of_zeros : (p n i : ℕ) (after : List (Option ℕ)) → i * p + p ≤ n
    → is_whole (run_at p (map Some (zeros n) ++ after) i) ≡ true
unfolding zeros
piece_of_zeros p n i after within =
    let long : length (map Some (zeros n)) ≡ n = length-map (zeros n) Some ∙ length-replicate n 0 in
    let left : length (drop (i * p) (map Some (zeros n))) ≡ n - i * p =
    length-drop (i * p) (map Some (zeros n)) ∙ ap (λ count. count - i * p) long in
    ap (λ bytes. is_whole (take p bytes))
    (drop-append-le (i * p) (map Some (zeros n)) after (omega (arith, within, long)))
    ∙ ap is_whole (take-append-le p (drop (i * p) (map Some (zeros n))) after (omega (arith, within, left)))
    ∙ ap is_whole (run_there p (zeros n) i)
    ∙ whole_there (run_at p (zeros n) i)

-- a test that holds of each number below n
below : (test : ℕ → Bool) (n : ℕ) → ((i : ℕ) → i < n → test i ≡ true)
    → map test (range_with_len 0 n) ≡ replicate n true
below test zero holds = refl
below test (suc n) holds =
    let more : suc n ≡ n + 1 = omega arith in
    ap (λ count. map test (range_with_len 0 count)) more
    ∙ map-range_with_len_more test 0 n n (omega arith)
    ∙ ap₂ (λ firsts last. firsts ++ last ∷ [])
    (below test n (λ i less. holds i (omega (arith, less)))) (holds n (omega arith))
    ∙ replicate-append-replicate n 1 true
    ∙ ap (λ count. replicate count true) (sym more)

abbrev there_at : ℕ → Bool
there_at i = is_whole (run_at 16384 (joined_bytes (view_of padded).entries []) i)

last_is_not : there_at 17 ≡ false
unfolding zeros
last_is_not = refl

padding_is_there : map there_at (range_with_len 0 18) ≡ replicate 17 true ++ false ∷ []
padding_is_there =
    map-range_with_len_more there_at 0 17 17 refl
    ∙ ap₂ (λ firsts last. firsts ++ last ∷ [])
    (below there_at 17 (λ i less. piece_of_zeros 16384 278528 i (None ∷ []) (omega (arith, less)))) last_is_not
