-- What is spelled is read again, whatever follows it.
use Rattle.tor_bencode.proofs.Names.{◌≡◌, ℕ, ◌-◌, ◌≤◌, List, [], ◌∷◌, ◌++◌, length, true, Option, Some, None, Ok, refl}
use Rattle.tor_bencode.proofs.Names.{sym, ap, ◌∙◌, append_assoc, arith, is_lt, append-nil, Data, integer, string, list}
use Rattle.tor_bencode.proofs.Names.{dictionary, Items, no_items, item, Pairs, no_pairs, pair, keys_of, AreRising}
use Rattle.tor_bencode.proofs.Names.{IsLawfulWithin, ItemsAreLawfulWithin, PairsAreLawfulWithin, ◌>>=◌, Reading}
use Rattle.tor_bencode.proofs.Names.{follows, integer_at, items_at, pairs_at, value_at, whole, last_of, signed_base_ten}
use Rattle.tor_bencode.proofs.Names.{spelling, string_spelling, items_spelling, pairs_spelling}
use Rattle.tor_bencode.proofs.Integers.{integer_at-spelling}
use Rattle.tor_bencode.proofs.IntegersRead.{integer_spelled}
use Rattle.tor_bencode.proofs.Lawfulness.{lawful-list, lawful-dictionary, lawful-item, lawful-pair}
use Rattle.tor_bencode.proofs.Runs.{take_rest}
use Rattle.tor_bencode.proofs.Loops.{items_before, pairs_before, with_items, with_pairs, items_before-assoc}
use Rattle.tor_bencode.proofs.Loops.{items_before-no_items, with_no_items, with_no_pairs, items_go_on, items_end}
use Rattle.tor_bencode.proofs.Loops.{pairs_before-assoc, pairs_before-no_pairs, pairs_go_on, pairs_end}
use Rattle.tor_bencode.proofs.Values.{value_integer, value_string, value_list, value_dictionary}
use Rattle.tor_bencode.proofs.Spelled.{string-starts, spelling-starts, shorter-spelling, shorter-string, pair_spelled}
use Rattle.tor_bencode.proofs.Strings.{string_at-spelling}

-- the keys rise, and the first comes after the last one before them
abbrev pub AreRisingAfter : Option (List ℕ) → List (List ℕ) → Type 0
AreRisingAfter None keys = AreRising keys
AreRisingAfter (Some last) keys = AreRising (last ∷ keys)

pub rising_first : (last : Option (List ℕ)) (key : List ℕ) (keys : List (List ℕ)) → AreRisingAfter last (key ∷ keys)
    → (follows last key ≡ true) × AreRisingAfter (Some key) keys
rising_first None key keys h = (refl, h)
rising_first (Some last) key keys h = (ap is_lt h.0, h.1)

-- the last key, after these pairs
abbrev pub last_after : Option (List ℕ) → Pairs → Option (List ℕ)
last_after last no_pairs = last
last_after last (pair key d pairs) = last_after (Some key) pairs

closed : (c : ℕ) (inside rest : List ℕ) → ((c ∷ [] ++ inside) ++ 101 ∷ []) ++ rest ≡ c ∷ (inside ++ 101 ∷ rest)
closed c inside rest = simp append_assoc

mutual
  pub value_at-spelling : (d : Data) (room : ℕ) (rest : List ℕ) → IsLawfulWithin room d
      → value_at room (spelling d ++ rest) ≡ Ok (d, rest)
  value_at-spelling (integer n) room rest lawful =
      ap (value_at room) (integer_spelled n rest)
      ∙ value_integer room (105 ∷ (signed_base_ten n ++ 101 ∷ rest)) (omega arith) refl
      ∙ ap (λ bs. integer_at (105 ∷ (signed_base_ten n ++ 101 ∷ rest)) bs >>= λ x. Ok (integer x.0, x.1))
      (take_rest 105 (signed_base_ten n ++ 101 ∷ rest))
      ∙ ap (λ r. r >>= λ x. Ok (integer x.0, x.1)) (integer_at-spelling _ n rest lawful.integers)
  value_at-spelling (string s) room rest lawful =
      let h = string-starts s rest in
      value_string room (string_spelling s ++ rest) h.some h.digit
      ∙ ap (λ r. r >>= λ x. Ok (string x.0, x.1)) (string_at-spelling s rest)
  value_at-spelling (list items) room rest lawful =
      let parts = (lawful-list room items).0 lawful in
      let inside = items_spelling items ++ 101 ∷ rest in
      let same : spelling (list items) ++ rest ≡ 108 ∷ (items_spelling items ++ 101 ∷ rest) =
      ap (λ bs. 108 ∷ bs) (append_assoc (items_spelling items) (101 ∷ []) rest) in
      let read =
      items_at-front items (room - 1) no_items (101 ∷ rest) (length inside)
      (with_items no_items (items_at (value_at (room - 1)) (length inside) inside)) parts.1 (omega arith) refl in
      let end =
      items_end (value_at (room - 1)) (items_before no_items items) read.0 (101 ∷ rest) _
      (omega arith) refl read.1 read.2 in
      let whole_list : items_at (value_at (room - 1)) (length inside) inside ≡ Ok (items, rest) =
      sym (with_no_items _) ∙ end ∙ ap (λ bs. Ok (items, bs)) (take_rest 101 rest) in
      ap (value_at room) same ∙ value_list room (108 ∷ inside) (omega arith) parts.0 refl
      ∙ ap (λ bs. items_at (value_at (room - 1)) (length bs) bs >>= λ x. Ok (list x.0, x.1)) (take_rest 108 inside)
      ∙ ap (λ (r : Reading Items). r >>= λ x. Ok (list x.0, x.1)) whole_list
  value_at-spelling (dictionary pairs) room rest lawful =
      let parts = (lawful-dictionary room pairs).0 lawful in
      let inside = pairs_spelling pairs ++ 101 ∷ rest in
      let same : spelling (dictionary pairs) ++ rest ≡ 100 ∷ (pairs_spelling pairs ++ 101 ∷ rest) =
      ap (λ bs. 100 ∷ bs) (append_assoc (pairs_spelling pairs) (101 ∷ []) rest) in
      let read =
      pairs_at-front pairs (room - 1) no_pairs None (101 ∷ rest) (length inside)
      (with_pairs no_pairs (pairs_at (value_at (room - 1)) (length inside) None inside)) parts.2 parts.1
      (omega arith) refl in
      let end =
      pairs_end (value_at (room - 1)) (pairs_before no_pairs pairs) read.0 (last_after None pairs) (101 ∷ rest) _
      (omega arith) refl read.1 read.2 in
      let whole_dictionary : pairs_at (value_at (room - 1)) (length inside) None inside ≡ Ok (pairs, rest) =
      sym (with_no_pairs _) ∙ end ∙ ap (λ bs. Ok (pairs, bs)) (take_rest 101 rest) in
      ap (value_at room) same ∙ value_dictionary room (100 ∷ inside) (omega arith) parts.0 refl
      ∙ ap (λ bs. pairs_at (value_at (room - 1)) (length bs) None bs >>= λ x. Ok (dictionary x.0, x.1))
      (take_rest 100 inside)
      ∙ ap (λ (r : Reading Pairs). r >>= λ x. Ok (dictionary x.0, x.1)) whole_dictionary

  -- lawful items in front are read
  pub items_at-front : (items : Items) (room : ℕ) (front : Items) (more : List ℕ) (fuel : ℕ) (total : Reading Items)
      → ItemsAreLawfulWithin room items → length (items_spelling items ++ more) ≤ fuel
      → with_items front (items_at (value_at room) fuel (items_spelling items ++ more)) ≡ total
      → (less : ℕ) × (length more ≤ less)
      × (with_items (items_before front items) (items_at (value_at room) less more) ≡ total)
  items_at-front no_items room front more fuel total lawful enough so_far = (
    fuel,
    enough,
    ap (λ items. with_items items (items_at (value_at room) fuel more)) (items_before-no_items front) ∙ so_far,
  )
  items_at-front (item d items) room front more fuel total lawful enough so_far =
      let parts = (lawful-item room d items).0 lawful in
      let rest = items_spelling items ++ more in
      let bytes = spelling d ++ rest in
      let same : items_spelling (item d items) ++ more ≡ spelling d ++ (items_spelling items ++ more) =
      append_assoc (spelling d) (items_spelling items) more in
      let starts = spelling-starts d rest in
      let step =
      items_go_on (value_at room) front fuel bytes d rest total starts.some starts.no_end
      (omega (arith, ap length same)) (shorter-spelling d bytes rest refl) (value_at-spelling d room rest parts.0)
      (ap (λ bs. with_items front (items_at (value_at room) fuel bs)) (sym same) ∙ so_far) in
      let later =
      items_at-front items room (items_before front (item d no_items)) more step.0 total parts.1 step.1 step.2 in (
        later.0,
        later.1,
        ap (λ items. with_items items (items_at (value_at room) later.0 more))
            (sym (items_before-assoc front (item d no_items) items)) ∙ later.2,
      )

  pub pairs_at-front : (pairs : Pairs) (room : ℕ) (front : Pairs) (last : Option (List ℕ)) (more : List ℕ) (fuel : ℕ)
      (total : Reading Pairs) → PairsAreLawfulWithin room pairs → AreRisingAfter last (keys_of pairs)
      → length (pairs_spelling pairs ++ more) ≤ fuel
      → with_pairs front (pairs_at (value_at room) fuel last (pairs_spelling pairs ++ more)) ≡ total
      → (less : ℕ) × (length more ≤ less)
      × (with_pairs (pairs_before front pairs) (pairs_at (value_at room) less (last_after last pairs) more) ≡ total)
  pairs_at-front no_pairs room front last more fuel total lawful rising enough so_far = (
    fuel,
    enough,
    ap (λ pairs. with_pairs pairs (pairs_at (value_at room) fuel last more)) (pairs_before-no_pairs front) ∙ so_far,
  )
  pairs_at-front (pair key d pairs) room front last more fuel total lawful rising enough so_far =
      let parts = (lawful-pair room key d pairs).0 lawful in
      let order = rising_first last key (keys_of pairs) rising in
      let rest = pairs_spelling pairs ++ more in
      let middle = spelling d ++ rest in
      let bytes = string_spelling key ++ middle in
      let same : pairs_spelling (pair key d pairs) ++ more
      ≡ string_spelling key ++ (spelling d ++ (pairs_spelling pairs ++ more)) =
      pair_spelled (string_spelling key) (spelling d) (pairs_spelling pairs) more in
      let step =
      pairs_go_on (value_at room) front fuel last bytes total (string-starts key middle) (omega (arith, ap length same))
      (ap (λ bs. with_pairs front (pairs_at (value_at room) fuel last bs)) (sym same) ∙ so_far) key middle
      (string_at-spelling key middle) d rest
      (omega (arith, shorter-string key bytes middle refl, shorter-spelling d middle rest refl)) order.0
      (value_at-spelling d room rest parts.0) in
      let later =
      pairs_at-front pairs room (pairs_before front (pair key d no_pairs))
      (Some key) more step.0 total parts.1 order.1 step.1 step.2 in (
        later.0,
        later.1,
        ap (λ (before : Pairs). with_pairs before (pairs_at (value_at room) later.0 (last_after (Some key) pairs) more))
            (sym (pairs_before-assoc front (pair key d no_pairs) pairs)) ∙ later.2,
      )

abbrev ok : Data × List ℕ → Reading Data
ok x = Ok x

ok_is : (x y : Data × List ℕ) → ok x ≡ ok y → x ≡ y
ok_is x y e = cc

-- no lawful spelling begins another
pub same_front : (c d : Data) (rest more : List ℕ) → IsLawfulWithin 100 c → IsLawfulWithin 100 d
    → spelling c ++ rest ≡ spelling d ++ more → (c ≡ d) × (rest ≡ more)
same_front c d rest more first second same =
    let read =
    sym (value_at-spelling c 100 rest first) ∙ ap (value_at 100) same ∙ value_at-spelling d 100 more second in
    let pairs = ok_is (c, rest) (d, more) read in
    (ap (λ p. p.0) pairs, ap (λ p. p.1) pairs)

-- the spelling of a lawful tree is read as a whole
pub whole-spelling : (d : Data) (bytes : List ℕ) → IsLawfulWithin 100 d → bytes ≡ spelling d → whole bytes ≡ Ok d
unfolding whole
whole-spelling d bytes lawful is =
    ap (λ bs. value_at 100 bs >>= last_of) (is ∙ sym (append-nil (spelling d)))
    ∙ ap (λ r. r >>= last_of) (value_at-spelling d 100 [] lawful)
