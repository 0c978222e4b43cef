-- Items and pairs read one after the other, as a loop does.
use Rattle.tor_bencode.proofs.Names.{◌≡◌, ℕ, zero, suc, ◌-◌, ◌≤◌, ◌<◌, List, [], ◌∷◌, ◌++◌, length, get_or, Some}
use Rattle.tor_bencode.proofs.Names.{Result, Ok, Err, true, false, ◌==◌, refl, sym, ap, ap₂, take, drop, ◌∙◌, arith}
use Rattle.tor_bencode.proofs.Names.{nat_tests, ref_view, ref_items_view, ItemRef, Stop, Data, Items, no_items, item}
use Rattle.tor_bencode.proofs.Names.{Pairs}
use Rattle.tor_bencode.proofs.Names.{no_pairs, pair, Fault, ◌>>=◌, Reading, Stops, value_at, value_with, nested_at}
use Rattle.tor_bencode.proofs.Names.{items_at, Option, cond, Bor, ref_pairs_view, KeyOrder, pairs_at, string_at}
use Rattle.tor_bencode.proofs.Names.{follows, is_ascii_digit, Truncated}
use Rattle.tor_bencode.proofs.Runs.{take_rest}
use Rattle.tor_bencode.proofs.Numerals.{digit_range}
use Rattle.tor_bencode.proofs.Spelled.{StartsWithDigit}
use Rattle.tor_bencode.specs.declared.stop.Stop.TheVariants as stops

abbrev pub items_before : Items → Items → Items
items_before no_items others = others
items_before (item d items) others = item d (items_before items others)

abbrev pub pairs_before : Pairs → Pairs → Pairs
pairs_before no_pairs others = others
pairs_before (pair key d pairs) others = pair key d (pairs_before pairs others)

-- what was read before, and what is still read
abbrev pub with_items : Items → Reading Items → Reading Items
with_items front read = read >>= λ x. Ok (items_before front x.0, x.1)

abbrev pub with_pairs : Pairs → Reading Pairs → Reading Pairs
with_pairs front read = read >>= λ x. Ok (pairs_before front x.0, x.1)

pub nested_at-positive : (room : ℕ) → 0 < room → nested_at room ≡ Some (value_at (room - 1))
unfolding nested_at value_at
nested_at-positive zero h = absurd (omega arith)
nested_at-positive (suc room) h =
    let here : suc room - 1 ≡ room = omega arith in ap (λ n. Some (value_with (nested_at n))) (sym here)

pub items_before-assoc : (a b c : Items) → items_before (items_before a b) c ≡ items_before a (items_before b c)
items_before-assoc no_items b c = refl
items_before-assoc (item d a) b c = ap (item d) (items_before-assoc a b c)

pub items_before-no_items : (a : Items) → items_before a no_items ≡ a
items_before-no_items no_items = refl
items_before-no_items (item d a) = ap (item d) (items_before-no_items a)

pub items_view-push : (items : List ItemRef) (x : ItemRef)
    → ref_items_view (items ++ x ∷ []) ≡ items_before (ref_items_view items) (item (ref_view x) no_items)
items_view-push [] x = refl
items_view-push (y ∷ items) x = ap (item (ref_view y)) (items_view-push items x)

regroup_items : (front : Items) (d : Data) (read : Reading Items)
    → with_items front (read >>= λ x. Ok (item d x.0, x.1)) ≡ with_items (items_before front (item d no_items)) read
regroup_items front d (Ok x) =
    ap (λ (items : Items). Ok (items, x.1)) (sym (items_before-assoc front (item d no_items) x.0))
regroup_items front d (Err e) = refl

pub with_no_items : (read : Reading Items) → with_items no_items read ≡ read
with_no_items (Ok x) = refl
with_no_items (Err f) = refl

pub with_no_pairs : (read : Reading Pairs) → with_pairs no_pairs read ≡ read
with_no_pairs (Ok x) = refl
with_no_pairs (Err f) = refl

abbrev pub Read : Type 0
Read = List ℕ → Reading Data

-- one more item
pub items_go_on : (read : Read) (front : Items) (fuel : ℕ) (bytes : List ℕ) (d : Data) (after : List ℕ)
    (total : Reading Items)
    → 0 < length bytes → (get_or bytes 0 0 ≡ 101 → ⊥) → length bytes ≤ fuel → length after < length bytes
    → read bytes ≡ Ok (d, after)
    → with_items front (items_at read fuel bytes) ≡ total
    → (less : ℕ) × (length after ≤ less)
    × (with_items (items_before front (item d no_items)) (items_at read less after) ≡ total)
items_go_on read front fuel [] d after total some other enough shorter reads so_far = absurd (omega arith)
items_go_on read front zero (c ∷ rest) d after total some other enough shorter reads so_far = absurd (omega arith)
items_go_on read front (suc fuel) (c ∷ rest) d after total some other enough shorter reads so_far =
    let no_end : (c == 101) ≡ false = grind (arith, nat_tests) in
    let one : with_items front (items_at read (suc fuel) (c ∷ rest)) ≡ with_items (items_before front (item d no_items))
    (items_at read fuel after) = rw (no_end, reads) (regroup_items front d (items_at read fuel after)) in
    (fuel, omega arith, sym one ∙ so_far)

pub items_end : (read : Read) (front : Items) (fuel : ℕ) (bytes : List ℕ) (total : Reading Items)
    → 0 < length bytes → get_or bytes 0 0 ≡ 101 → length bytes ≤ fuel
    → with_items front (items_at read fuel bytes) ≡ total → total ≡ Ok (front, take (length bytes - 1) (drop 1 bytes))
items_end read front fuel [] total some is enough so_far = absurd (omega arith)
items_end read front zero (c ∷ rest) total some is enough so_far = absurd (omega arith)
items_end read front (suc fuel) (c ∷ rest) total some is enough so_far =
    let at_end : (c == 101) ≡ true = grind (arith, nat_tests) in
    let one : with_items front (items_at read (suc fuel) (c ∷ rest)) ≡ Ok (items_before front no_items, rest) =
    rw at_end refl in
    sym so_far ∙ one
    ∙ ap₂ (λ (items : Items) (after : List ℕ). Ok (items, after)) (items_before-no_items front) (sym (take_rest c rest))

-- an item that cannot be read
pub items_stop : (read : Read) (front : Items) (fuel : ℕ) (bytes : List ℕ) (total : Reading Items)
    → 0 < length bytes → (get_or bytes 0 0 ≡ 101 → ⊥) → length bytes ≤ fuel
    → with_items front (items_at read fuel bytes) ≡ total → (stop : Stop) → Stops stop (read bytes) → Stops stop total
items_stop read front fuel [] total some other enough so_far stop h = absurd (omega arith)
items_stop read front zero (c ∷ rest) total some other enough so_far stop h = absurd (omega arith)
items_stop read front (suc fuel) (c ∷ rest) total some other enough so_far stops.Memory h = tt
items_stop read front (suc fuel) (c ∷ rest) total some other enough so_far (stops.At fault at) h =
    let no_end : (c == 101) ≡ false = grind (arith, nat_tests) in sym so_far ∙ rw (no_end, h) refl

-- no end
pub items_cut : (read : Read) (front : Items) (fuel : ℕ) (bytes : List ℕ) (total : Reading Items) → length bytes ≡ 0
    → with_items front (items_at read fuel bytes) ≡ total → total ≡ Err (Truncated, bytes)
items_cut read front zero [] total none so_far = sym so_far
items_cut read front (suc fuel) [] total none so_far = sym so_far
items_cut read front fuel (c ∷ rest) total none so_far = absurd (omega arith)

pub stops_bind : {A B : Type 0} (stop : Stop) (r : Result A (Fault × List ℕ)) (f : A → Result B (Fault × List ℕ))
    → Stops stop r → Stops stop (r >>= f)
stops_bind stops.Memory r f h = tt
stops_bind (stops.At fault at) r f h = ap (λ x. x >>= f) h

pub pairs_before-assoc : (a b c : Pairs) → pairs_before (pairs_before a b) c ≡ pairs_before a (pairs_before b c)
pairs_before-assoc no_pairs b c = refl
pairs_before-assoc (pair key d a) b c = ap (pair key d) (pairs_before-assoc a b c)

pub pairs_before-no_pairs : (a : Pairs) → pairs_before a no_pairs ≡ a
pairs_before-no_pairs no_pairs = refl
pairs_before-no_pairs (pair key d a) = ap (pair key d) (pairs_before-no_pairs a)

pub pairs_view-push : (pairs : List (Bor (List ℕ) × ItemRef)) (key : Bor (List ℕ)) (x : ItemRef)
    → ref_pairs_view (pairs ++ (key, x) ∷ [])
    ≡ pairs_before (ref_pairs_view pairs) (pair key.now (ref_view x) no_pairs)
pairs_view-push [] key x = refl
pairs_view-push (y ∷ pairs) key x = ap (pair y.0.now (ref_view y.1)) (pairs_view-push pairs key x)

regroup_pairs : (front : Pairs) (key : List ℕ) (d : Data) (read : Reading Pairs)
    → with_pairs front (read >>= λ x. Ok (pair key d x.0, x.1))
    ≡ with_pairs (pairs_before front (pair key d no_pairs)) read
regroup_pairs front key d (Ok x) =
    ap (λ (pairs : Pairs). Ok (pairs, x.1)) (sym (pairs_before-assoc front (pair key d no_pairs) x.0))
regroup_pairs front key d (Err e) = refl

-- where a key begins, it is read, and then its value
abbrev pub after_key : Read → ℕ → Option (List ℕ) → List ℕ → List ℕ × List ℕ → Reading Pairs
after_key read fuel last bytes key =
    cond (follows last key.0)
    (read key.1 >>= λ value. pairs_at read fuel (Some key.0) value.1
    >>= λ others. Ok (pair key.0 value.0 others.0, others.1)) (Err (KeyOrder, bytes))

pub key_here : (read : Read) (fuel : ℕ) (last : Option (List ℕ)) (bytes : List ℕ) → StartsWithDigit bytes
    → length bytes ≤ fuel
    → (less : ℕ) × (suc less ≡ fuel)
    × (pairs_at read fuel last bytes ≡ (string_at bytes >>= after_key read less last bytes))
key_here read fuel last [] starts enough = absurd (omega arith)
key_here read zero last (c ∷ rest) starts enough = absurd (omega arith)
key_here read (suc fuel) last (c ∷ rest) starts enough =
    let digit : is_ascii_digit c ≡ true = starts.digit in
    let range = digit_range c digit in
    let no_end : (c == 101) ≡ false = grind (arith, nat_tests) in
    (fuel, refl, rw (no_end, digit) refl)

-- what was read before, and then a key
module _ (read : Read) (front : Pairs) (fuel : ℕ) (last : Option (List ℕ)) (bytes : List ℕ) (total : Reading Pairs)
    (starts : StartsWithDigit bytes) (enough : length bytes ≤ fuel)
    (so_far : with_pairs front (pairs_at read fuel last bytes) ≡ total) where
  abbrev less : ℕ
  less = (key_here read fuel last bytes starts enough).0

  after : (r : Reading (List ℕ)) → string_at bytes ≡ r
      → total ≡ with_pairs front (r >>= after_key read less last bytes)
  after r e = sym so_far ∙ ap (with_pairs front) ((key_here read fuel last bytes starts enough).2
      ∙ ap (λ (x : Reading (List ℕ)). x >>= after_key read less last bytes) e)

  pub pairs_stop_key : (stop : Stop) → Stops stop (string_at bytes) → Stops stop total
  pairs_stop_key stops.Memory h = tt
  pairs_stop_key (stops.At fault at) h = after (Err (fault, at.now)) h

  module _ (key middle : List ℕ) (named : string_at bytes ≡ Ok (key, middle)) where
    pub pairs_stop_order : follows last key ≡ false → total ≡ Err (KeyOrder, bytes)
    pairs_stop_order order = after (Ok (key, middle)) named ∙ rw order refl

    pub pairs_stop_value : (stop : Stop) → follows last key ≡ true → Stops stop (read middle) → Stops stop total
    pairs_stop_value stops.Memory order h = tt
    pairs_stop_value (stops.At fault at) order h = after (Ok (key, middle)) named ∙ rw (order, h) refl

    -- one more pair
    pub pairs_go_on : (d : Data) (rest : List ℕ) → length rest < length bytes → follows last key ≡ true
        → read middle ≡ Ok (d, rest)
        → (less : ℕ) × (length rest ≤ less)
        × (with_pairs (pairs_before front (pair key d no_pairs)) (pairs_at read less (Some key) rest) ≡ total)
    pairs_go_on d rest shorter order reads =
        let one : with_pairs front (after_key read less last bytes (key, middle))
        ≡ with_pairs (pairs_before front (pair key d no_pairs)) (pairs_at read less (Some key) rest) =
        rw (order, reads) (regroup_pairs front key d (pairs_at read less (Some key) rest)) in (
          less,
          omega (arith, (key_here read fuel last bytes starts enough).1),
          sym (after (Ok (key, middle)) named ∙ one),
        )

pub pairs_end : (read : Read) (front : Pairs) (fuel : ℕ) (last : Option (List ℕ)) (bytes : List ℕ)
    (total : Reading Pairs)
    → 0 < length bytes → get_or bytes 0 0 ≡ 101 → length bytes ≤ fuel
    → with_pairs front (pairs_at read fuel last bytes) ≡ total
    → total ≡ Ok (front, take (length bytes - 1) (drop 1 bytes))
pairs_end read front fuel last [] total some is enough so_far = absurd (omega arith)
pairs_end read front zero last (c ∷ rest) total some is enough so_far = absurd (omega arith)
pairs_end read front (suc fuel) last (c ∷ rest) total some is enough so_far =
    let at_end : (c == 101) ≡ true = grind (arith, nat_tests) in
    let one : with_pairs front (pairs_at read (suc fuel) last (c ∷ rest)) ≡ Ok (pairs_before front no_pairs, rest) =
    rw at_end refl in
    sym so_far ∙ one
    ∙ ap₂ (λ (pairs : Pairs) (after : List ℕ). Ok (pairs, after)) (pairs_before-no_pairs front) (sym (take_rest c rest))

pub pairs_cut : (read : Read) (front : Pairs) (fuel : ℕ) (last : Option (List ℕ)) (bytes : List ℕ)
    (total : Reading Pairs) → length bytes ≡ 0 → with_pairs front (pairs_at read fuel last bytes) ≡ total
    → total ≡ Err (Truncated, bytes)
pairs_cut read front zero last [] total none so_far = sym so_far
pairs_cut read front (suc fuel) last [] total none so_far = sym so_far
pairs_cut read front fuel last (c ∷ rest) total none so_far = absurd (omega arith)
