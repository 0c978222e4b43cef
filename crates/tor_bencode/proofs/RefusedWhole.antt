-- Bytes with a fault inside are refused with that fault.
use Rattle.tor_bencode.proofs.Names.{◌≡◌, ℕ, suc, ◌-◌, ◌≤◌, ◌<◌, List, [], ◌∷◌, ◌++◌, length, true, Option, Some, None}
use Rattle.tor_bencode.proofs.Names.{Err, refl, sym, ap, ap₂, ◌∙◌, subst, append_assoc, arith, inl, inr, ◌⊎◌, Data}
use Rattle.tor_bencode.proofs.Names.{no_items, Pairs, no_pairs, pair, keys_of, IsBadKey, IsFaultIn, at_value, in_list}
use Rattle.tor_bencode.proofs.Names.{at_key, in_pair, IsTrailing, AreRising, PairsAreLawfulWithin, ◌>>=◌, Reading}
use Rattle.tor_bencode.proofs.Names.{follows, items_at, pairs_at, value_at, whole, last_of, string_spelling}
use Rattle.tor_bencode.proofs.Names.{items_spelling, pairs_spelling, Fault, Trailing}
use Rattle.tor_bencode.proofs.Loops.{with_items, with_pairs, with_no_items, with_no_pairs}
use Rattle.tor_bencode.proofs.Values.{value_list, value_dictionary, value_empty}
use Rattle.tor_bencode.proofs.ReadBack.{AreRisingAfter, rising_first, last_after, items_at-front, pairs_at-front}
use Rattle.tor_bencode.proofs.ReadBack.{value_at-spelling}
use Rattle.tor_bencode.proofs.SoundPairs.{rising_push, rising_none}
use Rattle.tor_bencode.proofs.SoundValues.{last_key-is}
use Rattle.tor_bencode.proofs.Runs.{take_rest}
use Rattle.tor_bencode.proofs.Refused.{failed, stops, bad_value_read, items_stopped, bad_key_read, key_named}

-- what stops the value of a key stops the pairs
pair_stopped : (read : List ℕ → Reading Data) (fuel : ℕ) (last : Option (List ℕ)) (bytes key rest : List ℕ)
    (fault : Fault) (from : List ℕ) → bytes ≡ string_spelling key ++ rest → length bytes ≤ fuel
    → follows last key ≡ true → read rest ≡ failed fault from → pairs_at read fuel last bytes ≡ failed fault from
pair_stopped read fuel last bytes key rest fault from is enough order h =
    (key_named read fuel last bytes key rest is enough).1 ∙ rw (order, h) refl

rising_last : (last : Option (List ℕ)) (pairs : Pairs) (key : List ℕ)
    → AreRisingAfter last (keys_of pairs ++ key ∷ [])
    → AreRisingAfter last (keys_of pairs) × (follows (last_after last pairs) key ≡ true)
rising_last last no_pairs key h = (rising_none last, (rising_first last key [] h).0)
rising_last last (pair k d pairs) key h =
    let first = rising_first last k (keys_of pairs ++ key ∷ []) h in
    let later = rising_last (Some k) pairs key first.1 in
    (rising_push last k (keys_of pairs) first.0 later.0, later.1)

list_stopped : (room : ℕ) (bytes inside : List ℕ) (fault : Fault) (from : List ℕ) → bytes ≡ 108 ∷ inside
    → items_at (value_at room) (length inside) inside ≡ failed fault from
    → value_at (suc room) bytes ≡ failed fault from
list_stopped room bytes inside fault from is h =
    let same : suc room - 1 ≡ room = omega arith in
    ap (value_at (suc room)) is ∙ value_list (suc room) (108 ∷ inside) (omega arith) (omega arith) refl
    ∙ stops _ _ fault from (ap₂ (λ n bs. items_at (value_at n) (length bs) bs) same (take_rest 108 inside) ∙ h)

dictionary_stopped : (room : ℕ) (bytes inside : List ℕ) (fault : Fault) (from : List ℕ) → bytes ≡ 100 ∷ inside
    → pairs_at (value_at room) (length inside) None inside ≡ failed fault from
    → value_at (suc room) bytes ≡ failed fault from
dictionary_stopped room bytes inside fault from is h =
    let same : suc room - 1 ≡ room = omega arith in
    ap (value_at (suc room)) is ∙ value_dictionary (suc room) (100 ∷ inside) (omega arith) (omega arith) refl
    ∙ stops _ _ fault from (ap₂ (λ n bs. pairs_at (value_at n) (length bs) None bs) same (take_rest 100 inside) ∙ h)

-- after lawful pairs
pairs_stopped : (room : ℕ) (pairs : Pairs) (rest : List ℕ) (fault : Fault) (from : List ℕ)
    → PairsAreLawfulWithin room pairs → AreRising (keys_of pairs)
    → ((less : ℕ) → length rest ≤ less → pairs_at (value_at room) less (last_after None pairs) rest ≡ failed fault from)
    → pairs_at (value_at room) (length (pairs_spelling pairs ++ rest)) None (pairs_spelling pairs ++ rest)
    ≡ failed fault from
pairs_stopped room pairs rest fault from lawful rising stopped =
    let inside = pairs_spelling pairs ++ rest in
    let read =
    pairs_at-front pairs room no_pairs None rest (length inside)
    (with_pairs no_pairs (pairs_at (value_at room) (length inside) None inside)) lawful rising (omega arith) refl in
    sym (sym (ap (with_pairs pairs) (stopped read.0 read.1)) ∙ read.2 ∙ with_no_pairs _)

fault_read : (room : ℕ) (bytes : List ℕ) (fault : Fault) (from : List ℕ) → IsFaultIn room bytes fault from
    → value_at room bytes ≡ failed fault from
fault_read room bytes fault from (at_value h) = bad_value_read room bytes fault from h
fault_read (suc room) bytes fault from (in_list items rest is lawful no_end inner) =
    let inside = items_spelling items ++ rest in
    let read =
    items_at-front items room no_items rest (length inside)
    (with_items no_items (items_at (value_at room) (length inside) inside)) lawful (omega arith) refl in
    let stopped =
    items_stopped (value_at room) read.0 rest fault from (value_empty room) no_end read.1
    (fault_read room rest fault from inner) in
    list_stopped room bytes inside fault from is (sym (sym (ap (with_items items) stopped) ∙ read.2 ∙ with_no_items _))
fault_read (suc room) bytes fault from (at_key pairs rest is rising lawful bad) =
    dictionary_stopped room bytes (pairs_spelling pairs ++ rest) fault from is
    (pairs_stopped room pairs rest fault from lawful rising
    (λ less enough. bad_key_read (value_at room) less (last_after None pairs) rest fault from enough
    (subst (λ o. IsBadKey o rest fault from) (sym (last_key-is pairs)) bad)))
fault_read (suc room) bytes fault from (in_pair pairs key rest is rising lawful inner) =
    let order = rising_last None pairs key rising in
    dictionary_stopped room bytes (pairs_spelling pairs ++ (string_spelling key ++ rest)) fault from
    (is ∙ ap (λ bs. 100 ∷ bs) (append_assoc (pairs_spelling pairs) (string_spelling key) rest))
    (pairs_stopped room pairs (string_spelling key ++ rest) fault from lawful order.0
    (λ less enough. pair_stopped (value_at room) less (last_after None pairs)
    (string_spelling key ++ rest) key rest fault from refl enough order.1 (fault_read room rest fault from inner)))

last_more : (d : Data) (from : List ℕ) → 0 < length from → last_of (d, from) ≡ Err (Trailing, from)
last_more d [] more = absurd (omega arith)
last_more d (c ∷ rest) more = refl

-- bytes with a fault are refused with it
pub refused_read : (bytes : List ℕ) (fault : Fault) (from : List ℕ)
    → (IsFaultIn 100 bytes fault from ⊎ IsTrailing bytes fault from) → whole bytes ≡ Err (fault, from)
unfolding whole
refused_read bytes fault from (inl h) = ap (λ (r : Reading Data). r >>= last_of) (fault_read 100 bytes fault from h)
refused_read bytes fault from (inr h) =
    ap (λ (r : Reading Data). r >>= last_of) (ap (value_at 100) h.whole ∙ value_at-spelling h.tree 100 from h.lawful)
    ∙ last_more h.tree from h.more ∙ ap (λ f. Err (f, from)) (sym h.code)
