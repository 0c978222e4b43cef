-- What is read as a value is spelled so, or has a fault.
use Rattle.tor_bencode.proofs.Names.{◌≡◌, ℕ, suc, ◌-◌, List, [], ◌∷◌, Some, None, Ok, Err, refl, sym, ap, ◌∙◌, subst}
use Rattle.tor_bencode.proofs.Names.{append_assoc, arith, inl, inr, Data, integer, string, list, dictionary, Items}
use Rattle.tor_bencode.proofs.Names.{Pairs, no_pairs, pair, IsBadValue, IsBadKey, at_value, in_list, at_key, in_pair}
use Rattle.tor_bencode.proofs.Names.{last_key, ItemsAreLawfulWithin, PairsAreLawfulWithin, ◌>>=◌, Reading}
use Rattle.tor_bencode.proofs.Names.{string_spelling, items_spelling, pairs_spelling, Fault, Truncated, BadInteger}
use Rattle.tor_bencode.proofs.Names.{IntegerRange, BadLength}
use Rattle.tor_bencode.proofs.IntegersRead.{IsBadInt, IntegerIs}
use Rattle.tor_bencode.proofs.Lawfulness.{lawful-integer, lawful-string, lawful-list, lawful-dictionary}
use Rattle.tor_bencode.proofs.ReadBack.{last_after}
use Rattle.tor_bencode.proofs.Strings.{IsBadString, StringIs}
use Rattle.tor_bencode.proofs.Sound.{ValueIs, ItemsAre}
use Rattle.tor_bencode.proofs.SoundPairs.{PairsAre}

last_key-after : (key : List ℕ) (d : Data) (pairs : Pairs) → last_key (pair key d pairs) ≡ last_after (Some key) pairs
last_key-after key d no_pairs = refl
last_key-after key d (pair next e pairs) = last_key-after next e pairs

pub last_key-is : (pairs : Pairs) → last_after None pairs ≡ last_key pairs
last_key-is no_pairs = refl
last_key-is (pair key d pairs) = sym (last_key-after key d pairs)

bad_integer : (room : ℕ) (bytes : List ℕ) (fault : Fault) (from : List ℕ) → IsBadInt bytes fault from
    → IsBadValue room bytes fault from
bad_integer room bytes Truncated from h = (inr (inl h.0), h.1)
bad_integer room bytes BadInteger from h = h
bad_integer room bytes IntegerRange from h = h
bad_integer room bytes fault from h = absurd h

bad_string : (room : ℕ) (bytes : List ℕ) (fault : Fault) (from : List ℕ) → IsBadString bytes fault from
    → IsBadValue room bytes fault from
bad_string room bytes Truncated from h = (inr (inr h.0), h.1)
bad_string room bytes BadLength from h = h
bad_string room bytes fault from h = absurd h

pub integer_is : (room : ℕ) (bytes : List ℕ) (r : Reading _) → IntegerIs bytes r
    → ValueIs room bytes (r >>= λ n. Ok (integer n.0, n.1))
integer_is room bytes (Ok x) h = (lawful-integer room x.0 h.0, h.1)
integer_is room bytes (Err f) h = at_value (bad_integer room bytes f.0 f.1 h)

pub string_is : (room : ℕ) (bytes : List ℕ) (r : Reading (List ℕ)) → StringIs bytes r
    → ValueIs room bytes (r >>= λ text. Ok (string text.0, text.1))
string_is room bytes (Ok x) h = (lawful-string room x.0, h)
string_is room bytes (Err f) h = at_value (bad_string room bytes f.0 f.1 h)

pub list_is : (room : ℕ) (rest : List ℕ) (r : Reading Items) → ItemsAre room rest r
    → ValueIs (suc room) (108 ∷ rest) (r >>= λ items. Ok (list items.0, items.1))
list_is room rest (Ok x) h =
    let same : suc room - 1 ≡ room = omega arith in (
      (lawful-list (suc room) x.0).1 (omega arith, subst (λ n. ItemsAreLawfulWithin n x.0) (sym same) h.0),
      ap (λ bs. 108 ∷ bs) (h.1 ∙ sym (append_assoc (items_spelling x.0) (101 ∷ []) x.1)),
    )
list_is room rest (Err f) h = in_list h.0 h.1 (ap (λ bs. 108 ∷ bs) h.2) h.3 h.4 h.5

pub dictionary_is : (room : ℕ) (rest : List ℕ) (r : Reading Pairs) → PairsAre room None rest r
    → ValueIs (suc room) (100 ∷ rest) (r >>= λ pairs. Ok (dictionary pairs.0, pairs.1))
dictionary_is room rest (Ok x) h =
    let same : suc room - 1 ≡ room = omega arith in (
      (lawful-dictionary (suc room) x.0).1 (omega arith, h.1, subst (λ n. PairsAreLawfulWithin n x.0) (sym same) h.0),
      ap (λ bs. 100 ∷ bs) (h.2 ∙ sym (append_assoc (pairs_spelling x.0) (101 ∷ []) x.1)),
    )
dictionary_is room rest (Err f) (inl h) =
    at_key h.0 h.1 (ap (λ bs. 100 ∷ bs) h.2) h.4 h.3 (subst (λ o. IsBadKey o h.1 f.0 f.1) (last_key-is h.0) h.5)
dictionary_is room rest (Err f) (inr h) =
    in_pair h.0 h.1 h.2
    (ap (λ bs. 100 ∷ bs) (h.3 ∙ sym (append_assoc (pairs_spelling h.0) (string_spelling h.1) h.2))) h.5 h.4 h.6
