-- What the keys of a root have for values after its tracker changed.
use Rattle.tor_edit.proofs.Names.{◌≡◌, ◌≢◌, ◌∙◌, ℕ, Bool, true, false, cond, List, Option, None, Some, Ordering, Less}
use Rattle.tor_edit.proofs.Names.{Equal, Greater, refl, sym, ap, subst, codes, option_map, match_ordering, bytes_eq}
use Rattle.tor_edit.proofs.Names.{bytes_eq-Decides, false_from_ne_true, Data, Pairs, no_pairs, pair, integer, string}
use Rattle.tor_edit.proofs.Names.{list, dictionary, value_in, value_of, is_dictionary, put, announced, without}
use Rattle.tor_edit.proofs.Names.{tracker_edited, false≢true, ◌-◌, drop, take, span_of, span_of_a_value, spelling}
use Rattle.tor_edit.proofs.Pairs.{order, equal_keys, other_greater, same_key}

-- a key that was taken out has no value
none_without : (gone : List ℕ) (pairs : Pairs) → value_in gone (without gone pairs) ≡ None
none_without gone no_pairs = refl
none_without gone (pair k v pairs) = by_test (bytes_eq k gone) refl (none_without gone pairs)
  where
    by_test : (b : Bool) → bytes_eq k gone ≡ b → value_in gone (without gone pairs) ≡ None
        → value_in gone (cond b (without gone pairs) (pair k v (without gone pairs))) ≡ None
    by_test true e later = later
    by_test false e later = ap (λ b. cond b (Some v) (value_in gone (without gone pairs))) e ∙ later

-- and every other key what it had
other_without : (gone key : List ℕ) (pairs : Pairs) → bytes_eq gone key ≡ false
    → value_in key (without gone pairs) ≡ value_in key pairs
other_without gone key no_pairs apart = refl
other_without gone key (pair k v pairs) apart =
    by_test (bytes_eq k gone) refl (other_without gone key pairs apart)
  where
    by_test : (b : Bool) → bytes_eq k gone ≡ b → value_in key (without gone pairs) ≡ value_in key pairs
        → value_in key (cond b (without gone pairs) (pair k v (without gone pairs)))
        ≡ cond (bytes_eq k key) (Some v) (value_in key pairs)
    by_test true e later =
        let same : k ≡ gone = (bytes_eq-Decides k gone).0 e in
        later
        ∙ sym (ap (λ b. cond b (Some v) (value_in key pairs))
        (subst (λ (name : List ℕ). bytes_eq name key ≡ false) (sym same) apart))
    by_test false e later = ap (λ rest. cond (bytes_eq k key) (Some v) rest) later

-- a key has the value that was put there
own_put : (key : List ℕ) (value : Data) (pairs : Pairs) → value_in key (put key value pairs) ≡ Some value
own_put key value no_pairs = ap (λ b. cond b (Some value) None) (same_key key)
own_put key value (pair k v pairs) = by_order (order key k) refl (own_put key value pairs)
  where
    first : (rest : Pairs) → value_in key (pair key value rest) ≡ Some value
    first rest = ap (λ b. cond b (Some value) (value_in key rest)) (same_key key)

    by_order : (o : Ordering) → order key k ≡ o → value_in key (put key value pairs) ≡ Some value
        → value_in key (match_ordering o (pair key value (pair k v pairs)) (pair key value pairs)
        (pair k v (put key value pairs))) ≡ Some value
    by_order Less e later = first (pair k v pairs)
    by_order Equal e later = first pairs
    by_order Greater e later =
        ap (λ b. cond b (Some v) (value_in key (put key value pairs))) (other_greater key k e) ∙ later

-- and every other key what it had
other_put : (name key : List ℕ) (value : Data) (pairs : Pairs) → bytes_eq name key ≡ false
    → value_in key (put name value pairs) ≡ value_in key pairs
other_put name key value no_pairs apart = ap (λ b. cond b (Some value) None) apart
other_put name key value (pair k v pairs) apart =
    by_order (order name k) refl (other_put name key value pairs apart)
  where
    by_order : (o : Ordering) → order name k ≡ o → value_in key (put name value pairs) ≡ value_in key pairs
        → value_in key (match_ordering o (pair name value (pair k v pairs)) (pair name value pairs)
        (pair k v (put name value pairs)))
        ≡ cond (bytes_eq k key) (Some v) (value_in key pairs)
    by_order Less e later =
        ap (λ b. cond b (Some value) (cond (bytes_eq k key) (Some v) (value_in key pairs))) apart
    by_order Equal e later =
        ap (λ b. cond b (Some value) (value_in key pairs)) apart
        ∙ sym (ap (λ b. cond b (Some v) (value_in key pairs))
        (subst (λ (other : List ℕ). bytes_eq other key ≡ false) (equal_keys name k e) apart))
    by_order Greater e later = ap (λ rest. cond (bytes_eq k key) (Some v) rest) later

apart_from : (name key : List ℕ) → key ≢ name → bytes_eq name key ≡ false
apart_from name key differ =
    false_from_ne_true (bytes_eq name key) (λ same. differ (sym ((bytes_eq-Decides name key).0 same)))

own_announced : (tracker : Option (List ℕ)) (pairs : Pairs)
    → value_in (codes "announce") (announced tracker pairs) ≡ option_map string tracker
own_announced None pairs = none_without (codes "announce") pairs
own_announced (Some url) pairs = own_put (codes "announce") (string url) pairs

other_announced : (tracker : Option (List ℕ)) (key : List ℕ) (pairs : Pairs)
    → bytes_eq (codes "announce") key ≡ false → value_in key (announced tracker pairs) ≡ value_in key pairs
other_announced None key pairs apart = other_without (codes "announce") key pairs apart
other_announced (Some url) key pairs apart = other_put (codes "announce") key (string url) pairs apart

-- `announce` is the tracker
pub tracker_is : (root : Data) (tracker : Option (List ℕ)) → is_dictionary root ≡ true
    → value_of (codes "announce") (tracker_edited root tracker) ≡ option_map string tracker
tracker_is (integer n) tracker some = absurd (false≢true some)
tracker_is (string bytes) tracker some = absurd (false≢true some)
tracker_is (list items) tracker some = absurd (false≢true some)
tracker_is (dictionary pairs) tracker some =
    other_without (codes "announce-list") (codes "announce") (announced tracker pairs) refl
    ∙ own_announced tracker pairs

-- `announce-list` is not there
pub no_list : (root : Data) (tracker : Option (List ℕ))
    → value_of (codes "announce-list") (tracker_edited root tracker) ≡ None
no_list (integer n) tracker = refl
no_list (string bytes) tracker = refl
no_list (list items) tracker = refl
no_list (dictionary pairs) tracker = none_without (codes "announce-list") (announced tracker pairs)

pub kept : (root : Data) (tracker : Option (List ℕ)) (key : List ℕ) → bytes_eq (codes "announce") key ≡ false
    → bytes_eq (codes "announce-list") key ≡ false → value_of key (tracker_edited root tracker) ≡ value_of key root
kept (integer n) tracker key one other = refl
kept (string bytes) tracker key one other = refl
kept (list items) tracker key one other = refl
kept (dictionary pairs) tracker key one other =
    other_without (codes "announce-list") key (announced tracker pairs) other
    ∙ other_announced tracker key pairs one

-- every other key has its value
pub others_are_kept : (root : Data) (tracker : Option (List ℕ)) (key : List ℕ) → key ≢ codes "announce"
    → key ≢ codes "announce-list" → value_of key (tracker_edited root tracker) ≡ value_of key root
others_are_kept root tracker key one other =
    kept root tracker key (apart_from (codes "announce") key one) (apart_from (codes "announce-list") key other)

pub info_is_kept : (root : Data) (tracker : Option (List ℕ))
    → value_of (codes "info") (tracker_edited root tracker) ≡ value_of (codes "info") root
info_is_kept root tracker = kept root tracker (codes "info") refl refl

pub layers_are_kept : (root : Data) (tracker : Option (List ℕ))
    → value_of (codes "piece layers") (tracker_edited root tracker) ≡ value_of (codes "piece layers") root
layers_are_kept root tracker = kept root tracker (codes "piece layers") refl refl

pub still_a_dictionary : (root : Data) (tracker : Option (List ℕ))
    → is_dictionary (tracker_edited root tracker) ≡ is_dictionary root
still_a_dictionary (integer n) tracker = refl
still_a_dictionary (string bytes) tracker = refl
still_a_dictionary (list items) tracker = refl
still_a_dictionary (dictionary pairs) tracker = refl

values_are_one : (x y : Data) (found : Option Data) → found ≡ Some x → found ≡ Some y → x ≡ y
values_are_one x y found e f = cc

-- `info` is spelled by the same bytes
pub info_bytes_are_kept : (root : Data) (tracker : Option (List ℕ)) (start end start' end' : ℕ)
    → span_of (codes "info") root ≡ Some (start, end)
    → span_of (codes "info") (tracker_edited root tracker) ≡ Some (start', end')
    → take (end' - start') (drop start' (spelling (tracker_edited root tracker)))
    ≡ take (end - start) (drop start (spelling root))
info_bytes_are_kept root tracker start end start' end' at at' =
    let before = span_of_a_value (codes "info") root start end at in
    let after = span_of_a_value (codes "info") (tracker_edited root tracker) start' end' at' in
    let same : after.0 ≡ before.0 =
    values_are_one after.0 before.0 (value_of (codes "info") (tracker_edited root tracker)) after.1
    (info_is_kept root tracker ∙ before.1) in
    after.2.spelled ∙ ap spelling same ∙ sym before.2.spelled
