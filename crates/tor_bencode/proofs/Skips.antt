-- What follows a value, and what follows values up to their end.
use Rattle.tor_bencode.proofs.Names.{◌≡◌, ◌≢◌, ℕ, ◌-◌, ◌≤◌, ◌<◌, List, [], ◌∷◌, ◌++◌, length, get_or, take, drop, true}
use Rattle.tor_bencode.proofs.Names.{◌==◌, Ok, Err, refl, sym, ap, ◌∙◌, subst, append_assoc, arith, inl, inr, ◌⊎◌}
use Rattle.tor_bencode.proofs.Names.{is_ascii_digit, true≢false, cases_Bool, nat_tests, take_all, Data, integer, string}
use Rattle.tor_bencode.proofs.Names.{list, dictionary, Items, no_items, item, Pairs, no_pairs, pair, IsLawfulWithin}
use Rattle.tor_bencode.proofs.Names.{ItemsAreLawfulWithin, PairsAreLawfulWithin, ◌>>=◌, Reading, Stops, string_at}
use Rattle.tor_bencode.proofs.Names.{integer_at, value_at, spelling, string_spelling, items_spelling, pairs_spelling}
use Rattle.tor_bencode.proofs.Names.{Fault, Stop}
use Rattle.tor_bencode.proofs.Lawfulness.{lawful-string, lawful-list, lawful-dictionary, lawful-item, lawful-pair}
use Rattle.tor_bencode.proofs.Lawfulness.{lawful-no_items}
use Rattle.tor_bencode.proofs.Values.{value_integer, value_string, value_too_deep}
use Rattle.tor_bencode.proofs.Numerals.{digit_range}
use Rattle.tor_bencode.proofs.ReadBack.{value_at-spelling}
use Rattle.tor_bencode.proofs.Spelled.{StartsWithDigit, string-starts, spelling-starts}
use Rattle.tor_bencode.specs.declared.stop.Stop.TheVariants as stops

abbrev ok : {A : Type 0} → A × List ℕ → Reading A
ok x = Ok x

pub read_is : {A : Type 0} (x y : A × List ℕ) (r : Reading A) → r ≡ Ok x → r ≡ Ok y → x ≡ y
read_is x y r e f = cc

pub not_both : {A : Type 0} (x : A × List ℕ) (y : Fault × List ℕ) (r : Reading A) → r ≡ Ok x → r ≡ Err y → ⊥
not_both x y r e f = cc

-- a reader that stops at a fault did not read
pub no_stop : {A : Type 0} (stop : Stop) (r : Reading A) (x : A × List ℕ) → stop ≢ stops.Memory → Stops stop r
    → r ≡ Ok x
    → ⊥
no_stop stops.Memory r x other h e = other refl
no_stop (stops.At fault at) r x other h e = not_both x (fault, at.now) r e h

bound : {A B : Type 0} (r : Reading A) (f : A × List ℕ → Reading B) (x : B × List ℕ) → (r >>= f) ≡ Ok x
    → (y : A × List ℕ) × (r ≡ Ok y)
bound (Ok y) f x e = (y, refl)
bound (Err y) f x e = absurd cc

module _ (d : Data) (room : ℕ) (bytes after : List ℕ) (lawful : IsLawfulWithin room d)
    (is : bytes ≡ spelling d ++ after) where
  pub read : value_at room bytes ≡ Ok (d, after)
  read = ap (value_at room) is ∙ value_at-spelling d room after lawful

  pub skip_integer : (some : 0 < length bytes) (head : get_or bytes 0 0 ≡ 105) (x : _ × List ℕ)
      → integer_at bytes (take (length bytes - 1) (drop 1 bytes)) ≡ Ok x → x.1 ≡ after
  skip_integer some head x e =
      ap (λ p. p.1)
      (read_is (integer x.0, x.1) (d, after) (value_at room bytes)
      (value_integer room bytes some head ∙ ap (λ r. r >>= λ n. Ok (integer n.0, n.1)) e) read)

  pub skip_no_integer : (some : 0 < length bytes) (head : get_or bytes 0 0 ≡ 105) (stop : Stop) → stop ≢ stops.Memory
      → Stops stop (integer_at bytes (take (length bytes - 1) (drop 1 bytes))) → ⊥
  skip_no_integer some head stop other h =
      let y =
      bound (integer_at bytes (take (length bytes - 1) (drop 1 bytes))) _ (d, after)
      (sym (value_integer room bytes some head) ∙ read) in no_stop stop _ y.0 other h y.1

  pub skip_string : (some : 0 < length bytes) (digit : is_ascii_digit (get_or bytes 0 0) ≡ true) (x : List ℕ × List ℕ)
      → string_at bytes ≡ Ok x → x.1 ≡ after
  skip_string some digit x e =
      ap (λ p. p.1)
      (read_is (string x.0, x.1) (d, after) (value_at room bytes)
      (value_string room bytes some digit ∙ ap (λ r. r >>= λ n. Ok (string n.0, n.1)) e) read)

  pub skip_no_string : (some : 0 < length bytes) (digit : is_ascii_digit (get_or bytes 0 0) ≡ true) (stop : Stop)
      → stop ≢ stops.Memory → Stops stop (string_at bytes) → ⊥
  skip_no_string some digit stop other h =
      let y =
      bound (string_at bytes) _ (d, after)
      (sym (value_string room bytes some digit) ∙ read) in no_stop stop _ y.0 other h y.1

  pub skip_too_deep : room ≡ 0 → (some : 0 < length bytes) → ((get_or bytes 0 0 ≡ 108) ⊎ (get_or bytes 0 0 ≡ 100)) → ⊥
  skip_too_deep none some head =
      not_both (d, after) _ (value_at room bytes) read (value_too_deep room bytes some none head)

-- the keys of pairs are values too
abbrev pub as_items : Pairs → Items
as_items no_pairs = no_items
as_items (pair key d pairs) = item (string key) (item d (as_items pairs))

as_items-spelling : (pairs : Pairs) → pairs_spelling pairs ≡ items_spelling (as_items pairs)
as_items-spelling no_pairs = refl
as_items-spelling (pair key d pairs) =
    append_assoc (string_spelling key) (spelling d) (pairs_spelling pairs)
    ∙ ap (λ bs. string_spelling key ++ (spelling d ++ bs)) (as_items-spelling pairs)

as_items-lawful : (room : ℕ) (pairs : Pairs) → PairsAreLawfulWithin room pairs
    → ItemsAreLawfulWithin room (as_items pairs)
as_items-lawful room no_pairs lawful = lawful-no_items room
as_items-lawful room (pair key d pairs) lawful =
    let parts = (lawful-pair room key d pairs).0 lawful in
    (lawful-item room (string key) (item d (as_items pairs))).1
    (lawful-string room key, (lawful-item room d (as_items pairs)).1 (parts.0, as_items-lawful room pairs parts.1))

pub tail-is : (bytes : List ℕ) (c : ℕ) (rest : List ℕ) → bytes ≡ c ∷ rest
    → take (length bytes - 1) (drop 1 bytes) ≡ rest
tail-is bytes c rest is = ap (λ bs. take (length bs - 1) (drop 1 bs)) is ∙ take_all _ rest (omega arith)

pub head-is : (bytes : List ℕ) (c : ℕ) (rest : List ℕ) → bytes ≡ c ∷ rest → get_or bytes 0 0 ≡ c
head-is bytes c rest is = ap (λ bs. get_or bs 0 0) is

pub string_head : (s bytes after : List ℕ) → bytes ≡ string_spelling s ++ after
    → (48 ≤ get_or bytes 0 0) × (get_or bytes 0 0 ≤ 57)
string_head s bytes after is =
    digit_range (get_or bytes 0 0) (subst StartsWithDigit (sym is) (string-starts s after)).digit

-- what is open holds values up to its end
pub opened_values : (d : Data) (room : ℕ) (bytes after : List ℕ) → IsLawfulWithin room d → bytes ≡ spelling d ++ after
    → ((get_or bytes 0 0 ≡ 108) ⊎ (get_or bytes 0 0 ≡ 100))
    → (items : Items) × ItemsAreLawfulWithin (room - 1) items
    × (take (length bytes - 1) (drop 1 bytes) ≡ items_spelling items ++ 101 ∷ after)
opened_values (integer n) room bytes after lawful is head = absurd (omega (arith, head-is bytes 105 _ is, head))
opened_values (string s) room bytes after lawful is head = absurd (omega (arith, string_head s bytes after is, head))
opened_values (list items) room bytes after lawful is head = (
  items,
  ((lawful-list room items).0 lawful).1,
  tail-is bytes 108 _ is ∙ append_assoc (items_spelling items) (101 ∷ []) after,
)
opened_values (dictionary pairs) room bytes after lawful is head = (
  as_items pairs,
  as_items-lawful (room - 1) pairs ((lawful-dictionary room pairs).0 lawful).2,
  tail-is bytes 100 _ is ∙ append_assoc (pairs_spelling pairs) (101 ∷ []) after
      ∙ ap (λ bs. bs ++ 101 ∷ after) (as_items-spelling pairs),
)

-- the values that are left where something other than the end stands
pub next_item : (left : Items) (rest after : List ℕ) → rest ≡ items_spelling left ++ 101 ∷ after → get_or rest 0 0 ≢ 101
    → (d : Data) × (others : Items) × (left ≡ item d others)
    × (rest ≡ spelling d ++ (items_spelling others ++ 101 ∷ after))
next_item no_items rest after is other = absurd (other (head-is rest 101 after is))
next_item (item d others) rest after is other =
    (d, others, refl, is ∙ append_assoc (spelling d) (items_spelling others) (101 ∷ after))

-- none are left where the end stands
pub end_after : (left : Items) (rest after : List ℕ) → rest ≡ items_spelling left ++ 101 ∷ after
    → get_or rest 0 0 ≡ 101 → take (length rest - 1) (drop 1 rest) ≡ after
end_after no_items rest after is end = tail-is rest 101 after is
end_after (item d others) rest after is end =
    let same : rest ≡ spelling d ++ (items_spelling others ++ 101 ∷ after) =
    is ∙ append_assoc (spelling d) (items_spelling others) (101 ∷ after) in
    absurd ((spelling-starts d (items_spelling others ++ 101 ∷ after)).no_end
    (ap (λ bs. get_or bs 0 0) (sym same) ∙ end))

-- each value begins with one of these
pub no_head : (d : Data) (bytes after : List ℕ) → bytes ≡ spelling d ++ after → (get_or bytes 0 0 ≢ 105)
    → (get_or bytes 0 0 ≢ 108) → (get_or bytes 0 0 ≢ 100) → (48 ≤ get_or bytes 0 0 → get_or bytes 0 0 ≤ 57 → ⊥) → ⊥
no_head (integer n) bytes after is i l d digit = i (head-is bytes 105 _ is)
no_head (string s) bytes after is i l d digit = let range = string_head s bytes after is in digit range.0 range.1
no_head (list items) bytes after is i l d digit = l (head-is bytes 108 _ is)
no_head (dictionary pairs) bytes after is i l d digit = d (head-is bytes 100 _ is)

pub not_empty : (d : Data) (bytes after : List ℕ) → bytes ≡ spelling d ++ after → length bytes ≡ 0 → ⊥
not_empty d bytes after is none = let some = (spelling-starts d after).some in absurd (omega (arith, ap length is))

pub two_heads : (h : ℕ) → (h ≢ 108 → h ≡ 100) → (h ≡ 108) ⊎ (h ≡ 100)
two_heads h other =
    elim (cases_Bool (h == 108)) [
      | inl e ↦ inl (grind (arith, nat_tests))
      | inr e ↦
          inr (other (λ is. true≢false (let t : (h == 108) ≡ true = grind (arith, nat_tests) in sym t ∙ e)))
    ]
