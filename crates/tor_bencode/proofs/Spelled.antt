-- How spellings begin, and how they are put together.
use Rattle.tor_bencode.proofs.Names.{◌≤◌, ◌≡◌, ◌≢◌, ℕ, ◌<◌, List, [], ◌∷◌, ◌++◌, length, get_or, true, sym, ap, subst}
use Rattle.tor_bencode.proofs.Names.{append_assoc, arith, is_ascii_digit, list_all, and_parts, false≢true}
use Rattle.tor_bencode.proofs.Names.{length-append, Data, integer, string, list, dictionary, is_shortest, base_ten}
use Rattle.tor_bencode.proofs.Names.{spelling, string_spelling, may_take_memory, append-nil, refl, false, ℤ}
use Rattle.tor_bencode.proofs.Numerals.{digit_from_range, digit_range, all_digits-base_ten, is_shortest-base_ten}

-- the bytes begin with a digit
pub record StartsWithDigit (bytes : List ℕ) : Type 0 where
  pub some : 0 < length bytes
  pub digit : is_ascii_digit (get_or bytes 0 0) ≡ true

pub starts_within : (bytes : List ℕ) → 0 < length bytes → 48 ≤ get_or bytes 0 0 → get_or bytes 0 0 ≤ 57
    → StartsWithDigit bytes
starts_within bytes some low high = record { some = some; digit = digit_from_range (get_or bytes 0 0) low high }

first_digit : (run rest : List ℕ) → list_all is_ascii_digit run ≡ true → is_shortest run ≡ true
    → StartsWithDigit (run ++ rest)
first_digit [] rest digits shortest = absurd (false≢true shortest)
first_digit (c ∷ cs) rest digits shortest =
    record { some = omega arith; digit = (and_parts (is_ascii_digit c) (list_all is_ascii_digit cs) digits).0 }

pub base_ten-starts : (n : ℕ) (rest : List ℕ) → StartsWithDigit (base_ten n ++ rest)
base_ten-starts n rest = first_digit (base_ten n) rest (all_digits-base_ten n) (is_shortest-base_ten n)

pub string-starts : (s rest : List ℕ) → StartsWithDigit (string_spelling s ++ rest)
string-starts s rest =
    let same : string_spelling s ++ rest ≡ base_ten (length s) ++ 58 ∷ (s ++ rest) = simp append_assoc in
    subst StartsWithDigit (sym same) (base_ten-starts (length s) _)

-- the bytes begin with a byte that ends no list
pub record StartsValue (bytes : List ℕ) : Type 0 where
  pub some : 0 < length bytes
  pub no_end : get_or bytes 0 0 ≢ 101

pub starts_value : (bytes : List ℕ) → StartsWithDigit bytes → StartsValue bytes
starts_value bytes h =
    let range = digit_range (get_or bytes 0 0) h.digit in record { some = h.some; no_end = λ e. absurd (omega arith) }

pub spelling-starts : (d : Data) (rest : List ℕ) → StartsValue (spelling d ++ rest)
spelling-starts (integer n) rest = record { some = omega arith; no_end = λ e. absurd (omega arith) }
spelling-starts (string s) rest = starts_value _ (string-starts s rest)
spelling-starts (list items) rest = record { some = omega arith; no_end = λ e. absurd (omega arith) }
spelling-starts (dictionary pairs) rest = record { some = omega arith; no_end = λ e. absurd (omega arith) }

-- something is spelled, so what follows is shorter
pub shorter-spelling : (d : Data) (bytes rest : List ℕ) → bytes ≡ spelling d ++ rest → length rest < length bytes
shorter-spelling d bytes rest is =
    let h = spelling-starts d [] in
    omega (arith, ap length is, length-append (spelling d) rest, length-append (spelling d) [], h.some)

pub shorter-string : (s bytes rest : List ℕ) → bytes ≡ string_spelling s ++ rest → length rest < length bytes
shorter-string s bytes rest is =
    let h = string-starts s [] in
    omega (arith, ap length is, length-append (string_spelling s) rest, length-append (string_spelling s) [], h.some)

-- one more pair in front
pub pair_spelled : (key value pairs rest : List ℕ) → (key ++ value ++ pairs) ++ rest ≡ key ++ (value ++ (pairs ++ rest))
pair_spelled key value pairs rest = simp append_assoc

digit_takes : (bytes : List ℕ) → StartsWithDigit bytes → may_take_memory bytes ≡ true
digit_takes [] h = absurd (omega (arith, h.some))
digit_takes (c ∷ rest) h = rw h.digit refl

-- what is no integer takes memory
pub takes_memory : (bytes : List ℕ) (d : Data) → bytes ≡ spelling d → ((n : ℤ) → d ≡ integer n → false ≡ true)
    → may_take_memory bytes ≡ true
takes_memory bytes (integer n) is other = absurd (false≢true (other n refl))
takes_memory bytes (string s) is other =
    subst (λ bs. may_take_memory bs ≡ true) (sym is)
    (digit_takes (string_spelling s) (subst StartsWithDigit (append-nil (string_spelling s)) (string-starts s [])))
takes_memory bytes (list items) is other = subst (λ bs. may_take_memory bs ≡ true) (sym is) refl
takes_memory bytes (dictionary pairs) is other = subst (λ bs. may_take_memory bs ≡ true) (sym is) refl
