-- What the reader gives, step by step, for the clauses of its private functions: a value and the bytes after it, or
-- a fault and the bytes from it on.
use Rattle.std.specs.Prelude.{ℕ, zero, suc, ◌+◌, ◌-◌, ◌*◌, ◌^◌, ℤ, pos, neg_ℤ, List, [], ◌∷◌, length, take, drop, Bool}
use Rattle.std.specs.Prelude.{true, false, not, ◌&&◌, ◌==◌, nat_lt, nat_le, if◌then◌else◌, Option, Some, None, Result}
use Rattle.std.specs.Prelude.{Ok, Err, ◌≡◌}
use Rattle.std.specs.Char.{is_ascii_digit}
use Rattle.std.specs.Cmp.Lexicographic.{slice_cmp}
use Rattle.std.specs.List.{prefix_len, list_all}
use Rattle.std.specs.Ordering.{nat_cmp, is_lt}
use Rattle.tor_bencode.specs.Data.{Data, integer, string, list, dictionary, Items, no_items, item, Pairs, no_pairs}
use Rattle.tor_bencode.specs.Data.{pair}
use Rattle.tor_bencode.specs.Fault.{is_integer_byte}
use Rattle.tor_bencode.specs.declared.fault.Fault.{Fault}
use Rattle.tor_bencode.specs.declared.fault.Fault.TheVariants.{Truncated, BadByte, BadInteger, IntegerRange, BadLength}
use Rattle.tor_bencode.specs.declared.fault.Fault.TheVariants.{KeyNotBytes, KeyOrder, TooDeep, Trailing}
use Rattle.tor_bencode.specs.declared.stop.Stop.{Stop}
use Rattle.tor_bencode.specs.declared.stop.Stop.TheVariants as stops
use Rattle.tor_bencode.specs.Marks.{colon, digit_zero, letter_d, letter_e, letter_i, letter_l, minus}
use Rattle.tor_bencode.specs.declared.TheConstants.{MAX_NESTING}

abbrev pub Reading : Type 0 → Type 0
Reading A = Result (A × List ℕ) (Fault × List ℕ)

infixl 10 ◌>>=◌
abbrev pub ◌>>=◌ : {A B : Type 0} → Result A (Fault × List ℕ) → (A → Result B (Fault × List ℕ))
    → Result B (Fault × List ℕ)
(Ok x) >>= f = f x
(Err e) >>= f = Err e

-- What a function returned, seen by `seen`, is what reading gives, unless memory ran out.
abbrev pub Stops : {Y : Type 0} → Stop → Result Y (Fault × List ℕ) → Type 0
Stops stops.Memory read = Unit {0}
Stops (stops.At fault rest) read = read ≡ Err (fault, rest.now)

abbrev pub Gives : {X Y : Type 0} → (X → Y) → Result X Stop → Result Y (Fault × List ℕ) → Type 0
Gives seen (Ok x) read = read ≡ Ok (seen x)
Gives seen (Err stop) read = Stops stop read

-- the number that digits stand for, after the number so far
abbrev pub number_after : ℕ → List ℕ → ℕ
number_after n [] = n
number_after n (c ∷ cs) = number_after (n * 10 + (c - digit_zero)) cs

unfoldable pub number : List ℕ → ℕ
number digits = number_after 0 digits

-- digits without a zero in front
abbrev pub is_shortest : List ℕ → Bool
is_shortest [] = false
is_shortest (c ∷ []) = true
is_shortest (c ∷ d ∷ cs) = not (c == digit_zero)

-- the digits of a negative number
abbrev pub is_positive : List ℕ → Bool
is_positive [] = false
is_positive (c ∷ cs) = not (c == digit_zero) && list_all is_ascii_digit (c ∷ cs)

unfoldable pub is_integer : List ℕ → Bool
is_integer [] = false
is_integer (c ∷ cs) = if c == minus then is_positive cs else (list_all is_ascii_digit (c ∷ cs) && is_shortest (c ∷ cs))

abbrev pub negative_of : ℕ → Option ℤ
negative_of n = if nat_le n (2 ^ 63) then Some (neg_ℤ (pos n)) else None

abbrev pub positive_of : ℕ → Option ℤ
positive_of n = if nat_lt n (2 ^ 63) then Some (pos n) else None

-- the integer that the digits stand for, where 64 bits hold it
unfoldable pub integer_of : List ℕ → Option ℤ
integer_of [] = None
integer_of (c ∷ cs) = if c == minus then negative_of (number cs) else positive_of (number (c ∷ cs))

-- `run` is the longest front of digits, and then come the bytes of the string
abbrev pub string_after : List ℕ → List ℕ → List ℕ → Reading (List ℕ)
string_after bytes run [] = Err (Truncated, [])
string_after bytes run (c ∷ more) =
    if (c == colon) && is_shortest run
    then (if nat_le (number run) (length more)
    then Ok (take (number run) more, drop (number run) more)
    else Err (Truncated, []))
    else Err (BadLength, bytes)

unfoldable pub string_at : List ℕ → Reading (List ℕ)
string_at bytes =
    string_after bytes (take (prefix_len is_ascii_digit bytes) bytes) (drop (prefix_len is_ascii_digit bytes) bytes)

abbrev pub in_range : List ℕ → List ℕ → Option ℤ → Reading ℤ
in_range bytes more None = Err (IntegerRange, bytes)
in_range bytes more (Some n) = Ok (n, more)

abbrev pub integer_after : List ℕ → List ℕ → List ℕ → Reading ℤ
integer_after bytes run [] = Err (Truncated, [])
integer_after bytes run (c ∷ more) =
    if (c == letter_e) && is_integer run then in_range bytes more (integer_of run) else Err (BadInteger, bytes)

-- `bytes` begins with the `i`, and `rest` is what follows it
unfoldable pub integer_at : List ℕ → List ℕ → Reading ℤ
integer_at bytes rest =
    integer_after bytes (take (prefix_len is_integer_byte rest) rest) (drop (prefix_len is_integer_byte rest) rest)

-- the items up to the `e`; a length of the bytes is fuel enough
abbrev pub items_at : (List ℕ → Reading Data) → ℕ → List ℕ → Reading Items
items_at read zero bytes = Err (Truncated, [])
items_at read (suc fuel) [] = Err (Truncated, [])
items_at read (suc fuel) (c ∷ rest) =
    if c == letter_e
    then Ok (no_items, rest)
    else (read (c ∷ rest) >>= λ first. items_at read fuel first.1 >>= λ others. Ok (item first.0 others.0, others.1))

-- a key comes after the one before
abbrev pub follows : Option (List ℕ) → List ℕ → Bool
follows None key = true
follows (Some last) key = is_lt (slice_cmp nat_cmp last key)

abbrev pub pairs_at : (List ℕ → Reading Data) → ℕ → Option (List ℕ) → List ℕ → Reading Pairs
pairs_at read zero last bytes = Err (Truncated, [])
pairs_at read (suc fuel) last [] = Err (Truncated, [])
pairs_at read (suc fuel) last (c ∷ rest) =
    if c == letter_e
    then Ok (no_pairs, rest)
    else (if is_ascii_digit c
    then (string_at (c ∷ rest) >>= λ key.
    if follows last key.0
    then (read key.1 >>= λ value. pairs_at read fuel (Some key.0) value.1 >>= λ others.
    Ok (pair key.0 value.0 others.0, others.1))
    else Err (KeyOrder, c ∷ rest))
    else Err (KeyNotBytes, c ∷ rest))

-- what is read inside, if a list or dictionary may still be opened
abbrev pub opened : {A : Type 0} → Option (List ℕ → Reading Data) → List ℕ → ((List ℕ → Reading Data) → Reading A)
    → Reading A
opened None bytes inside = Err (TooDeep, bytes)
opened (Some read) bytes inside = inside read

abbrev pub value_with : Option (List ℕ → Reading Data) → List ℕ → Reading Data
value_with nested [] = Err (Truncated, [])
value_with nested (c ∷ rest) =
    if c == letter_i then (integer_at (c ∷ rest) rest >>= λ n. Ok (integer n.0, n.1))
    else (if is_ascii_digit c then (string_at (c ∷ rest) >>= λ text. Ok (string text.0, text.1))
    else (if c == letter_l then (opened nested (c ∷ rest) (λ read. items_at read (length rest) rest) >>= λ items.
    Ok (list items.0, items.1))
    else (if c == letter_d then (opened nested (c ∷ rest) (λ read. pairs_at read (length rest) None rest) >>= λ pairs.
    Ok (dictionary pairs.0, pairs.1))
    else Err (BadByte, c ∷ rest))))

-- a value inside, where so many lists and dictionaries may still be opened
unfoldable pub nested_at : ℕ → Option (List ℕ → Reading Data)
nested_at zero = None
nested_at (suc room) = Some (value_with (nested_at room))

-- a value, where so many may still be opened
unfoldable pub value_at : ℕ → List ℕ → Reading Data
value_at room bytes = value_with (nested_at room) bytes

-- all of the bytes
abbrev pub last_of : Data × List ℕ → Result Data (Fault × List ℕ)
last_of (d, []) = Ok d
last_of (d, c ∷ rest) = Err (Trailing, c ∷ rest)

unfoldable pub whole : List ℕ → Result Data (Fault × List ℕ)
whole bytes = value_at MAX_NESTING bytes >>= last_of
