-- What is wrong with bytes that spell no lawful tree: the code and the offset of the first fault in reading order.
-- What stands before a fault is lawful as far as it goes. A run of digits that meets the end of the bytes is cut off,
-- whatever the run.
use Rattle.std.specs.Prelude.{◌≡◌, ◌≢◌, ◌<◌, ◌+◌, ◌⊎◌, ℕ, suc, ℤ, List, [], ◌∷◌, ◌++◌, length, codes, Bool, false, ◌==◌}
use Rattle.std.specs.Prelude.{◌||◌, IsTrue, FitsSigned, Option, None, Some}
use Rattle.std.specs.Char.{is_ascii_digit}
use Rattle.std.specs.Cmp.Lexicographic.{slice_cmp}
use Rattle.std.specs.Int.{w64}
use Rattle.std.specs.List.{list_all}
use Rattle.std.specs.Ordering.{nat_cmp}
use Rattle.std.specs.declared.cmp.Ordering.TheVariants.{Less}
use Rattle.tor_bencode.specs.Data.{Data, integer, Items, Pairs, no_pairs, pair, keys_of}
use Rattle.tor_bencode.specs.Lawful.{AreRising, IsLawful, ItemsAreLawfulWithin, PairsAreLawfulWithin}
use Rattle.tor_bencode.specs.Spelling.{base_ten, signed_base_ten, spelling, string_spelling, items_spelling}
use Rattle.tor_bencode.specs.Spelling.{pairs_spelling}
use Rattle.tor_bencode.specs.declared.error.BenError.{BenError}
use Rattle.tor_bencode.specs.declared.error.BenError.TheVariants as errors
use Rattle.tor_bencode.specs.declared.fault.Fault.{Fault}
use Rattle.tor_bencode.specs.declared.fault.Fault.TheVariants.{Truncated, BadByte, BadInteger, IntegerRange, BadLength}
use Rattle.tor_bencode.specs.declared.fault.Fault.TheVariants.{KeyNotBytes, KeyOrder, TooDeep, Trailing}
use Rattle.tor_bencode.specs.Marks.{colon, letter_d, letter_e, letter_i, letter_l, minus}
use Rattle.tor_bencode.specs.declared.TheConstants.{MAX_NESTING}

-- digits and minus signs
abbrev pub is_integer_byte : ℕ → Bool
is_integer_byte c = (c == minus) || is_ascii_digit c

-- the bytes begin with this one
abbrev pub Begins : ℕ → List ℕ → Type 0
Begins c bytes = (rest : List ℕ) × (bytes ≡ c ∷ rest)

-- a run of bytes that pass goes on to the end
abbrev pub RunsToEnd : (ℕ → Bool) → List ℕ → Type 0
RunsToEnd passes bytes = IsTrue (list_all passes bytes)

-- after a run of bytes that pass comes the byte `next`, which does not
pub record Runs (passes : ℕ → Bool) (bytes run : List ℕ) (next : ℕ) (more : List ℕ) : Type 0 where
  pub all : IsTrue (list_all passes run)
  pub stops : ¬ IsTrue (passes next)
  pub whole : bytes ≡ run ++ next ∷ more

-- the bytes begin with a digit
abbrev pub BeginsWithDigit : List ℕ → Type 0
BeginsWithDigit bytes = (c : ℕ) × (rest : List ℕ) × (bytes ≡ c ∷ rest) × IsTrue (is_ascii_digit c)

-- A byte string is cut off: in its length, or since fewer bytes follow than the length says.
abbrev pub IsCutString : List ℕ → Type 0
IsCutString bytes = (BeginsWithDigit bytes × RunsToEnd is_ascii_digit bytes)
    ⊎ ((n : ℕ) × (more : List ℕ) × (bytes ≡ base_ten n ++ codes ":" ++ more) × (length more < n))

-- A length does not end with a colon, or it is no number's shortest digits.
abbrev pub HasBadLength : List ℕ → Type 0
HasBadLength bytes = BeginsWithDigit bytes × (run : List ℕ) × (next : ℕ) × (more : List ℕ)
    × Runs is_ascii_digit bytes run next more × ((next ≢ colon) ⊎ ((n : ℕ) → run ≢ base_ten n))

-- an integer is cut off
abbrev pub IsCutInteger : List ℕ → Type 0
IsCutInteger bytes = (rest : List ℕ) × (bytes ≡ codes "i" ++ rest) × RunsToEnd is_integer_byte rest

-- An integer does not end with an `e`, or it is no number's shortest digits: no zero in front, no negative zero.
abbrev pub IsBadInteger : List ℕ → Type 0
IsBadInteger bytes = (rest : List ℕ) × (run : List ℕ) × (next : ℕ) × (more : List ℕ) × (bytes ≡ codes "i" ++ rest)
    × Runs is_integer_byte rest run next more × ((next ≢ letter_e) ⊎ ((n : ℤ) → run ≢ signed_base_ten n))

-- an integer is spelled well, and 64 bits do not hold it
abbrev pub IsTooLarge : List ℕ → Type 0
IsTooLarge bytes = (n : ℤ) × (more : List ℕ) × (bytes ≡ spelling (integer n) ++ more) × ¬ FitsSigned w64 n

-- no value begins so
abbrev pub BeginsNoValue : List ℕ → Type 0
BeginsNoValue bytes = (c : ℕ) × (rest : List ℕ) × (bytes ≡ c ∷ rest) × ¬ IsTrue (is_ascii_digit c)
    × (c ≢ letter_i) × (c ≢ letter_l) × (c ≢ letter_d)

-- A byte string, a list or a dictionary begins so. To read anything else takes no memory.
abbrev pub may_take_memory : List ℕ → Bool
may_take_memory [] = false
may_take_memory (c ∷ rest) = is_ascii_digit c || ((c == letter_l) || (c == letter_d))

-- What is wrong where a value is expected, and so many lists and dictionaries may still be opened. The last list has
-- the bytes from the fault on: none where they end too early.
abbrev pub IsBadValue : ℕ → List ℕ → Fault → List ℕ → Type 0
IsBadValue room bytes Truncated from = ((bytes ≡ []) ⊎ (IsCutInteger bytes ⊎ IsCutString bytes)) × (from ≡ [])
IsBadValue room bytes BadByte from = BeginsNoValue bytes × (from ≡ bytes)
IsBadValue room bytes BadInteger from = IsBadInteger bytes × (from ≡ bytes)
IsBadValue room bytes IntegerRange from = IsTooLarge bytes × (from ≡ bytes)
IsBadValue room bytes BadLength from = HasBadLength bytes × (from ≡ bytes)
IsBadValue room bytes TooDeep from = (room ≡ 0) × (Begins letter_l bytes ⊎ Begins letter_d bytes) × (from ≡ bytes)
IsBadValue room bytes KeyNotBytes from = ⊥
IsBadValue room bytes KeyOrder from = ⊥
IsBadValue room bytes Trailing from = ⊥

-- the last key, if there is one
abbrev pub last_key : Pairs → Option (List ℕ)
last_key no_pairs = None
last_key (pair key d no_pairs) = Some key
last_key (pair key d (pair next e pairs)) = last_key (pair next e pairs)

-- the key does not come after the last one
abbrev pub IsOutOfOrder : Option (List ℕ) → List ℕ → Type 0
IsOutOfOrder None key = ⊥
IsOutOfOrder (Some last) key = slice_cmp nat_cmp last key ≢ Less

-- what is wrong where a key is expected
abbrev pub IsBadKey : Option (List ℕ) → List ℕ → Fault → List ℕ → Type 0
IsBadKey last bytes Truncated from = ((bytes ≡ []) ⊎ IsCutString bytes) × (from ≡ [])
IsBadKey last bytes BadLength from = HasBadLength bytes × (from ≡ bytes)
IsBadKey last bytes KeyNotBytes from = (c : ℕ) × (rest : List ℕ) × (bytes ≡ c ∷ rest)
    × ¬ IsTrue (is_ascii_digit c) × (c ≢ letter_e) × (from ≡ bytes)
IsBadKey last bytes KeyOrder from = (key : List ℕ) × (rest : List ℕ) × (bytes ≡ string_spelling key ++ rest)
    × IsOutOfOrder last key × (from ≡ bytes)
IsBadKey last bytes BadByte from = ⊥
IsBadKey last bytes BadInteger from = ⊥
IsBadKey last bytes IntegerRange from = ⊥
IsBadKey last bytes TooDeep from = ⊥
IsBadKey last bytes Trailing from = ⊥

-- Where a value is expected and `room` lists and dictionaries may still be opened, the bytes have this fault: at once,
-- or in a list after lawful items, or in a dictionary after lawful pairs, at a key or in its value.
pub data IsFaultIn : ℕ → List ℕ → Fault → List ℕ → Type 0 where
  at_value : {room : ℕ} {bytes : List ℕ} {fault : Fault} {from : List ℕ} → IsBadValue room bytes fault from
      → IsFaultIn room bytes fault from
  in_list : {room : ℕ} {bytes : List ℕ} {fault : Fault} {from : List ℕ} (items : Items) (rest : List ℕ)
      → bytes ≡ codes "l" ++ items_spelling items ++ rest → ItemsAreLawfulWithin room items → ¬ Begins letter_e rest
      → IsFaultIn room rest fault from → IsFaultIn (suc room) bytes fault from
  at_key : {room : ℕ} {bytes : List ℕ} {fault : Fault} {from : List ℕ} (pairs : Pairs) (rest : List ℕ)
      → bytes ≡ codes "d" ++ pairs_spelling pairs ++ rest → AreRising (keys_of pairs) → PairsAreLawfulWithin room pairs
      → IsBadKey (last_key pairs) rest fault from → IsFaultIn (suc room) bytes fault from
  in_pair : {room : ℕ} {bytes : List ℕ} {fault : Fault} {from : List ℕ} (pairs : Pairs) (key rest : List ℕ)
      → bytes ≡ codes "d" ++ pairs_spelling pairs ++ string_spelling key ++ rest
      → AreRising (keys_of pairs ++ key ∷ []) → PairsAreLawfulWithin room pairs
      → IsFaultIn room rest fault from → IsFaultIn (suc room) bytes fault from

-- a byte follows a lawful tree
pub record IsTrailing (bytes : List ℕ) (fault : Fault) (from : List ℕ) : Type 0 where
  pub code : fault ≡ Trailing
  pub tree : Data
  pub lawful : IsLawful tree
  pub whole : bytes ≡ spelling tree ++ from
  pub more : 0 < length from

-- the bytes have this fault, the first in reading order, at this offset (BEP 3, "bencoding"; profile)
abbrev pub IsFaultAt : List ℕ → Fault → ℕ → Type 0
IsFaultAt bytes fault offset = (from : List ℕ) × (offset + length from ≡ length bytes)
    × (IsFaultIn MAX_NESTING bytes fault from ⊎ IsTrailing bytes fault from)

-- the same, as an error tells it; want of memory is no fault of the bytes
abbrev pub IsRefusalOf : List ℕ → BenError → Type 0
IsRefusalOf bytes (errors.Refused fault offset) = IsFaultAt bytes fault offset
IsRefusalOf bytes errors.Memory = Unit {0}
