-- The bytes that tell the parts of a spelling apart (BEP 3, "bencoding").
use Rattle.std.specs.Prelude.{ℕ}

-- the sign of a negative integer
abbrev pub minus : ℕ
minus = 45

-- what stands between a byte string's length and its bytes
abbrev pub colon : ℕ
colon = 58

abbrev pub digit_zero : ℕ
digit_zero = 48

-- what an integer begins with
abbrev pub letter_i : ℕ
letter_i = 105

-- what a list begins with
abbrev pub letter_l : ℕ
letter_l = 108

-- what a dictionary begins with
abbrev pub letter_d : ℕ
letter_d = 100

-- what an integer, a list or a dictionary ends with
abbrev pub letter_e : ℕ
letter_e = 101
