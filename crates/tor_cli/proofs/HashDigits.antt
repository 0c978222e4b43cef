-- Hashes in hexadecimal digits.
use Rattle.std.proofs.Common.{◌≡◌, ◌<◌, ℕ, List, length, map, Result, Ok, Err, inl, inr}
use Rattle.std.proofs.Common.{refl, sym, ◌∙◌, ap, subst, arith}
use Rattle.std.specs.Char.{to_ascii_lowercase}
use Rattle.std.specs.List.{All}
use Rattle.std.specs.Option.{IfSome}
use Rattle.std.specs.Result.{result_ok}
use Rattle.std.proofs.lemmas.Bool.{cases_lt}
use Rattle.std.proofs.lemmas.List.{get_or_default, get_or_past, length-map}
use Rattle.hex.specs.Hex.{IsBytes, decode_of, decode_sized, encode_lower, lower_digits}
use Rattle.hex.proofs.HexLemmas.{decode_of-encode_lower, decode_of-ok, decode_sized-ok, decode_sized-twice}
use Rattle.hex.proofs.HexLemmas.{length-encode_with}
use Rattle.hex.specs.declared.error.FromHexError.{FromHexError}
use Rattle.tor_cli.specs.proof.ProofText.{IsHash}

IsBytes-hash : (hash : List ℕ) → IsHash hash → IsBytes hash
IsBytes-hash hash h i =
    elim (cases_lt i (length hash)) [
      | inl within ↦ h.bytes i 0 within
      | inr past ↦
          let none = get_or_past hash i 0 past in omega (arith, none)
    ]

-- a hash has 64 digits
pub length-digits : (hash : List ℕ) → length hash ≡ 32 → length (encode_lower hash) ≡ 64
length-digits hash size = omega (arith, length-encode_with lower_digits hash)

-- in either case
pub length-lowered : (hash text : List ℕ) → IsHash hash → encode_lower hash ≡ map to_ascii_lowercase text
    → length text ≡ 64
length-lowered hash text h same =
    sym (length-map text to_ascii_lowercase) ∙ sym (ap length same) ∙ length-digits hash h.size

decode_sized-even : (text : List ℕ) → length text ≡ 64 → decode_sized text 32 ≡ decode_of text
decode_sized-even text size = rw size refl

-- which are decoded to it
pub digits_decoded : (hash text : List ℕ) → IsHash hash → encode_lower hash ≡ text → decode_sized text 32 ≡ Ok hash
digits_decoded hash text h same =
    subst (λ (xs : List ℕ). decode_sized xs 32 ≡ Ok hash) same
    (decode_sized-even (encode_lower hash) (length-digits hash h.size)
    ∙ decode_of-encode_lower hash (IsBytes-hash hash h))

pub All-bytes : (hash : List ℕ) → IsBytes hash → All (λ byte. byte < 256) hash
All-bytes hash bytes i d within = rw (get_or_default hash i d 0 within) (bytes i)

-- what is decoded is a hash
hash_decoded : (text hash : List ℕ) → decode_sized text 32 ≡ Ok hash → IsHash hash
hash_decoded text hash decoded =
    let long = decode_sized-ok text 32 hash decoded in
    let ok = decode_of-ok text hash (sym (decode_sized-twice text 32 long) ∙ decoded) in
    record { size = omega (arith, long, ok.2); bytes = All-bytes hash ok.3 }

pub if_decoded : (text : List ℕ) (result : Result (List ℕ) FromHexError) → result ≡ decode_sized text 32
    → IfSome (result_ok result) IsHash
if_decoded text (Ok hash) is = hash_decoded text hash (sym is)
if_decoded text (Err error) is = tt
