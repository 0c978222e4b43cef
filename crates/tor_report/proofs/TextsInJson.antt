-- Bytes that are no text, in a string of JSON.
use Rattle.std.proofs.Common.{◌≡◌, ◌∙◌, refl, sym, ap, ℕ, Bool, true, false, List, [], ◌∷◌, ◌++◌}
use Rattle.std.proofs.lemmas.Grind.{flat_map-append}
use Rattle.std.proofs.lemmas.Str.{IsUtf8-from_is_utf8, is_utf8-from_IsUtf8}
use Rattle.std.specs.Prelude.{if◌then◌else◌}
use Rattle.std.specs.Str.{IsUtf8, is_utf8}
use Rattle.json.specs.Print.{escape, escape_byte as in_json}
use Rattle.tor_report.specs.Escape.{escape_byte, in_ascii, printable}
use Rattle.tor_report.specs.Spelled.{spelled}
use Rattle.tor_report.specs.declared.spelling.Spelling.TheVariants.{AsciiInJson, InJson}

ascii_in_json : (bytes : List ℕ) → spelled AsciiInJson bytes ≡ escape (in_ascii bytes)
ascii_in_json [] = refl
ascii_in_json (byte ∷ bytes) =
    ap (λ (xs : List ℕ). escape (escape_byte byte) ++ xs) (ascii_in_json bytes)
    ∙ sym (flat_map-append in_json (escape_byte byte) (in_ascii bytes))

pub text_in_json : (bytes : List ℕ) → IsUtf8 bytes → spelled InJson bytes ≡ escape (printable bytes)
text_in_json bytes text =
    ap (λ (t : Bool). escape (if t then bytes else in_ascii bytes)) (sym (is_utf8-from_IsUtf8 bytes text))

no_text : (bytes : List ℕ) (t : Bool) → (IsUtf8 bytes → ⊥) → is_utf8 bytes ≡ t → t ≡ false
no_text bytes true none is = absurd (none (IsUtf8-from_is_utf8 bytes is))
no_text bytes false none is = refl

pub bytes_in_json : (bytes : List ℕ) → (IsUtf8 bytes → ⊥) → spelled AsciiInJson bytes ≡ escape (printable bytes)
bytes_in_json bytes none =
    ascii_in_json bytes ∙ ap (λ (t : Bool). escape (if t then bytes else in_ascii bytes))
    (sym (no_text bytes (is_utf8 bytes) none refl))
