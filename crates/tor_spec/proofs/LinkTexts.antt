-- What a link has of a text.
use Rattle.std.proofs.Common.{◌≡◌, ◌<◌, ◌++◌, ◌∷◌, ◌∙◌, [], ℕ, List, true, refl, ap, ap₂, sym, Bool, false}
use Rattle.std.specs.Prelude.{if◌then◌else◌, not}
use Rattle.std.specs.List.{All}
use Rattle.std.proofs.lemmas.List.Elements.{All-head, All-tail}
use Rattle.std.proofs.lemmas.Bool.{agree_below, agree_below_at}
use Rattle.std.proofs.lemmas.List.Concat.{flat_map-cons}
use Rattle.percent_encoding.specs.AsciiSet.{should_percent_encode}
use Rattle.percent_encoding.specs.Percent.{encode_byte, percent_encode, percent_encode_byte}
use Rattle.tor_spec.specs.LinkWords.{is_unreserved, link_text}
use Rattle.tor_spec.specs.declared.link_words.TheConstants.{RESERVED}

one_of_text : ℕ → List ℕ
one_of_text byte = if is_unreserved byte then byte ∷ [] else percent_encode_byte byte

agreed : agree_below (should_percent_encode RESERVED) (λ byte. not (is_unreserved byte)) 256 ≡ true
unfolding should_percent_encode
agreed = refl

turned : (b : Bool) {A : Type 0} (x y : A) → (if not b then x else y) ≡ (if b then y else x)
turned true x y = refl
turned false x y = refl

same_byte : (byte : ℕ) → byte < 256 → encode_byte RESERVED byte ≡ one_of_text byte
unfolding one_of_text
same_byte byte small =
    ap (λ b. if b then percent_encode_byte byte else byte ∷ [])
    (agree_below_at (should_percent_encode RESERVED) (λ byte. not (is_unreserved byte)) 256 byte agreed small)
    ∙ turned (is_unreserved byte) (percent_encode_byte byte) (byte ∷ [])

-- what the kit escapes is the text of a link
pub escaped_is_text : (bytes : List ℕ) → All (λ byte. byte < 256) bytes → percent_encode RESERVED bytes ≡ link_text bytes
unfolding percent_encode one_of_text
escaped_is_text [] small = refl
escaped_is_text (byte ∷ bytes) small =
    flat_map-cons (encode_byte RESERVED) byte bytes
    ∙ ap₂ (λ xs ys. xs ++ ys) (same_byte byte (All-head (λ b. b < 256) byte bytes small))
    (escaped_is_text bytes (All-tail (λ b. b < 256) byte bytes small))
    ∙ sym (flat_map-cons one_of_text byte bytes)
