-- A text that is spelled in two parts.
use Rattle.std.proofs.Common.{◌≡◌, ◌∙◌, refl, sym, ap, ℕ, ◌+◌, ◌<◌, List, [], ◌∷◌, ◌++◌, length, take, drop, get_or}
use Rattle.std.proofs.Common.{append-nil, arith, subst}
use Rattle.std.proofs.Math.Seq.{take-add}
use Rattle.std.proofs.lemmas.Grind.{flat_map-append}
use Rattle.std.proofs.lemmas.List.{take-append-drop}
use Rattle.tor_report.proofs.Putting.{puts_both}
use Rattle.tor_report.specs.Put.{Puts}
use Rattle.tor_report.specs.declared.buffer.Buffer.{Buffer}
use Rattle.tor_report.specs.Spelled.{spelled, spelled_byte}
use Rattle.tor_report.specs.declared.spelling.Spelling.{Spelling}
use Rattle.tor_report.specs.declared.spelling.Spelling.TheVariants.{AsIs}

pub spelled_append : (s : Spelling) (xs ys : List ℕ) → spelled s (xs ++ ys) ≡ spelled s xs ++ spelled s ys
spelled_append s xs ys = flat_map-append (spelled_byte s) xs ys

pub spelled_split : (s : Spelling) (count : ℕ) (text : List ℕ)
    → spelled s (take count text) ++ spelled s (drop count text) ≡ spelled s text
spelled_split s count text =
    sym (spelled_append s (take count text) (drop count text)) ∙ ap (spelled s) (take-append-drop count text)

pub spelled_more : (s : Spelling) (done count : ℕ) (text : List ℕ)
    → spelled s (take done text) ++ spelled s (take count (drop done text)) ≡ spelled s (take (done + count) text)
spelled_more s done count text =
    sym (spelled_append s (take done text) (take count (drop done text)))
    ∙ ap (spelled s) (sym (take-add done count text))

-- of a run of bytes that stand for themselves
pub spelled_front : (s : Spelling) (count : ℕ) (text : List ℕ) → spelled s (take count text) ≡ take count text
    → take count text ++ spelled s (drop count text) ≡ spelled s text
spelled_front s count text plain =
    ap (λ (xs : List ℕ). xs ++ spelled s (drop count text)) (sym plain) ∙ spelled_split s count text

-- of the first byte
pub spelled_first : (s : Spelling) (text : List ℕ) → 0 < length text
    → spelled_byte s (get_or text 0 0) ++ spelled s (drop 1 text) ≡ spelled s text
spelled_first s [] some = absurd (omega arith)
spelled_first s (x ∷ text) some = refl

-- of the bytes that are left
pub spelled_rest : (s : Spelling) (done : ℕ) (text : List ℕ)
    → spelled s (take done text) ++ (spelled s (drop done text) ++ []) ≡ spelled s text
spelled_rest s done text =
    ap (λ (xs : List ℕ). spelled s (take done text) ++ xs) (append-nil (spelled s (drop done text)))
    ∙ spelled_split s done text

-- one more run is put
pub puts_more : {S : Type 0} {took : S → S → List ℕ → Type 0} (s : Spelling) (done count : ℕ) (text : List ℕ) (out mid
    out' : S) (b m b' : Buffer)
    → Puts took (spelled s (take done text)) out b mid m → Puts took (spelled s (take count (drop done text))) mid m
    out' b'
    → Puts took (spelled s (take (done + count) text)) out b out' b'
puts_more {took = took} s done count text out mid out' b m b' one two =
    subst (λ (xs : List ℕ). Puts took xs out b out' b') (spelled_more s done count text)
    (puts_both _ _ out mid out' b m b' one two)

pub as_is : (text : List ℕ) → spelled AsIs text ≡ text
as_is [] = refl
as_is (byte ∷ text) = ap (λ (xs : List ℕ). byte ∷ xs) (as_is text)
