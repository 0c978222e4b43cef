-- The path of a file, spelled name by name.
use Rattle.std.proofs.Common.{◌≡◌, ◌∙◌, refl, sym, ap, ℕ, List, [], ◌∷◌, ◌++◌, append_assoc, map, true}
use Rattle.std.specs.List.{flat_map, join_by}
use Rattle.json.specs.Print.{escape_byte}
use Rattle.serde_json.specs.Data.{string}
use Rattle.serde_json.specs.View.{items_of}
use Rattle.serde_json.specs.Written.{compact_text, items_text}
use Rattle.tor_tree.specs.Path.{IsFilePath}
use Rattle.tor_report.specs.Records.{path_data}
use Rattle.tor_report.specs.Shown.{path_text}
use Rattle.tor_report.specs.Spelled.{spelled, spelled_byte}
use Rattle.tor_report.specs.declared.spelling.Spelling.{Spelling}
use Rattle.tor_report.specs.declared.spelling.Spelling.TheVariants.{AsIs, InLine, InAscii, InJson, AsciiInJson}
use Rattle.tor_report.proofs.Spellings.{spelled_append}

slash : (s : Spelling) → spelled_byte s 47 ≡ 47 ∷ []
unfolding escape_byte
slash AsIs = refl
slash InLine = refl
slash InAscii = refl
slash InJson = refl
slash AsciiInJson = refl

spelled_slash : (s : Spelling) (xs : List ℕ) → spelled s (47 ∷ xs) ≡ 47 ∷ spelled s xs
spelled_slash s xs = ap (λ (front : List ℕ). front ++ spelled s xs) (slash s)

others_spelled : (s : Spelling) (names : List (List ℕ))
    → flat_map (λ name. (47 ∷ []) ++ spelled s name) names ≡ spelled s (flat_map (λ name. (47 ∷ []) ++ name) names)
others_spelled s [] = refl
others_spelled s (name ∷ names) =
    ap (λ (rest : List ℕ). 47 ∷ (spelled s name ++ rest)) (others_spelled s names)
    ∙ ap (λ (xs : List ℕ). 47 ∷ xs) (sym (spelled_append s name (flat_map (λ name. (47 ∷ []) ++ name) names)))
    ∙ sym (spelled_slash s (name ++ flat_map (λ name. (47 ∷ []) ++ name) names))

pub path_spelled : (s : Spelling) (names : List (List ℕ)) → join_by (spelled s) (47 ∷ []) names
    ≡ spelled s (path_text names)
path_spelled s [] = refl
path_spelled s (name ∷ names) =
    ap (λ (rest : List ℕ). spelled s name ++ rest) (others_spelled s names)
    ∙ sym (spelled_append s name (flat_map (λ name. (47 ∷ []) ++ name) names))

-- ---- as an array of strings

strings_after : (names : List (List ℕ)) → flat_map (λ name. (34 ∷ 44 ∷ 34 ∷ []) ++ spelled InJson name) names
    ++ (34 ∷ 93 ∷ []) ≡ 34 ∷ items_text true (items_of (map string names))
strings_after [] = refl
strings_after (name ∷ names) =
    let others = flat_map (λ name. (34 ∷ 44 ∷ 34 ∷ []) ++ spelled InJson name) names in
    ap (λ (xs : List ℕ). 34 ∷ 44 ∷ 34 ∷ xs)
    (append_assoc (spelled InJson name) others (34 ∷ 93 ∷ [])
    ∙ ap (λ (xs : List ℕ). spelled InJson name ++ xs) (strings_after names)
    ∙ sym (append_assoc (spelled InJson name) (34 ∷ []) (items_text true (items_of (map string names)))))

of_some : (first : List ℕ) (others : List (List ℕ))
    → (91 ∷ 34 ∷ []) ++ (join_by (spelled InJson) (34 ∷ 44 ∷ 34 ∷ []) (first ∷ others) ++ (34 ∷ 93 ∷ []))
    ≡ compact_text (path_data (first ∷ others))
of_some first others =
    let rest = flat_map (λ name. (34 ∷ 44 ∷ 34 ∷ []) ++ spelled InJson name) others in
    ap (λ (xs : List ℕ). 91 ∷ 34 ∷ xs)
    (append_assoc (spelled InJson first) rest (34 ∷ 93 ∷ [])
    ∙ ap (λ (xs : List ℕ). spelled InJson first ++ xs) (strings_after others)
    ∙ sym (append_assoc (spelled InJson first) (34 ∷ []) (items_text true (items_of (map string others)))))

pub names_in_json : (names : List (List ℕ)) → IsFilePath names
    → (91 ∷ 34 ∷ []) ++ (join_by (spelled InJson) (34 ∷ 44 ∷ 34 ∷ []) names ++ (34 ∷ 93 ∷ []))
    ≡ compact_text (path_data names)
names_in_json [] some = absurd (some.some refl)
names_in_json (first ∷ others) some = of_some first others
