-- The text of a path read again.
use Rattle.std.proofs.Common.{◌≡◌, ◌<◌, ◌⊎◌, ◌==◌, ◌++◌, ◌∷◌, ◌∙◌, [], ℕ, Bool, false, List, None}
use Rattle.std.proofs.Common.{Some, append_assoc, arith, inl, inr, length, refl, subst, sym, codes}
use Rattle.std.proofs.lemmas.Bool.{le-ltb, lt-ltb, or_parts}
use Rattle.std.proofs.lemmas.List.{length-append}
use Rattle.std.proofs.lemmas.List.Elements.{recursion_from_All}
use Rattle.std.specs.List.{AllByRecursion, position_or_len}
use Rattle.std.specs.Prelude.{position}
use Rattle.std.specs.Str.{bytes_eq}
use Rattle.tor_meta.specs.PlanText.{path_text}
use Rattle.tor_meta.specs.steps.PlanParts.{IsLeft}
use Rattle.tor_tree.specs.Name.{has_byte, name_fault, slash}
use Rattle.tor_tree.specs.Path.{IsFilePath}
use Rattle.tor_tree.proofs.ProvedLaws.{clear as cleared}

-- ---- where the first `/` is

abbrev is_slash : ℕ → Bool
is_slash byte = byte == slash

none_before : (text : List ℕ) → has_byte slash text ≡ false → position_or_len is_slash text ≡ length text
none_before [] none = refl
none_before (byte ∷ text) none =
    let parts = or_parts (is_slash byte) (has_byte slash text) none in
    rw parts.0 (omega (arith, none_before text parts.1))

all_before : (name later : List ℕ) → has_byte slash name ≡ false
    → position_or_len is_slash (name ++ slash ∷ later) ≡ length name
all_before [] later none = refl
all_before (byte ∷ name) later none =
    let parts = or_parts (is_slash byte) (has_byte slash name) none in
    rw parts.0 (omega (arith, all_before name later parts.1))

pub no_slash : (text : List ℕ) → has_byte slash text ≡ false → position is_slash text ≡ None
no_slash text none =
    let same = none_before text none in
    rw (same, le-ltb (length text) (length text) (omega arith)) refl

pub first_slash : (name later : List ℕ) → has_byte slash name ≡ false
    → position is_slash (name ++ slash ∷ later) ≡ Some (length name)
first_slash name later none =
    let same = all_before name later none in
    let below : length name < length (name ++ slash ∷ later) = omega (arith, length-append name (slash ∷ later)) in
    rw (same, lt-ltb (length name) (length (name ++ slash ∷ later)) below) refl

-- ---- names

pub plain : (name : List ℕ) → name_fault name ≡ None → has_byte slash name ≡ false
plain name faultless =
    let a = cleared (length name == 0) _ _ faultless in
    let b = cleared (bytes_eq name (codes ".")) _ _ a.1 in
    let d = cleared (bytes_eq name (codes "..")) _ _ b.1 in
    (cleared (has_byte slash name) _ _ d.1).0

one_of : (P : List ℕ → Type 0) (names : List (List ℕ)) (name : List ℕ) (more : List (List ℕ))
    → AllByRecursion P (names ++ name ∷ more) → P name
one_of P [] name more all = all.0
one_of P (first ∷ names) name more all = one_of P names name more all.1

-- the last name is left, or one with a `/` after it
pub record IsLast (path names : List (List ℕ)) (rest : List ℕ) : Type 0 where
  pub name : List ℕ
  pub faultless : name_fault name ≡ None
  pub all : names ++ name ∷ [] ≡ path
  pub spelled : rest ≡ name

pub record IsNext (path names : List (List ℕ)) (rest : List ℕ) : Type 0 where
  pub name : List ℕ
  pub later : List ℕ
  pub faultless : name_fault name ≡ None
  pub spelled : rest ≡ name ++ slash ∷ later
  pub left : IsLeft path (names ++ name ∷ []) later

pub one_left : (path names : List (List ℕ)) (rest : List ℕ) → IsFilePath path → IsLeft path names rest
    → IsLast path names rest ⊎ IsNext path names rest
one_left path names rest is has = go has.left has.some has.joined has.spelled
  where
    go : (left : List (List ℕ)) → 0 < length left → names ++ left ≡ path → rest ≡ path_text left
        → IsLast path names rest ⊎ IsNext path names rest
    go [] some joined spelled = absurd (omega (arith, some))
    go (name ∷ []) some joined spelled =
        let named = recursion_from_All (λ (name : List ℕ). name_fault name ≡ None) path is.named in
        inl (record {
          name = name;
          faultless = one_of (λ (name : List ℕ). name_fault name ≡ None) names name []
              (subst (AllByRecursion (λ (name : List ℕ). name_fault name ≡ None)) (sym joined) named);
          all = joined;
          spelled = spelled;
        })
    go (name ∷ next ∷ more) some joined spelled =
        let named = recursion_from_All (λ (name : List ℕ). name_fault name ≡ None) path is.named in
        inr (record {
          name = name;
          later = path_text (next ∷ more);
          faultless = one_of (λ (name : List ℕ). name_fault name ≡ None) names name (next ∷ more)
              (subst (AllByRecursion (λ (name : List ℕ). name_fault name ≡ None)) (sym joined) named);
          spelled = spelled;
          left = record {
            left = next ∷ more;
            some = omega arith;
            joined = append_assoc names (name ∷ []) (next ∷ more) ∙ joined;
            spelled = refl;
          };
        })
