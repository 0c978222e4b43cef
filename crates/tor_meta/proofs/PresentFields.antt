-- Dictionaries whose fields are there or not: they are lawful if the keys rise and the values are, and have the values
-- of their keys.
use Rattle.std.proofs.Common.{◌≡◌, ℕ, suc, Bool, true, false, cond, List, [], ◌∷◌, map, Option, None, Some, refl}
use Rattle.std.proofs.Common.{ap, arith, subst}
use Rattle.std.proofs.lemmas.Slice.Eq.{bytes_eq-Decides}
use Rattle.std.specs.Cmp.Lexicographic.{nat_list_cmp_total}
use Rattle.std.specs.List.{AllByRecursion}
use Rattle.std.specs.Str.{bytes_eq}
use Rattle.std.specs.declared.cmp.Ordering.TheVariants.{Less}
use Rattle.tor_bencode.specs.Data.{Data, dictionary, keys_of}
use Rattle.tor_bencode.specs.Find.{value_in}
use Rattle.tor_bencode.specs.Lawful.{AreRising, IsLawfulWithin, PairsAreLawfulWithin}
use Rattle.tor_bencode.proofs.ProvedLaws.{no_value_before_the_first_key}
use Rattle.tor_spec.specs.Dictionary.{present, when}
use Rattle.tor_tree.specs.Path.{name_cmp}

-- a key below the first is below the others
rising_after : (below key : List ℕ) (keys : List (List ℕ)) → name_cmp below key ≡ Less → AreRising (key ∷ keys)
    → AreRising (below ∷ keys)
rising_after below key [] less rising = tt
rising_after below key (next ∷ keys) less rising = (nat_list_cmp_total.trans below key next less rising.0, rising.1)

rising_rest : (key : List ℕ) (keys : List (List ℕ)) → AreRising (key ∷ keys) → AreRising keys
rising_rest key [] h = tt
rising_rest key (next ∷ keys) h = h.1

keys_above : (below : List ℕ) (fields : List (List ℕ × Option Data))
    → AreRising (below ∷ map (λ field. field.0) fields) → AreRising (below ∷ keys_of (present fields))
keys_above below [] rising = tt
keys_above below ((key, None) ∷ fields) rising =
    keys_above below fields (rising_after below key (map (λ field. field.0) fields) rising.0 rising.1)
keys_above below ((key, Some value) ∷ fields) rising = (rising.0, keys_above key fields rising.1)

keys_rise : (fields : List (List ℕ × Option Data)) → AreRising (map (λ field. field.0) fields)
    → AreRising (keys_of (present fields))
keys_rise [] rising = tt
keys_rise ((key, None) ∷ fields) rising = keys_rise fields (rising_rest key (map (λ field. field.0) fields) rising)
keys_rise ((key, Some value) ∷ fields) rising = keys_above key fields rising

-- ---- lawful

-- a value that is there or not is lawful
abbrev pub IfThere : ℕ → Option Data → Type 0
IfThere n None = Unit {0}
IfThere n (Some value) = IsLawfulWithin n value

abbrev pub AreFields : ℕ → List (List ℕ × Option Data) → Type 0
AreFields n fields = AllByRecursion (λ field. IfThere n field.1) fields

pub when_lawful : (n : ℕ) (there : Bool) (value : Data) → IsLawfulWithin n value → IfThere n (when there value)
when_lawful n true value h = h
when_lawful n false value h = tt

values_lawful : (n : ℕ) (fields : List (List ℕ × Option Data)) → AreFields n fields
    → PairsAreLawfulWithin n (present fields)
values_lawful n [] h = record { keys = tt; integers = tt; nesting = omega arith }
values_lawful n ((key, None) ∷ fields) h = values_lawful n fields h.1
values_lawful n ((key, Some value) ∷ fields) h =
    let rest = values_lawful n fields h.1 in
    record {
      keys = (h.0.keys, rest.keys);
      integers = (h.0.integers, rest.integers);
      nesting = omega (arith, h.0.nesting, rest.nesting);
    }

pub present_lawful : (n : ℕ) (fields : List (List ℕ × Option Data)) → AreRising (map (λ field. field.0) fields)
    → AreFields n fields → IsLawfulWithin (suc n) (dictionary (present fields))
present_lawful n fields rising h =
    let values = values_lawful n fields h in
    record {
      keys = (keys_rise fields rising, values.keys);
      integers = values.integers;
      nesting = omega (arith, values.nesting);
    }

-- ---- the values of keys

-- the value of the first field with this key, if it is there
abbrev pub field_in : List ℕ → List (List ℕ × Option Data) → Option Data
field_in key [] = None
field_in key ((name, value) ∷ fields) = cond (bytes_eq name key) value (field_in key fields)

-- where the keys rise, that is the value of the key
pub value_in-present : (key : List ℕ) (fields : List (List ℕ × Option Data)) → AreRising (map (λ field. field.0) fields)
    → value_in key (present fields) ≡ field_in key fields
value_in-present key [] rising = refl
value_in-present key ((name, None) ∷ fields) rising =
    by_name (bytes_eq name key) refl
    (value_in-present key fields (rising_rest name (map (λ field. field.0) fields) rising))
  where
    by_name : (same : Bool) → bytes_eq name key ≡ same → value_in key (present fields) ≡ field_in key fields
        → value_in key (present fields) ≡ cond same None (field_in key fields)
    by_name true e later =
        no_value_before_the_first_key key (present fields)
        (subst (λ (first : List ℕ). AreRising (first ∷ keys_of (present fields))) ((bytes_eq-Decides name key).0 e)
        (keys_above name fields rising))
    by_name false e later = later
value_in-present key ((name, Some value) ∷ fields) rising =
    ap (λ (later : Option Data). cond (bytes_eq name key) (Some value) later)
    (value_in-present key fields (rising_rest name (map (λ field. field.0) fields) rising))
