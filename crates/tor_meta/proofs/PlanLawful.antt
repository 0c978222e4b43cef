-- The dictionary of a plan is a lawful tree, and has the values of its keys.
use Rattle.std.proofs.Common.{◌≡◌, ◌<◌, ◌^◌, ℕ, pos, List, [], ◌∷◌, map, Option, None, Some}
use Rattle.std.proofs.Common.{arith, option_map, refl, rules}
use Rattle.std.proofs.lemmas.Int.{ints}
use Rattle.std.specs.Int.{w64}
use Rattle.std.specs.List.{AllByRecursion, flat_map, zip}
use Rattle.std.specs.Prelude.{FitsSigned}
use Rattle.tor_bencode.specs.Data.{integer, list, string}
use Rattle.tor_bencode.specs.Find.{value_of}
use Rattle.tor_bencode.specs.Lawful.{AreRising, IsLawful, IsLawfulWithin, ItemsAreLawfulWithin}
use Rattle.tor_bencode.specs.View.{items_of}
use Rattle.tor_meta.specs.PlanText.{PlanText, file_items, kind_text, plan_dictionary, plan_fields}
use Rattle.tor_meta.proofs.PresentFields.{IfThere, field_in, present_lawful, value_in-present, when_lawful}
use Rattle.tor_tree.specs.FileList.{files_with_attrs}
use Rattle.tor_tree.specs.declared.attr.Attr.{Attr}

fits : (n : ℕ) → n < 2 ^ 63 → FitsSigned w64 (pos n)
fits n small = search (rules, ints)

number_lawful : (n : ℕ) → n < 2 ^ 63 → IsLawfulWithin 99 (integer (pos n))
number_lawful n small = record { keys = tt; integers = fits n small; nesting = omega arith }

text_lawful : (bytes : List ℕ) → IsLawfulWithin 99 (string bytes)
text_lawful bytes = record { keys = tt; integers = tt; nesting = omega arith }

url_lawful : (url : Option (List ℕ)) → IfThere 99 (option_map string url)
url_lawful None = tt
url_lawful (Some bytes) = text_lawful bytes

items_lawful : (files : List ((List (List ℕ) × ℕ) × Attr)) → AllByRecursion (λ file. file.0.1 < 2 ^ 63) files
    → ItemsAreLawfulWithin 0 (items_of (flat_map file_items files))
items_lawful [] small = record { keys = tt; integers = tt; nesting = omega arith }
items_lawful (file ∷ files) small =
    let rest = items_lawful files small.1 in
    record {
      keys = (tt, (tt, (tt, rest.keys)));
      integers = (tt, (fits file.0.1 small.0, (tt, rest.integers)));
      nesting = omega (arith, rest.nesting);
    }

small_pairs : (files : List (List (List ℕ) × ℕ)) (attrs : List Attr)
    → AllByRecursion (λ (file : List (List ℕ) × ℕ). file.1 < 2 ^ 63) files
    → AllByRecursion (λ (file : (List (List ℕ) × ℕ) × Attr). file.0.1 < 2 ^ 63) (zip files attrs)
small_pairs [] attrs small = tt
small_pairs (file ∷ files) [] small = tt
small_pairs (file ∷ files) (attr ∷ attrs) small = (small.0, small_pairs files attrs small.1)

files_lawful : (files : List ((List (List ℕ) × ℕ) × Attr)) → AllByRecursion (λ file. file.0.1 < 2 ^ 63) files
    → IsLawfulWithin 99 (list (items_of (flat_map file_items files)))
files_lawful files small =
    let items = items_lawful files small in
    record { keys = items.keys; integers = items.integers; nesting = omega (arith, items.nesting) }

rising : (text : PlanText) → AreRising (map (λ field. field.0) (plan_fields text))
rising text = (refl, (refl, (refl, (refl, (refl, (refl, (refl, (refl, tt))))))))

pub plan_is_lawful : (text : PlanText) → text.settings.piece_length < 2 ^ 63 → text.span < 2 ^ 32
    → AllByRecursion (λ (file : List (List ℕ) × ℕ). file.1 < 2 ^ 63) text.list.files
    → IsLawful (plan_dictionary text)
plan_is_lawful text piece_length span small =
    let one = number_lawful 1 (omega arith) in
    present_lawful 99 (plan_fields text) (rising text) (
      url_lawful text.settings.announce,
      (
        files_lawful (files_with_attrs text.list) (small_pairs text.list.files text.list.attrs small),
        (
          text_lawful (kind_text text.settings.kind),
          (
            text_lawful text.settings.name,
            (
              number_lawful text.settings.piece_length piece_length,
              (
                when_lawful 99 text.settings.is_private (integer (pos 1)) one,
                (
                  when_lawful 99 text.settings.single (integer (pos 1)) one,
                  (
                    number_lawful text.span (omega (arith, span)),
                    (when_lawful 99 text.settings.tail (integer (pos 1)) one, tt),
                  ),
                ),
              ),
            ),
          ),
        ),
      ),
    )

-- ---- the values of keys

pub value_at : (key : List ℕ) (text : PlanText) → value_of key (plan_dictionary text) ≡ field_in key (plan_fields text)
value_at key text = value_in-present key (plan_fields text) (rising text)
