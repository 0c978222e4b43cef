-- The texts of items of an array, of which some are put after others.
use Rattle.std.proofs.Common.{◌≡◌, ◌∙◌, refl, sym, ap, ap₂, ℕ, ◌+◌, ◌<◌, ◌≤◌, Bool, true, false, cond, not, List, []}
use Rattle.std.proofs.Common.{◌∷◌, ◌++◌, append_assoc, append-nil, drop, get_or, length, map, take}
use Rattle.std.proofs.lemmas.List.{take_all}
use Rattle.std.specs.List.{flat_map}
use Rattle.serde_json.specs.Data.{Data, array}
use Rattle.serde_json.specs.View.{items_of}
use Rattle.serde_json.specs.Written.{comma_if, compact_text, items_text}
use Rattle.tor_report.proofs.ProvedLaws.{flat_more, flat_rest}
use Rattle.tor_tree.specs.declared.tree_file.TreeFile.{TreeFile}
use Rattle.tor_cli.specs.recheck.FoundFiles.{is_whole}
use Rattle.tor_cli.specs.steps.FoundMembers.{is_listed}
use Rattle.tor_cli.specs.steps.Items.{are_any, items_front}
use Rattle.tor_cli.specs.text.Records.{found_data, listed_data}
use Rattle.tor_cli.specs.declared.recheck.bytes_found.BytesFound.{BytesFound}
use Rattle.tor_cli.specs.declared.recheck.listing.FileListing.{FileListing}
use Rattle.tor_cli.specs.declared.recheck.listing.FileListing.TheVariants.{Pieces, Files, BadFiles, BadPaths}

items_both : (later : Bool) (xs ys : List Data)
    → items_front later xs ++ items_front (are_any later xs) ys ≡ items_front later (xs ++ ys)
items_both later [] ys = refl
items_both later (x ∷ xs) ys =
    let rest = items_front (are_any true xs) ys in
    append_assoc (comma_if later) (compact_text x ++ items_front true xs) rest
    ∙ ap (λ (text : List ℕ). comma_if later ++ text) (append_assoc (compact_text x) (items_front true xs) rest
    ∙ ap (λ (text : List ℕ). compact_text x ++ text) (items_both true xs ys))

any_of_both : (later : Bool) (xs ys : List Data) → are_any (are_any later xs) ys ≡ are_any later (xs ++ ys)
any_of_both later [] ys = refl
any_of_both later (x ∷ xs) ys = any_of_both true xs ys

items_closed : (later : Bool) (xs : List Data) → items_front later xs ++ 93 ∷ [] ≡ items_text later (items_of xs)
items_closed later [] = refl
items_closed later (x ∷ xs) =
    append_assoc (comma_if later) (compact_text x ++ items_front true xs) (93 ∷ [])
    ∙ ap (λ (text : List ℕ). comma_if later ++ text) (append_assoc (compact_text x) (items_front true xs) (93 ∷ [])
    ∙ ap (λ (text : List ℕ). compact_text x ++ text) (items_closed true xs))

-- the items in their brackets
pub items_array : (xs : List Data) → 91 ∷ (items_front false xs ++ 93 ∷ []) ≡ compact_text (array (items_of xs))
items_array xs = ap (λ (text : List ℕ). 91 ∷ text) (items_closed false xs)

pub one_item : (later : Bool) (x : Data) → comma_if later ++ compact_text x ≡ items_front later (x ∷ [])
one_item later x = ap (λ (text : List ℕ). comma_if later ++ text) (sym (append-nil (compact_text x)))

-- ---- some after others

module _ (xs ys : List Data) (later : Bool) (same : later ≡ are_any false xs) where
  pub items_more : (all : List Data) → xs ++ ys ≡ all
      → items_front false xs ++ items_front later ys ≡ items_front false all
  items_more all split =
      ap (λ (after : Bool). items_front false xs ++ items_front after ys) same ∙ items_both false xs ys
      ∙ ap (items_front false) split

  pub any_more : (all : List Data) (now : Bool) → xs ++ ys ≡ all → now ≡ are_any later ys → now ≡ are_any false all
  any_more all now split told =
      told ∙ ap (λ (before : Bool). are_any before ys) same ∙ any_of_both false xs ys ∙ ap (are_any false) split

  pub items_rest : (zs all : List Data) → xs ++ (ys ++ zs) ≡ all
      → items_front false xs ++ (items_front later ys ++ items_front (are_any later ys) zs) ≡ items_front false all
  items_rest zs all split =
      ap (λ (text : List ℕ). items_front false xs ++ text) (items_both later ys zs)
      ∙ ap (λ (after : Bool). items_front false xs ++ items_front after (ys ++ zs)) same
      ∙ items_both false xs (ys ++ zs) ∙ ap (items_front false) split

-- ---- items that are made of a list's

any_pushed : (later : Bool) (xs : List Data) (x : Data) → are_any later (xs ++ x ∷ []) ≡ true
any_pushed later [] x = refl
any_pushed later (y ∷ ys) x = any_pushed true ys x

module _ {X : Type 0} (tell : X → Data) where
  abbrev one_of : X → List Data
  one_of x = tell x ∷ []

  all_told : (xs : List X) → flat_map one_of xs ≡ map tell xs
  all_told [] = refl
  all_told (x ∷ xs) = ap (λ (datas : List Data). tell x ∷ datas) (all_told xs)

  pub told_all : (xs : List X) (n : ℕ) → length xs ≤ n
      → items_front false (map tell (take n xs)) ≡ items_front false (map tell xs)
  told_all xs n past = ap (λ (ys : List X). items_front false (map tell ys)) (take_all n xs past)

  module _ (xs : List X) (n : ℕ) (x : X) (within : n < length xs) (is : x ≡ get_or xs n x) (later : Bool)
      (same : later ≡ are_any false (map tell (take n xs))) where
    split : map tell (take n xs) ++ tell x ∷ [] ≡ map tell (take (n + 1) xs)
    split =
        ap (λ (datas : List Data). datas ++ tell x ∷ []) (sym (all_told (take n xs)))
        ∙ flat_more one_of xs n x within is ∙ all_told (take (n + 1) xs)

    rest : map tell (take n xs) ++ (tell x ∷ [] ++ map tell (drop (n + 1) xs)) ≡ map tell xs
    rest =
        ap₂ (λ (a b : List Data). a ++ (tell x ∷ b)) (sym (all_told (take n xs))) (sym (all_told (drop (n + 1) xs)))
        ∙ flat_rest one_of xs n x within is ∙ all_told xs

    pub told_more : items_front false (map tell (take n xs)) ++ (comma_if later ++ compact_text (tell x))
        ≡ items_front false (map tell (take (n + 1) xs))
    told_more =
        ap (λ (text : List ℕ). items_front false (map tell (take n xs)) ++ text) (one_item later (tell x))
        ∙ items_more (map tell (take n xs)) (tell x ∷ []) later same (map tell (take (n + 1) xs)) split

    pub any_told : true ≡ are_any false (map tell (take (n + 1) xs))
    any_told = sym (ap (are_any false) (sym split) ∙ any_pushed false (map tell (take n xs)) (tell x))

    pub told_rest : items_front false (map tell (take n xs)) ++ ((comma_if later ++ compact_text (tell x))
        ++ items_front true (map tell (drop (n + 1) xs))) ≡ items_front false (map tell xs)
    told_rest =
        ap (λ (text : List ℕ). items_front false (map tell (take n xs)) ++ (text
        ++ items_front true (map tell (drop (n + 1) xs)))) (one_item later (tell x))
        ∙ items_rest (map tell (take n xs)) (tell x ∷ []) later same (map tell (drop (n + 1) xs)) (map tell xs) rest

-- ---- which files are listed

where_not : (whole : Bool) (datas : List Data) → cond whole [] datas ≡ cond (not whole) datas []
where_not true datas = refl
where_not false datas = refl

listed_as : (listing : FileListing) (told : BytesFound) (file : TreeFile)
    → listed_data listing told file ≡ cond (is_listed listing told.found.state) (found_data told file ∷ []) []
listed_as Pieces told file = refl
listed_as Files told file = refl
listed_as BadFiles told file = where_not (is_whole told.found.state) (found_data told file ∷ [])
listed_as BadPaths told file = where_not (is_whole told.found.state) (found_data told file ∷ [])

module _ (listing : FileListing) (told : BytesFound) (file : TreeFile) (listed : Bool)
    (same : listed ≡ is_listed listing told.found.state) where
  as_is : listed_data listing told file ≡ cond listed (found_data told file ∷ []) []
  as_is =
      listed_as listing told file
      ∙ ap (λ (is : Bool). cond is (found_data told file ∷ []) []) (sym same)

  pub is_in : listed ≡ true → found_data told file ∷ [] ≡ listed_data listing told file
  is_in is = sym (as_is ∙ ap (λ (is : Bool). cond is (found_data told file ∷ []) []) is)

  pub is_out : listed ≡ false → [] ≡ listed_data listing told file
  is_out is = sym (as_is ∙ ap (λ (is : Bool). cond is (found_data told file ∷ []) []) is)
