-- The flat list of a plan's files, three items a file.
use Rattle.std.proofs.Common.{◌≡◌, ◌<◌, ◌+◌, ◌*◌, ◌∙◌, ◌∷◌, [], ℕ, pos, zero, suc, List, ap, arith, get_or, length, map}
use Rattle.std.proofs.Common.{◌/◌, ◌^◌, refl}
use Rattle.std.proofs.lemmas.List.{get_or_default}
use Rattle.std.proofs.lemmas.Slice.Zip.{get_or-zip, length-zip}
use Rattle.std.specs.List.{flat_map, zip}
use Rattle.tor_bencode.specs.Data.{Data, integer, string}
use Rattle.tor_bencode.specs.RefView.{view}
use Rattle.tor_bencode.specs.View.{items_of}
use Rattle.tor_bencode.specs.declared.item_ref.ItemRef.{ItemRef}
use Rattle.tor_meta.specs.PlanText.{IsPlanText, PlanText, file_items, letters_text, path_text}
use Rattle.tor_tree.specs.FileList.{files_with_attrs}
use Rattle.tor_tree.specs.Letters.{no_letters}
use Rattle.tor_tree.specs.Path.{IsFilePath}
use Rattle.tor_tree.specs.declared.attr.Attr.{Attr}

abbrev File : Type 0
File = (List (List ℕ) × ℕ) × Attr

head_is : (xs ys : List Data) (x y : Data) → x ∷ xs ≡ y ∷ ys → x ≡ y
head_is xs ys x y same = cc

tail_is : (xs ys : List Data) (x y : Data) → x ∷ xs ≡ y ∷ ys → xs ≡ ys
tail_is xs ys x y same = cc

-- items are those of a list just if they are the same
pub same_items : (xs ys : List Data) → items_of xs ≡ items_of ys → xs ≡ ys
same_items [] [] same = refl
same_items [] (y ∷ ys) same = cc
same_items (x ∷ xs) [] same = cc
same_items (x ∷ xs) (y ∷ ys) same =
    let rest : items_of xs ≡ items_of ys = cc in
    let first : x ≡ y = cc in
    let more = same_items xs ys rest in
    cc

pub long_items : (items : List ItemRef) (files : List File) → map view items ≡ flat_map file_items files
    → length items ≡ 3 * length files
long_items [] [] same = refl
long_items [] (file ∷ files) same = cc
long_items (a ∷ items) [] same = cc
long_items (a ∷ []) (file ∷ files) same = let no = tail_is _ _ _ _ same in cc
long_items (a ∷ b ∷ []) (file ∷ files) same = let no = tail_is _ _ _ _ (tail_is _ _ _ _ same) in cc
long_items (a ∷ b ∷ d ∷ items) (file ∷ files) same =
    let rest = tail_is _ _ _ _ (tail_is _ _ _ _ (tail_is _ _ _ _ same)) in
    omega (arith, long_items items files rest)

-- the items of one file
pub record AreItemsOf (file : File) (a b c : ItemRef) : Type 0 where
  pub letters : view a ≡ string (letters_text file.1)
  pub size : view b ≡ integer (pos file.0.1)
  pub path : view c ≡ string (path_text file.0.0)

-- they stand at three times its index
pub items_at : (items : List ItemRef) (files : List File) (k at : ℕ) (d e f : ItemRef) (file : File)
    → map view items ≡ flat_map file_items files → k < length files → at ≡ 3 * k
    → AreItemsOf (get_or files k file) (get_or items at d) (get_or items (suc at) e)
    (get_or items (suc (suc at)) f)
items_at [] [] k at d e f file same there is = absurd (omega (arith, there))
items_at [] (one ∷ files) k at d e f file same there is = cc
items_at (a ∷ items) [] k at d e f file same there is = absurd (omega (arith, there))
items_at (a ∷ []) (one ∷ files) k at d e f file same there is = let no = tail_is _ _ _ _ same in cc
items_at (a ∷ b ∷ []) (one ∷ files) k at d e f file same there is = let no = tail_is _ _ _ _ (tail_is _ _ _ _ same) in cc
items_at (a ∷ b ∷ g ∷ items) (one ∷ files) zero zero d e f file same there is =
    let rest = tail_is _ _ _ _ same in
    record {
      letters = head_is _ _ _ _ same;
      size = head_is _ _ _ _ rest;
      path = head_is _ _ _ _ (tail_is _ _ _ _ rest);
    }
items_at (a ∷ b ∷ g ∷ items) (one ∷ files) zero (suc at) d e f file same there is = absurd (omega (arith, is))
items_at (a ∷ b ∷ g ∷ items) (one ∷ files) (suc k) zero d e f file same there is = absurd (omega (arith, is))
items_at (a ∷ b ∷ g ∷ items) (one ∷ files) (suc k) (suc zero) d e f file same there is = absurd (omega (arith, is))
items_at (a ∷ b ∷ g ∷ items) (one ∷ files) (suc k) (suc (suc zero)) d e f file same there is = absurd (omega (arith, is))
items_at (a ∷ b ∷ g ∷ items) (one ∷ files) (suc k) (suc (suc (suc at))) d e f file same there is =
    items_at items files k at d e f file (tail_is _ _ _ _ (tail_is _ _ _ _ (tail_is _ _ _ _ same))) (omega (arith, there))
    (omega (arith, is))

-- a file of a plan that is read
pub record IsFileAt (text : PlanText) (n : ℕ) (a b c : ItemRef) : Type 0 where
  pub file : File
  pub in_files : n < length text.list.files
  pub in_attrs : n < length text.list.attrs
  pub is_file : get_or text.list.files n file.0 ≡ file.0
  pub is_attr : get_or text.list.attrs n file.1 ≡ file.1
  pub path : IsFilePath file.0.0
  pub small : file.0.1 < 2 ^ 63
  pub items : AreItemsOf file a b c

pub read_at : (text : PlanText) → IsPlanText text → (items : List ItemRef) (n : ℕ) (a b d : ItemRef)
    → map view items ≡ flat_map file_items (files_with_attrs text.list) → n < length items / 3
    → a ≡ get_or items (3 * n) a → b ≡ get_or items (3 * n + 1) b → d ≡ get_or items (3 * n + 2) d
    → IsFileAt text n a b d
read_at text is items n a b d same below at at_1 at_2 =
    let files = text.list.files in
    let attrs = text.list.attrs in
    let first : List (List ℕ) × ℕ = ([], 0) in
    let file : File = (get_or files n first, get_or attrs n no_letters) in
    let long = long_items items (zip files attrs) same in
    let in_both : n < length (zip files attrs) = omega (arith, below, long) in
    let in_files : n < length files = omega (arith, in_both, length-zip files attrs) in
    let in_attrs : n < length attrs = omega (arith, in_both, length-zip files attrs) in
    let found = items_at items (zip files attrs) n (3 * n) a b d (first, no_letters) same in_both refl in
    let next : 3 * n + 1 ≡ suc (3 * n) = omega arith in
    let last : 3 * n + 2 ≡ suc (suc (3 * n)) = omega arith in
    let pair : get_or (zip files attrs) n (first, no_letters) ≡ file =
    get_or-zip files attrs n (first, no_letters) in_files in_attrs in
    record {
      file = file;
      in_files = in_files;
      in_attrs = in_attrs;
      is_file = get_or_default files n file.0 first in_files;
      is_attr = get_or_default attrs n file.1 no_letters in_attrs;
      path = is.named n first in_files;
      small = is.small n first in_files;
      items = record {
        letters = ap view at ∙ found.letters ∙ ap (λ (one : File). string (letters_text one.1)) pair;
        size = ap view (at_1 ∙ ap (λ k. get_or items k b) next) ∙ found.size ∙ ap (λ (one : File). integer (pos one.0.1)) pair;
        path = ap view (at_2 ∙ ap (λ k. get_or items k d) last) ∙ found.path ∙ ap (λ (one : File). string (path_text one.0.0)) pair;
      };
    }
