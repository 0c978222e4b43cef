-- the items of one file more
use Rattle.std.proofs.Common.{◌≡◌, ◌∙◌, ◌+◌, ◌<◌, ◌++◌, ◌∷◌, [], ℕ, List, ap, ap₂, arith, get_or, length}
use Rattle.std.proofs.Common.{pos, sym, take}
use Rattle.std.proofs.lemmas.List.{flat_map_more, get_or_default, take_all, take_more}
use Rattle.std.proofs.lemmas.Slice.Zip.{get_or-zip, length-zip}
use Rattle.std.specs.List.{flat_map, zip}
use Rattle.tor_bencode.specs.Data.{Data, integer, list, string}
use Rattle.tor_bencode.specs.View.{items_of}
use Rattle.tor_meta.specs.PlanText.{file_items, path_text}
use Rattle.tor_tree.specs.Letters.{no_letters}
use Rattle.tor_tree.specs.declared.attr.Attr.{Attr}
use Rattle.tor_meta.proofs.plans.plan_text.file_list.Goals as goal

one_more : (files : List (List (List ℕ) × ℕ)) (attrs : List Attr) (n : ℕ) (file : List (List ℕ) × ℕ) (attr : Attr)
    → n < length files → n < length attrs → file ≡ get_or files n file → attr ≡ get_or attrs n attr
    → flat_map file_items (take n (zip files attrs)) ++ file_items (file, attr)
    ≡ flat_map file_items (take (n + 1) (zip files attrs))
one_more files attrs n file attr in_files in_attrs is_file is_attr =
    let within : n < length (zip files attrs) = omega (arith, in_files, in_attrs, length-zip files attrs) in
    let pair : get_or (zip files attrs) n (file, attr) ≡ (file, attr) =
    get_or-zip files attrs n (file, attr) in_files in_attrs
    ∙ ap₂ (λ (a : List (List ℕ) × ℕ) (b : Attr). (a, b)) (sym is_file) (sym is_attr) in
    flat_map_more file_items [] (take n (zip files attrs)) (file, attr)
    ∙ ap (λ (p : (List (List ℕ) × ℕ) × Attr). flat_map file_items (take n (zip files attrs) ++ p ∷ [])) (sym pair)
    ∙ ap (flat_map file_items) (sym (take_more (zip files attrs) n (file, attr) within))

pub files-preserved : goal.files-preserved
files-preserved c =
    let files = c.args.files.now in
    let attrs = c.args.attrs.now in
    let n = c.files.index in
    let file : List (List ℕ) × ℕ = c.index-files-index.result in
    let in_files : n < length files = c.files-test.true in
    let in_attrs : n < length attrs = omega (arith, in_files, c.requires.one_each) in
    let attr : Attr = get_or attrs n no_letters in
    c.in_ok-push_file.ensures
    ∙ ap₂ (λ (a : List Data) (b : List Data). a ++ b) c.files.invariant
    (ap (λ (letters : List ℕ). string letters ∷ integer (pos file.1) ∷ string (path_text file.0) ∷ [])
    c.letters_text-letters.ensures)
    ∙ one_more files attrs n file attr in_files in_attrs c.index-files-index.is
    (get_or_default attrs n no_letters attr in_attrs)

pub returns : goal.returns
returns c =
    let files = c.args.files.now in
    let attrs = c.args.attrs.now in
    c.list.ensures
    ∙ ap (λ (ds : List Data). list (items_of ds))
    (c.files.invariant ∙ ap (flat_map file_items) (take_all c.files.index (zip files attrs)
    (omega (arith, c.files-test.false, length-zip files attrs))))
