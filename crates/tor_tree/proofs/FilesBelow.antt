-- Files with their properties, seen from some names down, a part at a time.
use Rattle.tor_tree.proofs.Cited.{Vec, Global, None, inl, inr, zero-add, suc-add, length-drop, ◌-◌, ◌≡◌, ◌≢◌, ℕ, zero}
use Rattle.tor_tree.proofs.Cited.{suc, ◌+◌, ◌<◌, true, false, List, [], ◌∷◌, ◌++◌, length, get_or, take, drop, map}
use Rattle.tor_tree.proofs.Cited.{Option, refl, sym, ap, ◌∙◌, arith, All, AllByRecursion, drop-drop, drop_more}
use Rattle.tor_tree.proofs.Cited.{drop_all, take_all, All-append, recursion_from_All, cases_lt, Data, dictionary, Pairs}
use Rattle.tor_tree.proofs.Cited.{no_pairs, pair, view, pairs_view, Item, name_fault, below, files_below, has_name_at}
use Rattle.tor_tree.proofs.Cited.{Attr, is_first, pairs_of_files}
use Rattle.tor_tree.proofs.Groups.{name_own, pair_of_group}

pub take-files_below : (deep n : ℕ) (files : List (List (List ℕ) × ℕ)) (attrs : List Attr)
    (roots : List (Option (List ℕ)))
    → take n (files_below deep files attrs roots) ≡ files_below deep (take n files) (take n attrs) (take n roots)
take-files_below deep zero files attrs roots = refl
take-files_below deep (suc n) [] attrs roots = refl
take-files_below deep (suc n) (file ∷ files) [] roots = refl
take-files_below deep (suc n) (file ∷ files) (attr ∷ attrs) [] = refl
take-files_below deep (suc n) (file ∷ files) (attr ∷ attrs) (root ∷ roots) =
    rw (take-files_below deep n files attrs roots) refl

none_left : (deep : ℕ) (files : List (List (List ℕ) × ℕ)) (roots : List (Option (List ℕ)))
    → [] ≡ files_below deep files [] roots
none_left deep [] roots = refl
none_left deep (file ∷ files) roots = refl

no_roots_left : (deep : ℕ) (files : List (List (List ℕ) × ℕ)) (attrs : List Attr) → [] ≡ files_below deep files attrs []
no_roots_left deep [] attrs = refl
no_roots_left deep (file ∷ files) [] = refl
no_roots_left deep (file ∷ files) (attr ∷ attrs) = refl

pub drop-files_below : (deep n : ℕ) (files : List (List (List ℕ) × ℕ)) (attrs : List Attr)
    (roots : List (Option (List ℕ)))
    → drop n (files_below deep files attrs roots) ≡ files_below deep (drop n files) (drop n attrs) (drop n roots)
drop-files_below deep zero files attrs roots = refl
drop-files_below deep (suc n) [] attrs roots = refl
drop-files_below deep (suc n) (file ∷ files) [] roots = none_left deep (drop n files) (drop (suc n) roots)
drop-files_below deep (suc n) (file ∷ files) (attr ∷ attrs) [] = no_roots_left deep (drop n files) (drop n attrs)
drop-files_below deep (suc n) (file ∷ files) (attr ∷ attrs) (root ∷ roots) = drop-files_below deep n files attrs roots

pub below-files_below : (deep : ℕ) (files : List (List (List ℕ) × ℕ)) (attrs : List Attr)
    (roots : List (Option (List ℕ)))
    → map (below 1) (files_below deep files attrs roots) ≡ files_below (deep + 1) files attrs roots
below-files_below deep [] attrs roots = refl
below-files_below deep (file ∷ files) [] roots = refl
below-files_below deep (file ∷ files) (attr ∷ attrs) [] = refl
below-files_below deep (file ∷ files) (attr ∷ attrs) (root ∷ roots) =
    rw (drop-drop 1 deep file.0, below-files_below deep files attrs roots) refl

pub length-files_below : (deep : ℕ) (files : List (List (List ℕ) × ℕ)) (attrs : List Attr)
    (roots : List (Option (List ℕ)))
    → length attrs ≡ length files → length roots ≡ length files
    → length (files_below deep files attrs roots) ≡ length files
length-files_below deep [] attrs roots one_each e = refl
length-files_below deep (file ∷ files) [] roots one_each e = absurd (omega arith)
length-files_below deep (file ∷ files) (attr ∷ attrs) [] one_each e = absurd (omega arith)
length-files_below deep (file ∷ files) (attr ∷ attrs) (root ∷ roots) one_each e =
    ap suc (length-files_below deep files attrs roots (omega arith) (omega arith))

pub all_first : (deep : ℕ) (name : List ℕ) (files : List (List (List ℕ) × ℕ)) (attrs : List Attr)
    (roots : List (Option (List ℕ)))
    → AllByRecursion (λ f. has_name_at deep name f.0 ≡ true) files
    → AllByRecursion (λ f. is_first name f.0 ≡ true) (files_below deep files attrs roots)
all_first deep name [] attrs roots h = tt
all_first deep name (file ∷ files) [] roots h = tt
all_first deep name (file ∷ files) (attr ∷ attrs) [] h = tt
all_first deep name (file ∷ files) (attr ∷ attrs) (root ∷ roots) h = (h.0, all_first deep name files attrs roots h.1)

first_apart : (deep : ℕ) (name : List ℕ) (files : List (List (List ℕ) × ℕ)) (attrs : List Attr)
    (roots : List (Option (List ℕ)))
    → ((file : List (List ℕ) × ℕ) (others : List (List (List ℕ) × ℕ)) → files ≡ file ∷ others
    → has_name_at deep name file.0 ≡ false)
    → (f : List (List ℕ) × Data) (fs : List (List (List ℕ) × Data)) → files_below deep files attrs roots ≡ f ∷ fs
    → is_first name f.0 ≡ false
first_apart deep name [] attrs roots apart f fs e = cc
first_apart deep name (file ∷ files) [] roots apart f fs e = cc
first_apart deep name (file ∷ files) (attr ∷ attrs) [] apart f fs e = cc
first_apart deep name (file ∷ files) (attr ∷ attrs) (root ∷ roots) apart f fs e =
    let here = apart file files refl in
    let same : drop deep file.0 ≡ f.0 = cc in
    rw (← same) here

pub apart_after : (deep : ℕ) (name : List ℕ) (files : List (List (List ℕ) × ℕ)) (attrs : List Attr)
    (roots : List (Option (List ℕ))) (count : ℕ)
    → ((d : List (List ℕ) × ℕ) → count < length files → has_name_at deep name (get_or files count d).0 ≡ false)
    → (f : List (List ℕ) × Data) (fs : List (List (List ℕ) × Data))
    → drop count (files_below deep files attrs roots) ≡ f ∷ fs
    → is_first name f.0 ≡ false
apart_after deep name files attrs roots count ends f fs e =
    first_apart deep name (drop count files) (drop count attrs) (drop count roots) at_count f fs
    (sym (drop-files_below deep count files attrs roots) ∙ e)
  where
    first_of : count < length files → (file : List (List ℕ) × ℕ) (others : List (List (List ℕ) × ℕ))
        → drop count files ≡ file ∷ others → get_or files count file ≡ file
    first_of lt file others is = let shown = sym (drop_more files count file lt) ∙ is in cc

    at_count : (file : List (List ℕ) × ℕ) (others : List (List (List ℕ) × ℕ)) → drop count files ≡ file ∷ others
        → has_name_at deep name file.0 ≡ false
    at_count file others is = elim (cases_lt count (length files)) [
      | inl lt ↦ rw (first_of lt file others is) at (ends file lt)
      | inr past ↦ (let none = sym (drop_all count files past) ∙ is in cc)
    ]

-- the first files, which alone have a name there, make the first pair
pub group_made : (deep : ℕ) (name : List ℕ) → name ≢ []
    → (files : List (List (List ℕ) × ℕ)) (attrs : List Attr) (roots : List (Option (List ℕ))) (count : ℕ)
    → 0 < count → 0 < length files → length attrs ≡ length files → length roots ≡ length files
    → All (λ f. has_name_at deep name f.0 ≡ true) (take count files)
    → ((d : List (List ℕ) × ℕ) → count < length files → has_name_at deep name (get_or files count d).0 ≡ false)
    → (inside : Pairs)
    → inside ≡ pairs_of_files (files_below (deep + 1) (take count files) (take count attrs) (take count roots))
    → pairs_of_files (files_below deep files attrs roots)
    ≡ pair name (dictionary inside) (pairs_of_files (drop count (files_below deep files attrs roots)))
group_made deep name named files attrs roots count some more letters_each one_each same ends inside made =
    let group : AllByRecursion (λ f. is_first name f.0 ≡ true) (take count (files_below deep files attrs roots)) =
    rw take-files_below
    (all_first deep name (take count files) (take count attrs) (take count roots)
    (recursion_from_All _ (take count files) same)) in
    let lower : map (below 1) (take count (files_below deep files attrs roots))
    ≡ files_below (deep + 1) (take count files) (take count attrs) (take count roots) =
    ap (map (below 1)) (take-files_below deep count files attrs roots)
    ∙ below-files_below deep (take count files) (take count attrs) (take count roots) in
    pair_of_group name named (files_below deep files attrs roots) count some
    (rw (length-files_below deep files attrs roots letters_each one_each) more) group
    (apart_after deep name files attrs roots count ends)
    ∙ ap (λ ps. pair name (dictionary ps) (pairs_of_files (drop count (files_below deep files attrs roots))))
    (ap pairs_of_files lower ∙ sym made)

-- the pairs of the files that are left, from what is made of the first of them
pub next_made : (deep start count : ℕ) (files : List (List (List ℕ) × ℕ)) (attrs : List Attr)
    (roots : List (Option (List ℕ))) (key : List ℕ) (value : Data)
    → pairs_of_files (files_below deep (drop start files) (drop start attrs) (drop start roots))
    ≡ pair key value
    (pairs_of_files (drop count (files_below deep (drop start files) (drop start attrs) (drop start roots))))
    → pairs_of_files (drop start (files_below deep files attrs roots))
    ≡ pair key value (pairs_of_files (drop (start + count) (files_below deep files attrs roots)))
next_made deep start count files attrs roots key value made =
    ap pairs_of_files (drop-files_below deep start files attrs roots) ∙ made
    ∙ ap (λ fs. pair key value (pairs_of_files fs))
    (ap (drop count) (sym (drop-files_below deep start files attrs roots))
    ∙ drop-drop count start (files_below deep files attrs roots))

-- pairs, and more pairs after them
abbrev pub followed_by : Pairs → Pairs → Pairs
followed_by no_pairs more = more
followed_by (pair key value pairs) more = pair key value (followed_by pairs more)

pub followed_by-none : (pairs : Pairs) → followed_by pairs no_pairs ≡ pairs
followed_by-none no_pairs = refl
followed_by-none (pair key value pairs) = ap (pair key value) (followed_by-none pairs)

pub followed_by-push : (pairs : List (Vec ℕ Global × Item)) (p : Vec ℕ Global × Item) (more : Pairs)
    → followed_by (pairs_view (pairs ++ p ∷ [])) more ≡ followed_by (pairs_view pairs) (pair p.0.items (view p.1) more)
followed_by-push [] p more = refl
followed_by-push (q ∷ qs) p more = ap (pair q.0.items (view q.1)) (followed_by-push qs p more)

take-more : {X : Type 0} (m n : ℕ) (xs : List X) → take (m + n) xs ≡ take m xs ++ take n (drop m xs)
take-more zero n xs = rw zero-add refl
take-more (suc m) n [] = take_all (suc m + n) [] (omega arith) ∙ sym (take_all n [] (omega arith))
take-more (suc m) n (x ∷ xs) = rw suc-add (ap (λ ys. x ∷ ys) (take-more m n xs))

-- what holds of the first files and of those after them
pub all_to : {X : Type 0} (P : X → Type 0) (m n : ℕ) (xs : List X) → All P (take m xs) → All P (take n (drop m xs))
    → All P (take (m + n) xs)
all_to P m n xs before here = rw (take-more m n xs) (All-append P (take m xs) (take n (drop m xs)) before here)

pub first_has : (deep : ℕ) (name : List ℕ) (path : List (List ℕ)) → deep < length path → name ≡ get_or path deep name
    → has_name_at deep name path ≡ true
first_has deep name path within is = ap (is_first name) (drop_more path deep name within) ∙ rw (← is) (name_own name)

pub faultless_named : (name : List ℕ) → name_fault name ≡ None → name ≢ []
faultless_named [] faultless e = cc
faultless_named (c ∷ cs) faultless e = cc

-- a slice from an index to the end
pub to_end : {X : Type 0} (n : ℕ) (xs : List X) → take (length xs - n) (drop n xs) ≡ drop n xs
to_end n xs = take_all (length xs - n) (drop n xs) (omega (arith, length-drop n xs))
