-- Files put together in a folder: those in one folder below make its first pair.
use Rattle.tor_tree.proofs.Cited.{◌≡◌, ◌≢◌, ℕ, zero, suc, ◌<◌, Bool, true, false, cond, List, [], ◌∷◌, ◌++◌, length}
use Rattle.tor_tree.proofs.Cited.{take, drop, map, refl, sym, ap, ◌∙◌, arith, false_from_ne_true, take-append-drop}
use Rattle.tor_tree.proofs.Cited.{bytes_eq-Decides, AllByRecursion, Data, dictionary, Pairs, no_pairs, pair, name_eq}
use Rattle.tor_tree.proofs.Cited.{below, is_first, pairs_of_files, put_first, put_under, put_inside}

pub name_is : (m n : List ℕ) → name_eq m n ≡ true → m ≡ n
name_is m n = (bytes_eq-Decides m n).0

pub name_own : (n : List ℕ) → name_eq n n ≡ true
name_own n = (bytes_eq-Decides n n).1 refl

pub first_is : (name : List ℕ) (path : List (List ℕ)) → is_first name path ≡ true → path ≡ name ∷ drop 1 path
first_is name [] h = cc
first_is name (n ∷ ns) h = rw (name_is n name h) refl

-- what goes under another name than the first makes a pair of its own
other_key : (name n key : List ℕ) (value : Data) (pairs : Pairs) (put : Pairs → Pairs) → name_eq n name ≡ false
    → key ≡ n → put_under name put (pair key value pairs) ≡ pair name (dictionary (put no_pairs)) (pair key value pairs)
other_key name n key value pairs put apart same = let other : name_eq key name ≡ false = rw same apart in rw other refl

other_under : (name n : List ℕ) (put under_n : Pairs → Pairs) (pairs : Pairs) → name_eq n name ≡ false
    → put_under name put (put_under n under_n pairs) ≡ pair name (dictionary (put no_pairs)) (put_under n under_n pairs)
other_under name n put under_n no_pairs apart = other_key name n n _ _ put apart refl
other_under name n put under_n (pair key value pairs) apart = by_key (name_eq key n) refl
  where
    by_key : (b : Bool) → name_eq key n ≡ b
        → put_under name put (cond b (pair key (put_inside under_n value) pairs)
        (pair n (dictionary (under_n no_pairs)) (pair key value pairs)))
        ≡ pair name (dictionary (put no_pairs)) (cond b (pair key (put_inside under_n value) pairs)
        (pair n (dictionary (under_n no_pairs)) (pair key value pairs)))
    by_key true e = other_key name n key _ _ put apart (name_is key n e)
    by_key false e = other_key name n n _ _ put apart refl

-- files that do not begin with this name make no first pair of it
other_first : (name : List ℕ) → name ≢ [] → (rest : List (List (List ℕ) × Data))
    → ((file : List (List ℕ) × Data) (files : List (List (List ℕ) × Data)) → rest ≡ file ∷ files
    → is_first name file.0 ≡ false)
    → (put : Pairs → Pairs)
    → put_under name put (pairs_of_files rest) ≡ pair name (dictionary (put no_pairs)) (pairs_of_files rest)
other_first name named [] apart put = refl
other_first name named (([], properties) ∷ rest) apart put =
    other_key name [] [] properties (pairs_of_files rest) put
    (false_from_ne_true _ (λ e. named (sym (name_is [] name e)))) refl
other_first name named ((n ∷ ns, properties) ∷ rest) apart put =
    other_under name n put (put_first ns properties) (pairs_of_files rest) (apart (n ∷ ns, properties) rest refl)

pub pairs_of_group : (name : List ℕ) → name ≢ []
    → (file : List (List ℕ) × Data) (group rest : List (List (List ℕ) × Data))
    → AllByRecursion (λ f. is_first name f.0 ≡ true) (file ∷ group)
    → ((f : List (List ℕ) × Data) (fs : List (List (List ℕ) × Data)) → rest ≡ f ∷ fs → is_first name f.0 ≡ false)
    → pairs_of_files (file ∷ group ++ rest)
    ≡ pair name (dictionary (pairs_of_files (map (below 1) (file ∷ group)))) (pairs_of_files rest)
pairs_of_group name named file [] rest all apart =
    rw (first_is name file.0 all.0) (other_first name named rest apart (put_first (drop 1 file.0) file.1))
pairs_of_group name named file (next ∷ group) rest all apart =
    let tail = pairs_of_group name named next group rest all.1 apart in
    rw (first_is name file.0 all.0, tail) (rw (name_own name) refl)

-- the first files, which alone begin with a name, make the first pair
pub pair_of_group : (name : List ℕ) → name ≢ [] → (files : List (List (List ℕ) × Data)) (count : ℕ) → 0 < count
    → 0 < length files → AllByRecursion (λ f. is_first name f.0 ≡ true) (take count files)
    → ((f : List (List ℕ) × Data) (fs : List (List (List ℕ) × Data)) → drop count files ≡ f ∷ fs
    → is_first name f.0 ≡ false)
    → pairs_of_files files
    ≡ pair name (dictionary (pairs_of_files (map (below 1) (take count files)))) (pairs_of_files (drop count files))
pair_of_group name named [] count some more all apart = absurd (omega arith)
pair_of_group name named (file ∷ files) zero some more all apart = absurd (omega arith)
pair_of_group name named (file ∷ files) (suc n) some more all apart =
    let whole : take n files ++ drop n files ≡ files = take-append-drop n files in
    ap (λ fs. pairs_of_files (file ∷ fs)) (sym whole)
    ∙ pairs_of_group name named file (take n files) (drop n files) all apart
