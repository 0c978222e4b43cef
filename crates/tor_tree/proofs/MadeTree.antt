-- The tree that files are put together in describes them, and is tidy.
use Rattle.tor_tree.proofs.Cited.{◌≡◌, ◌≢◌, ℕ, Bool, true, false, cond, List, [], ◌∷◌, refl, sym, ap, ◌∙◌}
use Rattle.tor_tree.proofs.Cited.{AllByRecursion, Data, integer, string, list, dictionary, Pairs, no_pairs, pair}
use Rattle.tor_tree.proofs.Cited.{entries_in, name_eq, AreTidy, IsTidyFile, pairs_of_files, put_first, put_under}
use Rattle.tor_tree.proofs.Cited.{put_inside}
use Rattle.tor_tree.proofs.Groups.{name_is}

pub put_first-some : (path : List (List ℕ)) (properties : Data) (pairs : Pairs)
    → put_first path properties pairs ≡ no_pairs → ⊥
put_first-some [] properties pairs e = cc
put_first-some (name ∷ names) properties no_pairs e = cc
put_first-some (name ∷ names) properties (pair key value pairs) e = by_key (name_eq key name) e
  where
    by_key : (b : Bool)
        → cond b (pair key (put_inside (put_first names properties) value) pairs)
        (pair name (dictionary (put_first names properties no_pairs)) (pair key value pairs)) ≡ no_pairs
        → ⊥
    by_key true e = cc
    by_key false e = cc

module _ (names : List (List ℕ)) (properties : Data) (put : Pairs → Pairs)
    (tidy_put : (pairs : Pairs) → AreTidy pairs → AreTidy (put pairs))
    (some : (pairs : Pairs) → put pairs ≡ no_pairs → ⊥) where
  tidy_new : (name : List ℕ) (pairs : Pairs) → name ≢ [] → AreTidy pairs
      → AreTidy (pair name (dictionary (put no_pairs)) pairs)
  tidy_new [] pairs named tidy = absurd (named refl)
  tidy_new (c ∷ cs) pairs named tidy = ((λ e. some no_pairs cc), tidy_put no_pairs tt, tidy)

  tidy_joined : (name key : List ℕ) (value : Data) (pairs : Pairs) → name ≢ [] → key ≡ name
      → AreTidy (pair key value pairs) → AreTidy (pair key (put_inside put value) pairs)
  tidy_joined name [] value pairs named same tidy = absurd (named (sym same))
  tidy_joined name (c ∷ cs) (dictionary inside) pairs named same tidy =
      ((λ e. some inside cc), tidy_put inside tidy.1, tidy.2)
  tidy_joined name (c ∷ cs) (integer n) pairs named same tidy = absurd tidy.1
  tidy_joined name (c ∷ cs) (string bytes) pairs named same tidy = absurd tidy.1
  tidy_joined name (c ∷ cs) (list items) pairs named same tidy = absurd tidy.1

  tidy_under : (name : List ℕ) (pairs : Pairs) → name ≢ [] → AreTidy pairs → AreTidy (put_under name put pairs)
  tidy_under name no_pairs named tidy = tidy_new name no_pairs named tt
  tidy_under name (pair key value pairs) named tidy = by_key (name_eq key name) refl
    where
      by_key : (b : Bool) → name_eq key name ≡ b
          → AreTidy (cond b (pair key (put_inside put value) pairs)
          (pair name (dictionary (put no_pairs)) (pair key value pairs)))
      by_key true e = tidy_joined name key value pairs named (name_is key name e) tidy
      by_key false e = tidy_new name (pair key value pairs) named tidy

  module _ (told : (pairs : Pairs) → AreTidy pairs
      → entries_in (put pairs) ≡ (names, properties) ∷ entries_in pairs) where
    entries_new : (name : List ℕ) (pairs : Pairs) → name ≢ []
        → entries_in (pair name (dictionary (put no_pairs)) pairs) ≡ (name ∷ names, properties) ∷ entries_in pairs
    entries_new [] pairs named = absurd (named refl)
    entries_new (c ∷ cs) pairs named = rw (told no_pairs tt) refl

    entries_joined : (name key : List ℕ) (value : Data) (pairs : Pairs) → name ≢ [] → key ≡ name
        → AreTidy (pair key value pairs)
        → entries_in (pair key (put_inside put value) pairs)
        ≡ (name ∷ names, properties) ∷ entries_in (pair key value pairs)
    entries_joined name [] value pairs named same tidy = absurd (named (sym same))
    entries_joined name (c ∷ cs) (dictionary inside) pairs named same tidy = rw (told inside tidy.1, ← same) refl
    entries_joined name (c ∷ cs) (integer n) pairs named same tidy = absurd tidy.1
    entries_joined name (c ∷ cs) (string bytes) pairs named same tidy = absurd tidy.1
    entries_joined name (c ∷ cs) (list items) pairs named same tidy = absurd tidy.1

    entries_under : (name : List ℕ) (pairs : Pairs) → name ≢ [] → AreTidy pairs
        → entries_in (put_under name put pairs) ≡ (name ∷ names, properties) ∷ entries_in pairs
    entries_under name no_pairs named tidy = entries_new name no_pairs named
    entries_under name (pair key value pairs) named tidy = by_key (name_eq key name) refl
      where
        by_key : (b : Bool) → name_eq key name ≡ b
            → entries_in (cond b (pair key (put_inside put value) pairs) (pair name (dictionary (put no_pairs))
            (pair key value pairs))) ≡ (name ∷ names, properties) ∷ entries_in (pair key value pairs)
        by_key true e = entries_joined name key value pairs named (name_is key name e) tidy
        by_key false e = entries_new name (pair key value pairs) named

pub put_first-tidy : (path : List (List ℕ)) (properties : Data) → AllByRecursion (λ name. name ≢ []) path
    → IsTidyFile properties → (pairs : Pairs) → AreTidy pairs → AreTidy (put_first path properties pairs)
put_first-tidy [] properties named tidy_file pairs tidy = (tidy_file, tidy)
put_first-tidy (name ∷ names) properties named tidy_file pairs tidy =
    tidy_under names properties (put_first names properties) (put_first-tidy names properties named.1 tidy_file)
    (put_first-some names properties) name pairs named.0 tidy

pub put_first-entries : (path : List (List ℕ)) (properties : Data) → AllByRecursion (λ name. name ≢ []) path
    → IsTidyFile properties → (pairs : Pairs) → AreTidy pairs
    → entries_in (put_first path properties pairs) ≡ (path, properties) ∷ entries_in pairs
put_first-entries [] properties named tidy_file pairs tidy = refl
put_first-entries (name ∷ names) properties named tidy_file pairs tidy =
    entries_under names properties (put_first names properties) (put_first-tidy names properties named.1 tidy_file)
    (put_first-some names properties) (put_first-entries names properties named.1 tidy_file) name pairs named.0 tidy

-- files that have names and tidy properties
abbrev pub AreReady : List (List (List ℕ) × Data) → Type 0
AreReady files = AllByRecursion (λ file. AllByRecursion (λ name. name ≢ []) file.0 × IsTidyFile file.1) files

pub made_tidy : (files : List (List (List ℕ) × Data)) → AreReady files → AreTidy (pairs_of_files files)
made_tidy [] ready = tt
made_tidy (file ∷ files) ready =
    put_first-tidy file.0 file.1 ready.0.0 ready.0.1 (pairs_of_files files) (made_tidy files ready.1)

pub made_entries : (files : List (List (List ℕ) × Data)) → AreReady files → entries_in (pairs_of_files files) ≡ files
made_entries [] ready = refl
made_entries (file ∷ files) ready =
    put_first-entries file.0 file.1 ready.0.0 ready.0.1 (pairs_of_files files) (made_tidy files ready.1)
    ∙ ap (λ fs. file ∷ fs) (made_entries files ready.1)
