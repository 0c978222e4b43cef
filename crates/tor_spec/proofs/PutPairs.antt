-- The value of a key where one more pair was put where its key belongs, and the layers that are found so.
use Rattle.tor_spec.proofs.Names.{◌≡◌, ◌<◌, ℕ, zero, suc, Bool, true, false, true≢false, cond, List, [], ◌∷◌, length}
use Rattle.tor_spec.proofs.Names.{nat_le, Option, Some, unwrap_or, Ordering, Less, Equal, Greater, refl, sym, ap, ◌∙◌}
use Rattle.tor_spec.proofs.Names.{get_or, arith, texts_ties, AllByRecursion, is_eq, match_ordering, bytes_eq}
use Rattle.tor_spec.proofs.Names.{cond-false, cond-true, leb-false, lt-leb, bytes_eq-Decides, Data, string, Pairs}
use Rattle.tor_spec.proofs.Names.{no_pairs, pair, value_in, piece_layer, root_of, put, File, facts_of_files, joined}
use Rattle.tor_spec.proofs.Names.{piece_layers, name_cmp}

same_test : {X : Type 0} (b c : Bool) (x y z : X) → b ≡ c → cond b x z ≡ cond b x (cond c y z)
same_test true c x y z e = refl
same_test false true x y z e = absurd (true≢false (sym e))
same_test false false x y z e = refl

other_test : {X : Type 0} (b c : Bool) (x y z : X) → (b ≡ true → c ≡ true → ⊥)
    → cond c y (cond b x z) ≡ cond b x (cond c y z)
other_test true true x y z apart = absurd (apart refl refl)
other_test true false x y z apart = refl
other_test false true x y z apart = refl
other_test false false x y z apart = refl

equal_names : (one other : List ℕ) → name_cmp one other ≡ Equal → one ≡ other
equal_names one other e = (bytes_eq-Decides one other).0 (texts_ties one other ∙ ap is_eq e)

greater_names : (one other : List ℕ) → name_cmp one other ≡ Greater → one ≡ other → ⊥
greater_names one other e same =
    true≢false (sym ((bytes_eq-Decides one other).1 same) ∙ texts_ties one other ∙ ap is_eq e)

-- a key has the value that was put there, every other key what it had
pub value_in-put : (name key : List ℕ) (value : Data) (pairs : Pairs)
    → value_in key (put name value pairs) ≡ cond (bytes_eq name key) (Some value) (value_in key pairs)
value_in-put name key value no_pairs = refl
value_in-put name key value (pair k v pairs) =
    by_order (name_cmp name k) refl (value_in-put name key value pairs)
  where
    by_order : (r : Ordering) → name_cmp name k ≡ r
        → value_in key (put name value pairs) ≡ cond (bytes_eq name key) (Some value) (value_in key pairs)
        → value_in key (match_ordering r (pair name value (pair k v pairs)) (pair name value pairs)
        (pair k v (put name value pairs)))
        ≡ cond (bytes_eq name key) (Some value) (cond (bytes_eq k key) (Some v) (value_in key pairs))
    by_order Less e later = refl
    by_order Equal e later =
        same_test (bytes_eq name key) (bytes_eq k key) (Some value) (Some v) (value_in key pairs)
        (ap (λ (n : List ℕ). bytes_eq n key) (equal_names name k e))
    by_order Greater e later =
        ap (λ (rest : Option Data). cond (bytes_eq k key) (Some v) rest) later
        ∙ other_test (bytes_eq name key) (bytes_eq k key) (Some value) (Some v) (value_in key pairs)
        (λ one other. greater_names name k e
        ((bytes_eq-Decides name key).0 one ∙ sym ((bytes_eq-Decides k key).0 other)))

-- the key of a file among the layers
abbrev pub key_of : File → List ℕ
key_of file = unwrap_or (root_of file.content) []

-- the text of its layer
abbrev pub text_of : ℕ → File → List ℕ
text_of p file = joined (piece_layer file.content p)

-- a file longer than a piece that has this key has this text
abbrev pub AgreesAt : ℕ → List ℕ → List ℕ → File → Type 0
AgreesAt p key text file = p < length file.content → key_of file ≡ key → text_of p file ≡ text

-- the layers with that of a file, if it is longer than a piece
abbrev with_layer : ℕ → File → Pairs → Pairs
with_layer p file rest =
    cond (nat_le (length file.content) p) rest (put (key_of file) (string (text_of p file)) rest)

own_layer : (p : ℕ) (key text : List ℕ) (file : File) (rest : Pairs) → AgreesAt p key text file
    → p < length file.content → key_of file ≡ key → value_in key (with_layer p file rest) ≡ Some (string text)
own_layer p key text file rest agrees long is =
    ap (value_in key) (cond-false (nat_le (length file.content) p) rest _ (lt-leb (length file.content) p long))
    ∙ value_in-put (key_of file) key (string (text_of p file)) rest
    ∙ cond-true (bytes_eq (key_of file) key) _ _ ((bytes_eq-Decides (key_of file) key).1 is)
    ∙ ap (λ (t : List ℕ). Some (string t)) (agrees long is)

later_layer : (p : ℕ) (key text : List ℕ) (file : File) (rest : Pairs) → AgreesAt p key text file
    → value_in key rest ≡ Some (string text) → value_in key (with_layer p file rest) ≡ Some (string text)
later_layer p key text file rest agrees later = by_size (nat_le (length file.content) p) refl
  where
    by_key : p < length file.content → (b : Bool) → bytes_eq (key_of file) key ≡ b
        → cond b (Some (string (text_of p file))) (value_in key rest) ≡ Some (string text)
    by_key long true e = ap (λ (t : List ℕ). Some (string t)) (agrees long ((bytes_eq-Decides (key_of file) key).0 e))
    by_key long false e = later

    by_size : (b : Bool) → nat_le (length file.content) p ≡ b
        → value_in key (cond b rest (put (key_of file) (string (text_of p file)) rest)) ≡ Some (string text)
    by_size true e = later
    by_size false e =
        value_in-put (key_of file) key (string (text_of p file)) rest
        ∙ by_key (leb-false (length file.content) p e) (bytes_eq (key_of file) key) refl

-- where all long files of one key have one text, that is found for each of them
pub layer_at : (p : ℕ) (key text : List ℕ) (d : File) (files : List File) (k : ℕ)
    → AllByRecursion (AgreesAt p key text) files → k < length files → p < length (get_or files k d).content
    → key_of (get_or files k d) ≡ key → value_in key (piece_layers p (facts_of_files p files)) ≡ Some (string text)
layer_at p key text d [] k agree within long is = absurd (omega arith)
layer_at p key text d (file ∷ files) zero agree within long is =
    own_layer p key text file (piece_layers p (facts_of_files p files)) agree.0 long is
layer_at p key text d (file ∷ files) (suc k) agree within long is =
    later_layer p key text file (piece_layers p (facts_of_files p files)) agree.0
    (layer_at p key text d files k agree.1 (omega arith) long is)
