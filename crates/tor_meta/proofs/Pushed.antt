-- One more field of a dictionary.
use Rattle.std.proofs.Common.{◌≡◌, ℕ, Vec, Global, List, [], ◌∷◌, ◌++◌, Option, None, Some, refl, sym, ap, ◌∙◌}
use Rattle.std.proofs.Common.{append_assoc}
use Rattle.tor_bencode.specs.Data.{Data, string, Pairs, no_pairs, pair}
use Rattle.tor_bencode.specs.View.{pairs_view, view}
use Rattle.tor_bencode.specs.declared.item.Item.{Item}
use Rattle.tor_spec.specs.Dictionary.{present}
use Rattle.tor_meta.specs.steps.Layers.{pairs_of_map}

-- pairs, and more after them
abbrev followed_by : Pairs → Pairs → Pairs
followed_by no_pairs more = more
followed_by (pair key value pairs) more = pair key value (followed_by pairs more)

followed_by-none : (pairs : Pairs) → followed_by pairs no_pairs ≡ pairs
followed_by-none no_pairs = refl
followed_by-none (pair key value pairs) = ap (pair key value) (followed_by-none pairs)

pairs_view-push : (pairs : List (Vec ℕ Global × Item)) (p : Vec ℕ Global × Item)
    → pairs_view (pairs ++ p ∷ []) ≡ followed_by (pairs_view pairs) (pair p.0.items (view p.1) no_pairs)
pairs_view-push [] p = refl
pairs_view-push (q ∷ qs) p = ap (pair q.0.items (view q.1)) (pairs_view-push qs p)

present-push : (fields : List (List ℕ × Option Data)) (field : List ℕ × Option Data)
    → present (fields ++ field ∷ []) ≡ followed_by (present fields) (present (field ∷ []))
present-push [] field = refl
present-push ((key, None) ∷ fields) field = present-push fields field
present-push ((key, Some value) ∷ fields) field = ap (pair key value) (present-push fields field)

pub field_there : (fields : List (List ℕ × Option Data)) (key : List ℕ) (value : Item)
    (pairs : List (Vec ℕ Global × Item)) (p : Vec ℕ Global × Item) → pairs_view pairs ≡ present fields
    → p.0.items ≡ key → p.1 ≡ value
    → pairs_view (pairs ++ p ∷ []) ≡ present (fields ++ (key, Some (view value)) ∷ [])
field_there fields key value pairs p so_far is_key is_value =
    pairs_view-push pairs p
    ∙ rw (so_far, is_key, is_value) (sym (present-push fields (key, Some (view value))))

pub field_absent : (fields : List (List ℕ × Option Data)) (key : List ℕ)
    → present (fields ++ (key, None) ∷ []) ≡ present fields
field_absent fields key = present-push fields (key, None) ∙ followed_by-none (present fields)

-- fields that were put one after the other behind some
pub four_after : {X : Type 0} (xs : List X) (a b c d : X)
    → (((xs ++ a ∷ []) ++ b ∷ []) ++ c ∷ []) ++ d ∷ [] ≡ xs ++ a ∷ b ∷ c ∷ d ∷ []
four_after xs a b c d =
    append_assoc ((xs ++ a ∷ []) ++ b ∷ []) (c ∷ []) (d ∷ [])
    ∙ append_assoc (xs ++ a ∷ []) (b ∷ []) (c ∷ d ∷ [])
    ∙ append_assoc xs (a ∷ []) (b ∷ c ∷ d ∷ [])

pub five_after : {X : Type 0} (xs : List X) (a b c d e : X)
    → ((((xs ++ a ∷ []) ++ b ∷ []) ++ c ∷ []) ++ d ∷ []) ++ e ∷ [] ≡ xs ++ a ∷ b ∷ c ∷ d ∷ e ∷ []
five_after xs a b c d e = four_after (xs ++ a ∷ []) b c d e ∙ append_assoc xs (a ∷ []) (b ∷ c ∷ d ∷ e ∷ [])

pairs_of_map-push : (entries : List (List ℕ × Vec ℕ Global)) (entry : List ℕ × Vec ℕ Global)
    → pairs_of_map (entries ++ entry ∷ [])
    ≡ followed_by (pairs_of_map entries) (pair entry.0 (string entry.1.items) no_pairs)
pairs_of_map-push [] entry = refl
pairs_of_map-push (e ∷ es) entry = ap (pair e.0 (string e.1.items)) (pairs_of_map-push es entry)

-- one more entry of a map
pub map_pushed : (pairs : List (Vec ℕ Global × Item)) (entries : List (List ℕ × Vec ℕ Global)) (p : Vec ℕ Global × Item)
    (root : List ℕ) (layer : Vec ℕ Global)
    → pairs_view pairs ≡ pairs_of_map entries → p.0.items ≡ root → view p.1 ≡ string layer.items
    → pairs_view (pairs ++ p ∷ []) ≡ pairs_of_map (entries ++ (root, layer) ∷ [])
map_pushed pairs entries p root layer so_far is_key is_value =
    pairs_view-push pairs p ∙ rw (so_far, is_key, is_value) (sym (pairs_of_map-push entries (root, layer)))
