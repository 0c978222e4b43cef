-- A step of the search for a folder that is a file too.
use Rattle.tor_tree.proofs.Cited.{◌≡◌, Bor, ◌==◌, ℕ, true, false, suc, ◌||◌, List, [], ◌∷◌, length, refl, ap}
use Rattle.tor_tree.proofs.Cited.{arith, eqb-true, Data, Pairs, pair, keys_of, ref_pairs_view, ItemRef, entries_mix}
use Rattle.tor_tree.proofs.Cited.{folder_mixes}
use Rattle.tor_tree.proofs.Cited.{Bool, ◌+◌, ◌<◌, ◌∙◌, drop, get_or, ref_view, sym}
use Rattle.tor_tree.proofs.WalkSteps.{pairs_from, view_dictionary}

pub mix_empty : (key : List ℕ) (value : Data) (pairs : Pairs) → (length key == 0) ≡ true
    → entries_mix (pair key value pairs) ≡ entries_mix pairs
mix_empty [] value pairs e = refl
mix_empty (c ∷ cs) value pairs e = absurd (omega (arith, eqb-true (length (c ∷ cs)) 0 e))

pub mix_named : (key : List ℕ) (value : Data) (pairs : Pairs) → (length key == 0) ≡ false
    → entries_mix (pair key value pairs) ≡ (folder_mixes value || entries_mix pairs)
mix_named [] value pairs e = cc
mix_named (c ∷ cs) value pairs e = refl

-- such a folder is here
pub mixes_here : (items : List (Bor (List ℕ) × ItemRef)) (i : ℕ) (p : Bor (List ℕ) × ItemRef) → i < length items
    → p ≡ get_or items i p → entries_mix (ref_pairs_view (drop i items)) ≡ entries_mix (ref_pairs_view items)
    → (length p.0.now == 0) ≡ false → folder_mixes (ref_view p.1) ≡ true → true ≡ entries_mix (ref_pairs_view items)
mixes_here items i p within is so_far named mixed =
    let rest = ref_pairs_view (drop (i + 1) items) in
    sym (sym so_far ∙ ap entries_mix (pairs_from items i p within is)
    ∙ mix_named p.0.now (ref_view p.1) rest named ∙ ap (λ (b : Bool). b || entries_mix rest) mixed)

-- or further on
pub mixes_later : (items : List (Bor (List ℕ) × ItemRef)) (i : ℕ) (p : Bor (List ℕ) × ItemRef) → i < length items
    → p ≡ get_or items i p → entries_mix (ref_pairs_view (drop i items)) ≡ entries_mix (ref_pairs_view items)
    → (length p.0.now == 0) ≡ false → folder_mixes (ref_view p.1) ≡ false
    → entries_mix (ref_pairs_view (drop (i + 1) items)) ≡ entries_mix (ref_pairs_view items)
mixes_later items i p within is so_far named mixed =
    let rest = ref_pairs_view (drop (i + 1) items) in
    sym (ap entries_mix (pairs_from items i p within is) ∙ mix_named p.0.now (ref_view p.1) rest named
    ∙ ap (λ (b : Bool). b || entries_mix rest) mixed) ∙ so_far

-- a file is no such folder
pub no_folder : (items : List (Bor (List ℕ) × ItemRef)) (i : ℕ) (p : Bor (List ℕ) × ItemRef) → i < length items
    → p ≡ get_or items i p → entries_mix (ref_pairs_view (drop i items)) ≡ entries_mix (ref_pairs_view items)
    → (length p.0.now == 0) ≡ true
    → entries_mix (ref_pairs_view (drop (i + 1) items)) ≡ entries_mix (ref_pairs_view items)
no_folder items i p within is so_far empty =
    let rest = ref_pairs_view (drop (i + 1) items) in
    sym (ap entries_mix (pairs_from items i p within is) ∙ mix_empty p.0.now (ref_view p.1) rest empty) ∙ so_far

pub length_keys : (pairs : List (Bor (List ℕ) × ItemRef)) → length (keys_of (ref_pairs_view pairs)) ≡ length pairs
length_keys [] = refl
length_keys (p ∷ ps) = ap suc (length_keys ps)

pub ruleset mixing = (mix_empty, mix_named, length_keys, view_dictionary)
