-- The bytes of worked torrents of files with letters. Hashes and sums are any bytes.
use Rattle.tor_spec.proofs.Names.{◌≡◌, ℕ, Bool, true, false, List, [], ◌∷◌, ◌++◌, Option, None, Some, refl, codes}
use Rattle.tor_spec.proofs.Names.{replicate, Attr, Facts, Kind, V1, V2, Hybrid, Settings, Aligned}
use Rattle.tor_spec.proofs.Names.{aligned_entries, base_ten, entry_dictionary, file_entry, no_letters, on_entries}
use Rattle.tor_spec.proofs.Names.{pad_entry, properties_for, root_dictionary, spelling, string, strings, v1_entries}
use Rattle.tor_spec.proofs.WorkedTrees.{dict, number}

abbrev settings_of : Kind → Bool → List ℕ → Settings
settings_of kind single name = record {
  kind = kind;
  single = single;
  name = name;
  piece_length = 16384;
  announce = None;
  is_private = false;
  tail = false;
}

-- a file of one name, no longer than a piece
abbrev facts : List ℕ → ℕ → Option (List ℕ) → Attr → Facts
facts name size root attr = record { path = name ∷ []; size = size; root = root; layer = []; attr = attr }

abbrev exec : Attr
exec = record { exec = true; hidden = false }

abbrev hidden : Attr
hidden = record { exec = false; hidden = true }

abbrev both : Attr
both = record { exec = true; hidden = true }

-- BEP 52: the executable file a
tree_row : spelling
    (root_dictionary (settings_of V2 true (codes "a")) (facts (codes "a") 3 (Some (replicate 32 7)) exec ∷ []) [])
    ≡ codes "d4:infod9:file treed1:ad0:d4:attr1:x6:lengthi3e11:pieces root32:" ++ replicate 32 7
    ++ codes "eee12:meta versioni2e4:name1:a12:piece lengthi16384ee12:piece layersdee"
unfolding base_ten
tree_row = refl

-- BEP 3: a folder with the hidden executable file a, and b
list_row : spelling
    (root_dictionary (settings_of V1 false (codes "f"))
    (facts (codes "a") 2 None both ∷ facts (codes "b") 1 None no_letters ∷ []) (replicate 20 7))
    ≡ codes "d4:infod5:filesld4:attr2:hx6:lengthi2e4:pathl1:aeed6:lengthi1e4:pathl1:beee4:name1:f12:piece lengthi16384e"
    ++ codes "6:pieces20:" ++ replicate 20 7 ++ codes "ee"
unfolding base_ten on_entries
list_row = refl

-- BEP 3: the hidden empty file a
single_row : spelling
    (root_dictionary (settings_of V1 true (codes "a")) (facts (codes "a") 0 None hidden ∷ []) [])
    ≡ codes "d4:infod4:attr1:h6:lengthi0e4:name1:a12:piece lengthi16384e6:pieces0:ee"
unfolding base_ten
single_row = refl

-- BEP 52, BEP 3: the hidden executable file a; both sides say so
both_row : spelling
    (root_dictionary (settings_of Hybrid true (codes "a"))
    (facts (codes "a") 3 (Some (replicate 32 7)) both ∷ []) (replicate 20 7))
    ≡ codes "d4:infod4:attr2:hx9:file treed1:ad0:d4:attr2:hx6:lengthi3e11:pieces root32:" ++ replicate 32 7
    ++ codes "eee6:lengthi3e12:meta versioni2e4:name1:a12:piece lengthi16384e6:pieces20:" ++ replicate 20 7
    ++ codes "e12:piece layersdee"
unfolding base_ten
both_row = refl

-- BEP 47: the hidden file a, its padding, and the executable file b, which has its own letter
padded_entries : on_entries (hidden ∷ exec ∷ [])
    (v1_entries Aligned 16384 ((codes "a" ∷ [], 2) ∷ (codes "b" ∷ [], 1) ∷ []))
    ≡ record { path = codes "a" ∷ []; length = 2; pad = false; exec = false; hidden = true }
    ∷ pad_entry 16382
    ∷ record { path = codes "b" ∷ []; length = 1; pad = false; exec = true; hidden = false }
    ∷ []
unfolding aligned_entries on_entries
padded_entries = refl

padding_entry : (n : ℕ)
    → entry_dictionary (pad_entry n)
    ≡ dict ((codes "attr", string (codes "p")) ∷ (codes "length", number n)
    ∷ (codes "path", strings (pad_entry n).path) ∷ [])
padding_entry n = refl

-- without letters there is no `attr`
bare_properties : (n : ℕ) (root : List ℕ)
    → properties_for no_letters n (Some root)
    ≡ dict ((codes "length", number n) ∷ (codes "pieces root", string root) ∷ [])
bare_properties n root = refl

bare_entry : (path : List (List ℕ)) (n : ℕ)
    → entry_dictionary (file_entry (path, n))
    ≡ dict ((codes "length", number n) ∷ (codes "path", strings path) ∷ [])
bare_entry path n = refl
