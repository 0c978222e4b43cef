-- The entries of a made torrent have the shape of entries, no negative length and no letter of a symbolic link; its v1
-- side has no fault that the list of its files has not.
use Rattle.tor_spec.proofs.Names.{◌≡◌, ◌≢◌, ℕ, pos, Bool, true, false, not, List, [], ◌∷◌, map, refl, ap, ◌∙◌, int_lt}
use Rattle.tor_spec.proofs.Names.{is_none, None, Some, arith, and_from, le-ltb, or_from, recursion_from_All}
use Rattle.tor_spec.proofs.Names.{AllByRecursion, list_all, list_any, string, entry_dictionary, strings, are_names}
use Rattle.tor_spec.proofs.Names.{is_name, is_no_entry, is_path, name_fault, IsFilePath, has_letter}
use Rattle.tor_spec.proofs.Names.{has_negative_length, letter_l, Entry, length}
use Rattle.tor_spec.proofs.Names.{ListedFile, lengths_of}
use Rattle.tor_spec.proofs.Names.{File, paths_of, sizes_of}
use Rattle.tor_spec.proofs.MadeListEntries.{items_back, listed_file}

all_names : (names : List (List ℕ)) → AllByRecursion (λ name. name_fault name ≡ None) names
    → list_all is_name (map string names) ≡ true
all_names [] h = refl
all_names (name ∷ names) h = and_from _ _ (ap is_none h.0) (all_names names h.1)

some_names : (path : List (List ℕ)) → path ≢ [] → AllByRecursion (λ name. name_fault name ≡ None) path
    → are_names (map string path) ≡ true
some_names [] some h = absurd (some refl)
some_names (name ∷ names) some h = all_names (name ∷ names) h

-- the names of a file's path are a path
path_read : (path : List (List ℕ)) → IsFilePath path → is_path (Some (strings path)) ≡ true
path_read path is =
    ap are_names (items_back (map string path)) ∙ some_names path is.some (recursion_from_All _ path is.named)

-- a file has a path
abbrev pub HasPath : Entry → Type 0
HasPath entry = entry.pad ≡ false → IsFilePath entry.path

is_entry : (entry : Entry) (pad exec hidden : Bool) → (pad ≡ false → IsFilePath entry.path)
    → is_no_entry (entry_dictionary (record entry { pad = pad; exec = exec; hidden = hidden })) ≡ false
is_entry entry true exec hidden has = refl
is_entry entry false true true has = ap not (path_read entry.path (has refl))
is_entry entry false true false has = ap not (path_read entry.path (has refl))
is_entry entry false false true has = ap not (path_read entry.path (has refl))
is_entry entry false false false has = ap not (path_read entry.path (has refl))

pub are_entries : (entries : List Entry) → AllByRecursion HasPath entries
    → list_any is_no_entry (map entry_dictionary entries) ≡ false
are_entries [] h = refl
are_entries (entry ∷ entries) h =
    or_from _ _ (is_entry entry entry.pad entry.exec entry.hidden h.0) (are_entries entries h.1)

pub no_negative : (n : ℕ) → int_lt (pos n) (pos 0) ≡ false
no_negative n = le-ltb n 0 (omega arith)

positive_entry : (entry : Entry) (pad exec hidden : Bool)
    → has_negative_length (entry_dictionary (record entry { pad = pad; exec = exec; hidden = hidden })) ≡ false
positive_entry entry true exec hidden = no_negative entry.length
positive_entry entry false true true = no_negative entry.length
positive_entry entry false true false = no_negative entry.length
positive_entry entry false false true = no_negative entry.length
positive_entry entry false false false = no_negative entry.length

pub positive_entries : (entries : List Entry) → list_any has_negative_length (map entry_dictionary entries) ≡ false
positive_entries [] = refl
positive_entries (entry ∷ entries) =
    or_from _ _ (positive_entry entry entry.pad entry.exec entry.hidden) (positive_entries entries)

no_link_in : (entry : Entry) (pad exec hidden : Bool)
    → has_letter letter_l (entry_dictionary (record entry { pad = pad; exec = exec; hidden = hidden })) ≡ false
no_link_in entry true exec hidden = refl
no_link_in entry false true true = refl
no_link_in entry false true false = refl
no_link_in entry false false true = refl
no_link_in entry false false false = refl

pub no_link : (entries : List Entry) → list_any (has_letter letter_l) (map entry_dictionary entries) ≡ false
no_link [] = refl
no_link (entry ∷ entries) = or_from _ _ (no_link_in entry entry.pad entry.exec entry.hidden) (no_link entries)

pub paths_listed : (files : List File)
    → map (λ (file : ListedFile). file.path) (map listed_file files) ≡ paths_of (sizes_of files)
paths_listed [] = refl
paths_listed (file ∷ files) = ap (λ paths. file.path ∷ paths) (paths_listed files)

pub lengths_listed : (files : List File)
    → map (λ (file : ListedFile). file.size) (map listed_file files) ≡ lengths_of (sizes_of files)
lengths_listed [] = refl
lengths_listed (file ∷ files) = ap (λ lengths. length file.content ∷ lengths) (lengths_listed files)

pub same_count : (files : List File) → length (map listed_file files) ≡ length (paths_of (sizes_of files))
same_count [] = refl
same_count (file ∷ files) = omega (arith, same_count files)
