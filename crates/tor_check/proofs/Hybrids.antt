-- What the code tells of a hybrid is what the conditions ask.
use Rattle.tor_check.proofs.Names.{◌≡◌, ℕ, true, false, true≢false, Bool, map, not, ◌||◌, List, [], None, Some, ap}
use Rattle.tor_check.proofs.Names.{refl, sym, option_map, if◌then◌else◌, Data, refusal_for, all_listed, files_from}
use Rattle.tor_check.proofs.Names.{sized_files, tree_pairs, first_of_alignment, files_if, listed_if, Listed, side_files}
use Rattle.tor_check.proofs.Names.{without_padding, info_of, kind_of, piece_length_of, alignment, files_differ}
use Rattle.tor_check.proofs.Names.{attr_differs, files_of_both, has_wrong_tail, is_misaligned_after, lettered}
use Rattle.tor_check.proofs.Names.{listed_files, same_files}
use Rattle.tor_check.proofs.Names.{some_letters_differ, tree_files, entry_of_file}
use Rattle.tor_check.proofs.Names.{file_of_list, files_of, has_v1, has_v2, Kind, V1, V2, Hybrid, TreeFile}
use Rattle.tor_check.proofs.Names.{layers_of, viewed}
use Rattle.tor_check.proofs.SideLemmas.{listed_is_side, sized_in_side}
use Rattle.tor_check.specs.declared.refusal.Refusal.TheVariants as refusals

pub tells_differ : (info : Data) (listed : List Listed) (files : List TreeFile) (answer : Bool)
    → has_v1 (kind_of info) ≡ true → has_v2 (kind_of info) ≡ true → listed ≡ listed_if info → files ≡ files_if info
    → answer ≡ not (same_files (sized_files listed) (tree_pairs files)) → files_differ info ≡ answer
tells_differ info listed files answer v1 v2 read tree e =
    let listed' : listed ≡ all_listed info = rw v1 at read in
    let files' : files ≡ tree_files info = rw v2 at tree in
    sym (rw (files', sized_in_side listed, listed', listed_is_side info) at e)

pub tells_alignment : (info : Data) (listed : List Listed) (piece_length : ℕ) (answer : Bool)
    → has_v1 (kind_of info) ≡ true → listed ≡ listed_if info → piece_length ≡ piece_length_of info
    → answer ≡ (is_misaligned_after piece_length [] (files_from listed)
    || has_wrong_tail piece_length (files_from listed))
    → alignment info ≡ answer
tells_alignment info listed piece_length answer v1 read is e =
    let listed' : listed ≡ all_listed info = rw v1 at read in
    sym (rw (listed', listed_is_side info, is) at e)

pub at_differ : (info : Data) → has_v1 (kind_of info) ≡ true → has_v2 (kind_of info) ≡ true → files_differ info ≡ true
    → option_map refusal_for (first_of_alignment info) ≡ Some refusals.FilesDiffer
at_differ info v1 v2 differ = rw (v1, v2, differ) refl

pub at_alignment : (info : Data) → has_v1 (kind_of info) ≡ true → has_v2 (kind_of info) ≡ true
    → files_differ info ≡ false → alignment info ≡ true
    → option_map refusal_for (first_of_alignment info) ≡ Some refusals.Alignment
at_alignment info v1 v2 same elsewhere = rw (v1, v2, same, elsewhere) refl

pub tells_letters : (info : Data) (listed : List Listed) (files : List TreeFile) (answer : Bool)
    → has_v1 (kind_of info) ≡ true → has_v2 (kind_of info) ≡ true → listed ≡ listed_if info → files ≡ files_if info
    → answer ≡ some_letters_differ (without_padding (files_from listed)) files → attr_differs info ≡ answer
tells_letters info listed files answer v1 v2 read tree e =
    let listed' : listed ≡ all_listed info = rw v1 at read in
    let files' : files ≡ tree_files info = rw v2 at tree in
    sym (rw (files', listed', listed_is_side info) at e)

pub at_letters : (info : Data) → has_v1 (kind_of info) ≡ true → has_v2 (kind_of info) ≡ true
    → files_differ info ≡ false → alignment info ≡ false → attr_differs info ≡ true
    → option_map refusal_for (first_of_alignment info) ≡ Some refusals.AttrDiffer
at_letters info v1 v2 same aligned differ = rw (v1, v2, same, aligned, differ) refl

pub at_end : (info : Data) → has_v1 (kind_of info) ≡ true → has_v2 (kind_of info) ≡ true
    → files_differ info ≡ false → alignment info ≡ false → attr_differs info ≡ false
    → first_of_alignment info ≡ None
at_end info v1 v2 same aligned letters = rw (v1, v2, same, aligned, letters) refl

-- without a v2 side there is a v1 side
list_if_no_tree : (kind : Kind) → has_v2 kind ≡ false → has_v1 kind ≡ true
list_if_no_tree V1 e = refl
list_if_no_tree V2 e = absurd (true≢false e)
list_if_no_tree Hybrid e = absurd (true≢false e)

pub files_of_list_alone : (root : Data) (listed : List Listed) → has_v2 (kind_of (info_of root)) ≡ false
    → listed ≡ listed_if (info_of root)
    → map file_of_list (without_padding (files_from listed)) ≡ files_of root
files_of_list_alone root listed alone read =
    let v1 = list_if_no_tree (kind_of (info_of root)) alone in
    let listed' : listed ≡ all_listed (info_of root) = rw v1 at read in
    rw (alone, listed', listed_is_side (info_of root)) refl

-- the files of a tree with the letters of both sides
pub lettered_if : (info : Data) (listed : List Listed) (files : List TreeFile) → has_v2 (kind_of info) ≡ true
    → listed ≡ listed_if info → files ≡ files_if info
    → lettered (without_padding (files_from listed)) files ≡ files_of_both info
lettered_if info listed files v2 read tree =
    let files' : files ≡ tree_files info = rw v2 at tree in
    rw (files', read) (ap (λ some. lettered some (tree_files info)) (by_side (has_v1 (kind_of info))))
  where
    by_side : (b : Bool) → without_padding (files_from (if b then all_listed info else []))
        ≡ (if b then listed_files info else [])
    by_side true = ap without_padding (listed_is_side info)
    by_side false = refl

-- each with its layer
pub tree_told : (root : Data) (p : ℕ) (some : Data) (files : List TreeFile) → has_v2 (kind_of (info_of root)) ≡ true
    → p ≡ piece_length_of (info_of root) → some ≡ layers_of root → files ≡ files_of_both (info_of root)
    → map (viewed p some) files ≡ files_of root
tree_told root p some files v2 length layers both = rw (v2, length, layers, both) refl

pub entries_if : (info : Data) (listed : List Listed) → listed ≡ listed_if info
    → map entry_of_file (files_from listed)
    ≡ (if has_v1 (kind_of info) then map entry_of_file (side_files info) else [])
entries_if info listed read =
    rw read (by_side (has_v1 (kind_of info)))
  where
    by_side : (b : Bool) → map entry_of_file (files_from (if b then all_listed info else []))
        ≡ (if b then map entry_of_file (side_files info) else [])
    by_side true = ap (map entry_of_file) (listed_is_side info)
    by_side false = refl
