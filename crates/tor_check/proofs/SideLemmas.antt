-- What is read of the v1 side is what the conditions speak of.
use Rattle.tor_check.proofs.Names.{◌≡◌, ℕ, ◌+◌, ◌<◌, true, false, Bool, List, [], ◌∷◌, ◌++◌, length, map, take, Option}
use Rattle.tor_check.proofs.Names.{None, Some, slice_index_or, refl, ap, sym, ◌∙◌, sum_by, codes, int_lt, pos, nat_lt}
use Rattle.tor_check.proofs.Names.{unsigned_abs, if◌then◌else◌, list_any, cons_option, filter_map-append, append-nil}
use Rattle.tor_check.proofs.Names.{take-suc, unary_clauses, sum_by-cons, Data, all_listed, file_of_listed, files_from}
use Rattle.tor_check.proofs.Names.{listed_entry, listed_single, size_of_listed, sized, sized_files, Listed, Marks}
use Rattle.tor_check.proofs.Names.{described, entry_file, has_list, joined_size, letter_p, list_length, list_symlink}
use Rattle.tor_check.proofs.Names.{names_of, side_files, single_file, without_padding, ListedFile, part, has_letter}
use Rattle.tor_check.proofs.Names.{has_negative_length, letter_l, MAX_LENGTH}
use Rattle.tor_check.proofs.ListSteps.{any_mapped}
use Rattle.tor_spec.specs.valid.ListSide.{entries_of}

-- with one more file, and with padding
sized_append : (files : List Listed) (file : Listed) (found : Option (List (List ℕ) × ℕ)) → sized file ≡ found
    → sized_files (files ++ file ∷ []) ≡ sized_files files ++ cons_option found []
sized_append files file found e = rw (filter_map-append sized files (file ∷ []), e) refl

pub sized_file : (files : List Listed) (i : ℕ) (file : Listed) (path : List (List ℕ)) → i < length files
    → file.path ≡ Some path
    → slice_index_or files i file ≡ file
    → sized_files (take (i + 1) files) ≡ sized_files (take i files) ++ (path, size_of_listed file) ∷ []
sized_file files i file path within is here =
    let one : take (i + 1) files ≡ take i files ++ file ∷ [] =
    simp unary_clauses (take-suc files i file within ∙ ap (λ x. take i files ++ x ∷ []) here) in
    ap sized_files one ∙ sized_append (take i files) file (Some (path, size_of_listed file)) (rw is refl)

pub sized_padding : (files : List Listed) (i : ℕ) (file : Listed) → i < length files → file.path ≡ None
    → slice_index_or files i file ≡ file
    → sized_files (take (i + 1) files) ≡ sized_files (take i files)
sized_padding files i file within is here =
    let one : take (i + 1) files ≡ take i files ++ file ∷ [] =
    simp unary_clauses (take-suc files i file within ∙ ap (λ x. take i files ++ x ∷ []) here) in
    ap sized_files one ∙ sized_append (take i files) file None (rw is refl) ∙ append-nil (sized_files (take i files))

entry_is_file : (entry : Data) → file_of_listed (listed_entry entry) ≡ entry_file entry
entry_is_file entry = by_letter (has_letter letter_p entry)
  where
    names : List (List ℕ)
    names = names_of (part (codes "path") entry)

    by_letter : (pad : Bool)
        → file_of_listed (record { path = if pad then None else Some names; marks = (listed_entry entry).marks })
        ≡ record {
          path = if pad then [] else names;
          size = unsigned_abs (listed_entry entry).marks.length;
          pad = pad;
          has_attr = (listed_entry entry).marks.has_attr;
          exec = (listed_entry entry).marks.exec;
          hidden = (listed_entry entry).marks.hidden;
        }
    by_letter true = refl
    by_letter false = refl

pub listed_is_side : (info : Data) → files_from (all_listed info) ≡ side_files info
listed_is_side info = by_list (has_list info)
  where
    each : (entries : List Data) → files_from (map listed_entry entries) ≡ map entry_file entries
    each [] = refl
    each (entry ∷ entries) = rw (entry_is_file entry, each entries) refl

    by_list : (b : Bool) → files_from (if b then map listed_entry (entries_of info) else listed_single info ∷ [])
        ≡ (if b then map entry_file (entries_of info) else single_file info ∷ [])
    by_list true = each (entries_of info)
    by_list false = refl

-- a test of what describes a file, passed by one of them
described_any : (info : Data) (p : Listed → Bool) (q : Data → Bool) → ((d : Data) → p (listed_entry d) ≡ q d)
    → p (listed_single info) ≡ q info → list_any p (all_listed info) ≡ list_any q (described info)
described_any info p q entry single = by_list (has_list info)
  where
    each : (entries : List Data) → list_any p (map listed_entry entries) ≡ list_any q entries
    each [] = refl
    each (d ∷ ds) = rw (entry d, each ds) refl

    by_list : (b : Bool) → list_any p (if b then map listed_entry (entries_of info) else listed_single info ∷ [])
        ≡ list_any q (if b then entries_of info else info ∷ [])
    by_list true = each (entries_of info)
    by_list false = rw single refl

pub negative_in_side : (info : Data)
    → list_any (λ (file : Listed). int_lt file.marks.length (pos 0)) (all_listed info) ≡ list_length info
negative_in_side info = described_any info _ has_negative_length (λ d. refl) refl

pub link_in_side : (info : Data) → list_any (λ (file : Listed). file.marks.link) (all_listed info) ≡ list_symlink info
link_in_side info = described_any info _ (has_letter letter_l) (λ d. refl) refl

abbrev pub pairs_of : List ListedFile → List (List (List ℕ) × ℕ)
pairs_of files = map (λ file. (file.path, file.size)) (without_padding files)

-- one more file in front
sized_in_front : (path : Option (List (List ℕ))) (marks : Marks) (files : List Listed)
    → sized_files files ≡ pairs_of (files_from files)
    → sized_files (record { path = path; marks = marks } ∷ files)
    ≡ pairs_of (files_from (record { path = path; marks = marks } ∷ files))
sized_in_front None marks files same = same
sized_in_front (Some path) marks files same = ap (λ more. (path, unsigned_abs marks.length) ∷ more) same

pub sized_in_side : (files : List Listed) → sized_files files ≡ pairs_of (files_from files)
sized_in_side [] = refl
sized_in_side (file ∷ files) = sized_in_front file.path file.marks files (sized_in_side files)

-- the answers of tests of the files that were read
pub tells_negative : (info : Data) (files : List Listed) (answer : Bool) → files ≡ all_listed info
    → answer ≡ list_any (λ (file : Listed). int_lt file.marks.length (pos 0)) files → list_length info ≡ answer
tells_negative info files answer read e =
    sym (e ∙ ap (list_any (λ (file : Listed). int_lt file.marks.length (pos 0))) read ∙ negative_in_side info)

pub tells_link : (info : Data) (files : List Listed) (answer : Bool) → files ≡ all_listed info
    → answer ≡ list_any (λ (file : Listed). file.marks.link) files → list_symlink info ≡ answer
tells_link info files answer read e =
    sym (e ∙ ap (list_any (λ (file : Listed). file.marks.link)) read ∙ link_in_side info)

pub long_in_side : (files : List Listed)
    → list_any (λ file. nat_lt MAX_LENGTH (size_of_listed file)) files
    ≡ list_any (λ (file : ListedFile). nat_lt MAX_LENGTH file.size) (files_from files)
long_in_side files = sym (any_mapped (λ (file : ListedFile). nat_lt MAX_LENGTH file.size) file_of_listed files)

pub size_in_side : (files : List Listed) → sum_by size_of_listed files ≡ joined_size (files_from files)
size_in_side [] = refl
size_in_side (file ∷ files) =
    rw (
      sum_by-cons size_of_listed file files,
      sum_by-cons (λ (f : ListedFile). f.size) (file_of_listed file) (files_from files),
      size_in_side files,
    ) refl

pub tells_long : (info : Data) (files : List Listed) (answer : Bool) → files ≡ all_listed info
    → answer ≡ list_any (λ (file : Listed). nat_lt MAX_LENGTH (size_of_listed file)) files
    → list_any (λ (file : ListedFile). nat_lt MAX_LENGTH file.size) (side_files info) ≡ answer
tells_long info files answer read e =
    sym (e ∙ long_in_side files ∙ ap (λ listed. list_any (λ (file : ListedFile). nat_lt MAX_LENGTH file.size)
    (files_from listed)) read
    ∙ ap (list_any (λ (file : ListedFile). nat_lt MAX_LENGTH file.size)) (listed_is_side info))

pub tells_size : (info : Data) (files : List Listed) → files ≡ all_listed info
    → sum_by size_of_listed files ≡ joined_size (side_files info)
tells_size info files read =
    size_in_side files ∙ ap (λ listed. joined_size (files_from listed)) read ∙ ap joined_size (listed_is_side info)
