-- Letters on entries: what they leave as it is, and who has them.
use Rattle.std.proofs.Common.{◌≡◌, ℕ, zero, suc, ◌<◌, Bool, true, false, cond, List, [], ◌∷◌, ◌++◌, filter, length, map}
use Rattle.std.proofs.Common.{append-nil, drop, take, take_all, set, get_or, slice_index_or, arith, refl, ap, ap₂}
use Rattle.std.proofs.Common.{◌+◌, ◌∙◌, ◌≤◌, sum_by, sym}
use Rattle.std.proofs.lemmas.List.{drop_all}
use Rattle.std.proofs.lemmas.List.Sums.{sum_by-cons}
use Rattle.std.specs.List.{AllByRecursion}
use Rattle.tor_tree.specs.Letters.{no_letters}
use Rattle.tor_tree.specs.declared.attr.Attr.{Attr}
use Rattle.tor_v1.specs.Content.{file_entries, joined_content, v1_pieces}
use Rattle.tor_v1.specs.Entries.{aligned_entries, file_entry, pad_entry, v1_entries, with_attr, with_letters}
use Rattle.tor_v1.specs.Piece.{piece_sums, zeros}
use Rattle.tor_v1.specs.declared.entry.Entry.{Entry}
use Rattle.tor_v1.specs.declared.layout.Layout.{Layout}
use Rattle.tor_v1.specs.declared.layout.Layout.TheVariants.{Joined, Aligned, AlignedTail}

-- what letters do not change
pub kept : {X : Type 0} (f : Entry → X) → ((attr : Attr) (entry : Entry) → f (with_attr attr entry) ≡ f entry)
    → (attrs : List Attr) (entries : List Entry) → map f (with_letters attrs entries) ≡ map f entries
unfolding with_letters
kept f same attrs [] = refl
kept f same attrs (entry ∷ entries) = by_pad entry.pad (λ letters. kept f same letters entries)
  where
    by_pad : (b : Bool) → ((letters : List Attr) → map f (with_letters letters entries) ≡ map f entries)
        → map f (cond b (entry ∷ with_letters attrs entries)
        (with_attr (slice_index_or attrs 0 no_letters) entry ∷ with_letters (drop 1 attrs) entries))
        ≡ f entry ∷ map f entries
    by_pad true others = ap (λ rest. f entry ∷ rest) (others attrs)
    by_pad false others =
        ap₂ (λ x xs. x ∷ xs) (same (slice_index_or attrs 0 no_letters) entry) (others (drop 1 attrs))

-- the entry, as padding or as a file
abbrev as_pad : Bool → Entry → Entry
as_pad pad entry = record {
  path = entry.path;
  length = entry.length;
  pad = pad;
  exec = entry.exec;
  hidden = entry.hidden;
}

-- what letters do not change of the entries that are no padding
pub files_kept : {X : Type 0} (f : Entry → X) → ((attr : Attr) (entry : Entry) → f (with_attr attr entry) ≡ f entry)
    → (attrs : List Attr) (entries : List Entry)
    → map f (file_entries (with_letters attrs entries)) ≡ map f (file_entries entries)
unfolding with_letters
files_kept f same attrs [] = refl
files_kept f same attrs (entry ∷ entries) = by_pad entry.pad (λ letters. files_kept f same letters entries)
  where
    by_pad : (b : Bool)
        → ((letters : List Attr) → map f (file_entries (with_letters letters entries)) ≡ map f (file_entries entries))
        → map f (file_entries (with_letters attrs (as_pad b entry ∷ entries)))
        ≡ map f (file_entries (as_pad b entry ∷ entries))
    by_pad true others = others attrs
    by_pad false others =
        ap₂ (λ x xs. x ∷ xs) (same (slice_index_or attrs 0 no_letters) (as_pad false entry)) (others (drop 1 attrs))

-- what holds of each entry, whatever letters a file has
pub each_lettered : (P : Entry → Type 0)
    → ((attr : Attr) (entry : Entry) → entry.pad ≡ false → P entry → P (with_attr attr entry))
    → (attrs : List Attr) (entries : List Entry) → AllByRecursion P entries
    → AllByRecursion P (with_letters attrs entries)
unfolding with_letters
each_lettered P keeps attrs [] h = tt
each_lettered P keeps attrs (entry ∷ entries) h =
    by_pad entry.pad refl (λ letters. each_lettered P keeps letters entries h.1)
  where
    by_pad : (b : Bool) → entry.pad ≡ b → ((letters : List Attr) → AllByRecursion P (with_letters letters entries))
        → AllByRecursion P (cond b (entry ∷ with_letters attrs entries)
        (with_attr (slice_index_or attrs 0 no_letters) entry ∷ with_letters (drop 1 attrs) entries))
    by_pad true e others = (h.0, others attrs)
    by_pad false e others = (keeps (slice_index_or attrs 0 no_letters) entry e h.0, others (drop 1 attrs))

sizes : (entries : List Entry)
    → sum_by (λ (entry : Entry). entry.length) entries
    ≡ sum_by (λ n. n) (map (λ (entry : Entry). entry.length) entries)
sizes [] = refl
sizes (entry ∷ entries) =
    sum_by-cons (λ (one : Entry). one.length) entry entries ∙ ap (λ n. entry.length + n) (sizes entries)
    ∙ sym (sum_by-cons (λ (n : ℕ). n) entry.length (map (λ (one : Entry). one.length) entries))

pub same_size : (attrs : List Attr) (entries : List Entry)
    → sum_by (λ (entry : Entry). entry.length) (with_letters attrs entries)
    ≡ sum_by (λ (entry : Entry). entry.length) entries
same_size attrs entries =
    sizes (with_letters attrs entries)
    ∙ ap (sum_by (λ n. n)) (kept (λ (entry : Entry). entry.length) (λ attr entry. refl) attrs entries)
    ∙ sym (sizes entries)

pub same_content : (attrs : List Attr) (entries : List Entry) (contents : List (List ℕ))
    → joined_content (with_letters attrs entries) contents ≡ joined_content entries contents
unfolding joined_content with_letters
same_content attrs [] contents = refl
same_content attrs (entry ∷ entries) contents = by_pad entry.pad (λ letters. same_content letters entries)
  where
    by_pad : (b : Bool)
        → ((letters : List Attr) (contents : List (List ℕ))
        → joined_content (with_letters letters entries) contents ≡ joined_content entries contents)
        → joined_content (with_letters attrs (as_pad b entry ∷ entries)) contents
        ≡ joined_content (as_pad b entry ∷ entries) contents
    by_pad true others = ap (λ rest. zeros entry.length ++ rest) (others attrs contents)
    by_pad false others = ap (λ rest. slice_index_or contents 0 [] ++ rest) (others (drop 1 attrs) (drop 1 contents))

pub same_pieces : (piece_length : ℕ) (attrs : List Attr) (entries : List Entry) (contents : List (List ℕ))
    → v1_pieces piece_length (with_letters attrs entries) contents ≡ v1_pieces piece_length entries contents
unfolding v1_pieces
same_pieces piece_length attrs entries contents = ap (piece_sums piece_length) (same_content attrs entries contents)

pub same_padding : (attrs : List Attr) (entries : List Entry)
    → filter (λ (entry : Entry). entry.pad) (with_letters attrs entries) ≡ filter (λ (entry : Entry). entry.pad) entries
unfolding with_letters
same_padding attrs [] = refl
same_padding attrs (entry ∷ entries) = by_pad entry.pad (λ letters. same_padding letters entries)
  where
    by_pad : (b : Bool)
        → ((letters : List Attr)
        → filter (λ (e : Entry). e.pad) (with_letters letters entries) ≡ filter (λ (e : Entry). e.pad) entries)
        → filter (λ (e : Entry). e.pad) (with_letters attrs (as_pad b entry ∷ entries))
        ≡ filter (λ (e : Entry). e.pad) (as_pad b entry ∷ entries)
    by_pad true others = ap (λ rest. as_pad true entry ∷ rest) (others attrs)
    by_pad false others = others (drop 1 attrs)

-- the letters of an entry
abbrev pub letters_on : Entry → Attr
letters_on entry = record { exec = entry.exec; hidden = entry.hidden }

past_padding : (b : Bool) (n : ℕ) (attrs : List Attr) (entries : List Entry)
    → file_entries (with_letters attrs (cond b (pad_entry n ∷ []) [] ++ entries))
    ≡ file_entries (with_letters attrs entries)
unfolding with_letters
past_padding true n attrs entries = refl
past_padding false n attrs entries = refl

joined_letters : (attrs : List Attr) (files : List (List (List ℕ) × ℕ)) → length attrs ≡ length files
    → map letters_on (file_entries (with_letters attrs (map file_entry files))) ≡ attrs
unfolding with_letters
joined_letters [] [] e = refl
joined_letters [] (file ∷ files) e = absurd (omega arith)
joined_letters (attr ∷ attrs) [] e = absurd (omega arith)
joined_letters (attr ∷ attrs) (file ∷ files) e = ap (λ rest. attr ∷ rest) (joined_letters attrs files (omega arith))

aligned_letters : (tail : Bool) (piece_length : ℕ) (attrs : List Attr) (files : List (List (List ℕ) × ℕ))
    → length attrs ≡ length files
    → map letters_on (file_entries (with_letters attrs (aligned_entries tail piece_length files))) ≡ attrs
unfolding aligned_entries with_letters
aligned_letters tail piece_length [] [] e = refl
aligned_letters tail piece_length [] (file ∷ files) e = absurd (omega arith)
aligned_letters tail piece_length (attr ∷ attrs) [] e = absurd (omega arith)
aligned_letters tail piece_length (attr ∷ attrs) (file ∷ files) e =
    ap (λ entries. attr ∷ map letters_on entries)
    (past_padding _ _ attrs (aligned_entries tail piece_length files))
    ∙ ap (λ rest. attr ∷ rest) (aligned_letters tail piece_length attrs files (omega arith))

pub letters_of_files : (attrs : List Attr) (layout : Layout) (piece_length : ℕ) (files : List (List (List ℕ) × ℕ))
    → length attrs ≡ length files
    → map letters_on (file_entries (with_letters attrs (v1_entries layout piece_length files))) ≡ attrs
letters_of_files attrs Joined piece_length files e = joined_letters attrs files e
letters_of_files attrs Aligned piece_length files e = aligned_letters false piece_length attrs files e
letters_of_files attrs AlignedTail piece_length files e = aligned_letters true piece_length attrs files e

abbrev none_for : List (List (List ℕ) × ℕ) → List Attr
none_for files = map (λ file. no_letters) files

none_past_padding : (b : Bool) (n : ℕ) (attrs : List Attr) (entries : List Entry)
    → with_letters attrs entries ≡ entries
    → with_letters attrs (cond b (pad_entry n ∷ []) [] ++ entries) ≡ cond b (pad_entry n ∷ []) [] ++ entries
unfolding with_letters
none_past_padding true n attrs entries same = ap (λ rest. pad_entry n ∷ rest) same
none_past_padding false n attrs entries same = same

joined_none : (files : List (List (List ℕ) × ℕ))
    → with_letters (none_for files) (map file_entry files) ≡ map file_entry files
unfolding with_letters
joined_none [] = refl
joined_none (file ∷ files) = ap (λ rest. file_entry file ∷ rest) (joined_none files)

aligned_none : (tail : Bool) (piece_length : ℕ) (files : List (List (List ℕ) × ℕ))
    → with_letters (none_for files) (aligned_entries tail piece_length files) ≡ aligned_entries tail piece_length files
unfolding aligned_entries with_letters
aligned_none tail piece_length [] = refl
aligned_none tail piece_length (file ∷ files) =
    ap (λ rest. file_entry file ∷ rest)
    (none_past_padding _ _ (none_for files) (aligned_entries tail piece_length files)
    (aligned_none tail piece_length files))

pub none_of_files : (layout : Layout) (piece_length : ℕ) (files : List (List (List ℕ) × ℕ))
    → with_letters (map (λ file. no_letters) files) (v1_entries layout piece_length files)
    ≡ v1_entries layout piece_length files
none_of_files Joined piece_length files = joined_none files
none_of_files Aligned piece_length files = aligned_none false piece_length files
none_of_files AlignedTail piece_length files = aligned_none true piece_length files

-- an entry goes over to those that are done
pub past_pad : (attrs : List Attr) (entries : List Entry) (i : ℕ) (d : Entry) → i < length entries
    → (get_or entries i d).pad ≡ true
    → (let put = set entries i (get_or entries i d) in
    take (suc i) put ++ with_letters attrs (drop (suc i) put))
    ≡ take i entries ++ with_letters attrs (drop i entries)
unfolding with_letters
past_pad attrs [] i d lt pad = absurd (omega arith)
past_pad attrs (entry ∷ entries) zero d lt pad = rw pad refl
past_pad attrs (entry ∷ entries) (suc i) d lt pad =
    ap (λ rest. entry ∷ rest) (past_pad attrs entries i d (omega arith) pad)

next_letters : (attrs : List Attr) (k : ℕ) → get_or (drop k attrs) 0 no_letters ≡ get_or attrs k no_letters
next_letters [] zero = refl
next_letters [] (suc k) = refl
next_letters (attr ∷ attrs) zero = refl
next_letters (attr ∷ attrs) (suc k) = next_letters attrs k

letters_left : (attrs : List Attr) (k : ℕ) → drop 1 (drop k attrs) ≡ drop (suc k) attrs
letters_left [] zero = refl
letters_left [] (suc k) = refl
letters_left (attr ∷ attrs) zero = refl
letters_left (attr ∷ attrs) (suc k) = letters_left attrs k

pub past_file : (attrs : List Attr) (k : ℕ) (entries : List Entry) (i : ℕ) (d : Entry) → i < length entries
    → (get_or entries i d).pad ≡ false
    → (let put = set entries i (with_attr (get_or attrs k no_letters) (get_or entries i d)) in
    take (suc i) put ++ with_letters (drop (suc k) attrs) (drop (suc i) put))
    ≡ take i entries ++ with_letters (drop k attrs) (drop i entries)
unfolding with_letters
past_file attrs k [] i d lt pad = absurd (omega arith)
past_file attrs k (entry ∷ entries) zero d lt pad = rw (pad, next_letters attrs k, letters_left attrs k) refl
past_file attrs k (entry ∷ entries) (suc i) d lt pad =
    ap (λ rest. entry ∷ rest) (past_file attrs k entries i d (omega arith) pad)

pub all_done : (attrs : List Attr) (entries : List Entry) (n : ℕ) → length entries ≤ n
    → take n entries ++ with_letters attrs (drop n entries) ≡ entries
unfolding with_letters
all_done attrs entries n past = rw (take_all n entries past, drop_all n entries past) (append-nil entries)
