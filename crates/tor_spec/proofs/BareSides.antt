-- Where the files of a side begin and end has nothing to do with their letters.
use Rattle.tor_spec.proofs.Names.{◌≡◌, ℕ, ◌+◌, ◌==◌, Bool, true, false, cond, not, ◌&&◌, ◌||◌, List, [], ◌∷◌, ◌++◌, map}
use Rattle.tor_spec.proofs.Names.{Some, filter, find, sum_by, sum_by-cons, option_map, unwrap_or, refl, ap, ap₂, ◌∙◌}
use Rattle.tor_spec.proofs.Names.{sym, reverse_aux, if◌then◌else◌, next_multiple_of, padding_length, Attr, Entry}
use Rattle.tor_spec.proofs.Names.{ListedFile, aligned_after, has_wrong_tail, is_filled, is_misaligned_after}
use Rattle.tor_spec.proofs.Names.{joined_size, letters_keep, map-append, on_entries, size_before}
use Rattle.tor_spec.proofs.MadeListEntries.{listed_of}

-- a file of a side without its letters; what a side says of an entry, and of a file, without them
abbrev pub bare : ListedFile → ListedFile
bare file = record {
  path = file.path;
  size = file.size;
  pad = file.pad;
  has_attr = file.pad;
  exec = false;
  hidden = false;
}

abbrev pub bare_of : Entry → ListedFile
bare_of entry = record {
  path = if entry.pad then [] else entry.path;
  size = entry.length;
  pad = entry.pad;
  has_attr = entry.pad;
  exec = false;
  hidden = false;
}

abbrev pub plain : List (List ℕ) × ℕ → ListedFile
plain file = record { path = file.0; size = file.1; pad = false; has_attr = false; exec = false; hidden = false }

bare_entries : (entries : List Entry) → map bare (map listed_of entries) ≡ map bare_of entries
bare_entries [] = refl
bare_entries (entry ∷ entries) = ap (λ rest. bare_of entry ∷ rest) (bare_entries entries)

bare_side : (attrs : List Attr) (entries : List Entry)
    → map bare (map listed_of (on_entries attrs entries)) ≡ map bare_of entries
bare_side attrs entries =
    bare_entries (on_entries attrs entries) ∙ letters_keep bare_of (λ attr entry. refl) attrs entries

joined_bare : (side : List ListedFile) → joined_size (map bare side) ≡ joined_size side
joined_bare [] = refl
joined_bare (file ∷ side) =
    sum_by-cons (λ (one : ListedFile). one.size) (bare file) (map bare side)
    ∙ ap (λ n. file.size + n) (joined_bare side)
    ∙ sym (sum_by-cons (λ (one : ListedFile). one.size) file side)

aligned_bare : (p : ℕ) (side : List ListedFile) → aligned_after p (map bare side) ≡ aligned_after p side
aligned_bare p [] = refl
aligned_bare p (file ∷ side) = by_filled (is_filled file) (aligned_bare p side)
  where
    by_filled : (b : Bool) → aligned_after p (map bare side) ≡ aligned_after p side
        → sum_by (λ (one : ListedFile). next_multiple_of one.size p)
        (cond b (bare file ∷ filter is_filled (map bare side)) (filter is_filled (map bare side)))
        ≡ sum_by (λ (one : ListedFile). next_multiple_of one.size p)
        (cond b (file ∷ filter is_filled side) (filter is_filled side))
    by_filled true rest =
        sum_by-cons (λ (one : ListedFile). next_multiple_of one.size p) (bare file) (filter is_filled (map bare side))
        ∙ ap (λ n. next_multiple_of file.size p + n) rest
        ∙ sym (sum_by-cons (λ (one : ListedFile). next_multiple_of one.size p) file (filter is_filled side))
    by_filled false rest = rest

misaligned_bare : (p : ℕ) (earlier side : List ListedFile)
    → is_misaligned_after p (map bare earlier) (map bare side) ≡ is_misaligned_after p earlier side
misaligned_bare p earlier [] = refl
misaligned_bare p earlier (file ∷ side) =
    ap₂ (λ here later. here || later)
    (ap₂ (λ j a. is_filled file && not (j == a)) (joined_bare earlier) (aligned_bare p earlier))
    (ap (λ front. is_misaligned_after p front (map bare side)) (sym (map-append bare earlier (file ∷ [])))
    ∙ misaligned_bare p (earlier ++ file ∷ []) side)

turned_bare : (side after : List ListedFile)
    → reverse_aux (map bare side) (map bare after) ≡ map bare (reverse_aux side after)
turned_bare [] after = refl
turned_bare (file ∷ side) after = turned_bare side (file ∷ after)

before_bare : (side : List ListedFile) → size_before (map bare side) ≡ size_before side
before_bare [] = refl
before_bare (file ∷ side) = ap (λ n. if is_filled file then 0 else n + file.size) (before_bare side)

found_bare : (side : List ListedFile)
    → unwrap_or (option_map (λ (file : ListedFile). file.size) (find is_filled (map bare side))) 0
    ≡ unwrap_or (option_map (λ (file : ListedFile). file.size) (find is_filled side)) 0
found_bare [] = refl
found_bare (file ∷ side) = by_filled (is_filled file) (found_bare side)
  where
    by_filled : (b : Bool)
        → unwrap_or (option_map (λ (one : ListedFile). one.size) (find is_filled (map bare side))) 0
        ≡ unwrap_or (option_map (λ (one : ListedFile). one.size) (find is_filled side)) 0
        → unwrap_or (option_map (λ (one : ListedFile). one.size)
        (cond b (Some (bare file)) (find is_filled (map bare side)))) 0
        ≡ unwrap_or (option_map (λ (one : ListedFile). one.size) (cond b (Some file) (find is_filled side))) 0
    by_filled true rest = refl
    by_filled false rest = rest

tail_bare : (p : ℕ) (side : List ListedFile) → has_wrong_tail p (map bare side) ≡ has_wrong_tail p side
tail_bare p side =
    ap₂ (λ tail size. not (tail == 0 || tail == padding_length p size))
    (ap size_before (turned_bare side []) ∙ before_bare (reverse_aux side []))
    (ap (λ files. unwrap_or (option_map (λ (file : ListedFile). file.size) (find is_filled files)) 0)
    (turned_bare side []) ∙ found_bare (reverse_aux side []))

-- whether files begin and padding ends as is wanted, whatever letters the files have
pub same_alignment : (p : ℕ) (attrs : List Attr) (entries : List Entry)
    → (is_misaligned_after p [] (map listed_of (on_entries attrs entries))
    || has_wrong_tail p (map listed_of (on_entries attrs entries)))
    ≡ (is_misaligned_after p [] (map bare_of entries) || has_wrong_tail p (map bare_of entries))
same_alignment p attrs entries =
    let side = map listed_of (on_entries attrs entries) in
    ap₂ (λ one other. one || other) (sym (misaligned_bare p [] side)) (sym (tail_bare p side))
    ∙ ap (λ bares. is_misaligned_after p [] bares || has_wrong_tail p bares) (bare_side attrs entries)
