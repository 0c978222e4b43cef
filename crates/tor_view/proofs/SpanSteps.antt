-- The spans of files: one more, how many there are, and that no number in them is too large.
use Rattle.tor_view.proofs.Names.{◌≡◌, ℕ, ◌+◌, ◌<◌, ◌≤◌, false, List, [], ◌∷◌, ◌++◌, length, drop, get_or, map}
use Rattle.tor_view.proofs.Names.{arith, refl, ap, ◌∙◌, sym, subst, inl, inr, append_assoc, sum, sum_by, cases_Bool}
use Rattle.tor_view.proofs.Names.{cond-false, cond-true, drop_more, length-map, tree_span}
use Rattle.tor_view.proofs.Names.{sum_by-cons, entries_length, lengths_of_entries}
use Rattle.tor_view.proofs.Names.{entries_to_cut, IsCut, FileSpan, file_spans, joined_spans, tree_spans}
use Rattle.tor_view.proofs.Names.{span_of_entry, pieces_in, FileView, View, has_v1, has_v2, MAX_TOTAL, Entry, suc}
use Rattle.tor_view.proofs.Names.{entry_cases, files_within, ceil_few}
use Rattle.tor_view.proofs.MerklePieces.{length_of}
use Rattle.tor_view.proofs.PieceSides.{other_side, same_lengths, some_piece}

-- ---- one more

-- what is left of a list begins with the element here
left_from : {X : Type 0} (xs : List X) (i : ℕ) (x : X) → i < length xs → x ≡ get_or xs i x
    → drop i xs ≡ x ∷ drop (i + 1) xs
left_from xs i x lt here = drop_more xs i x lt ∙ ap (λ one. one ∷ drop (i + 1) xs) (sym here)

joined_more : (p start : ℕ) (entry : Entry) (entries : List Entry)
    → joined_spans p start (entry ∷ entries)
    ≡ span_of_entry p start entry ++ joined_spans p (start + entry.length) entries
joined_more p start entry entries =
    entry_cases (λ e. joined_spans p start (e ∷ entries)
    ≡ span_of_entry p start e ++ joined_spans p (start + e.length) entries) (λ label m. refl) (λ label m. refl) entry

-- those so far, and those of what is left, are all
pub joined_step : (p start i : ℕ) (entries : List Entry) (entry : Entry) (done more all : List FileSpan)
    → i < length entries → entry ≡ get_or entries i entry → done ++ joined_spans p start (drop i entries) ≡ all
    → more ≡ done ++ span_of_entry p start entry
    → more ++ joined_spans p (start + entry.length) (drop (i + 1) entries) ≡ all
joined_step p start i entries entry done more all lt here before is =
    let rest = joined_spans p (start + entry.length) (drop (i + 1) entries) in
    ap (λ spans. spans ++ rest) is
    ∙ append_assoc done (span_of_entry p start entry) rest
    ∙ ap (λ spans. done ++ spans) (sym (joined_more p start entry (drop (i + 1) entries))
    ∙ ap (joined_spans p start) (sym (left_from entries i entry lt here)))
    ∙ before

pub tree_step : (p first i : ℕ) (files : List FileView) (told : FileView) (done more all : List FileSpan)
    → i < length files → told ≡ get_or files i told → done ++ tree_spans p first (drop i files) ≡ all
    → more ≡ done ++ tree_span p first (length_of told) ∷ []
    → more ++ tree_spans p (first + pieces_in p (length_of told)) (drop (i + 1) files) ≡ all
tree_step p first i files told done more all lt here before is =
    let rest = tree_spans p (first + pieces_in p (length_of told)) (drop (i + 1) files) in
    ap (λ spans. spans ++ rest) is
    ∙ append_assoc done (tree_span p first (length_of told) ∷ []) rest
    ∙ ap (λ left. done ++ tree_spans p first left) (sym (left_from files i told lt here))
    ∙ before

-- ---- what is left of the bytes, and of the pieces

pub bytes_left : (start i total : ℕ) (entries : List Entry) (entry : Entry) → i < length entries
    → entry ≡ get_or entries i entry → start + entries_length (drop i entries) ≡ total
    → start + entry.length + entries_length (drop (i + 1) entries) ≡ total
bytes_left start i total entries entry lt here before =
    let left = ap entries_length (left_from entries i entry lt here)
    ∙ sum_by-cons (λ (e : Entry). e.length) entry (drop (i + 1) entries) in
    omega (arith, before, left)

abbrev pub count_of_files : ℕ → List FileView → ℕ
count_of_files p files = sum_by (λ told. pieces_in p told.file.length) files

pub pieces_left : (p first i total : ℕ) (files : List FileView) (told : FileView) → i < length files
    → told ≡ get_or files i told → first + count_of_files p (drop i files) ≡ total
    → first + pieces_in p (length_of told) + count_of_files p (drop (i + 1) files) ≡ total
pieces_left p first i total files told lt here before =
    let left = ap (count_of_files p) (left_from files i told lt here)
    ∙ sum_by-cons (λ (one : FileView). pieces_in p one.file.length) told (drop (i + 1) files) in
    add_left first (pieces_in p (length_of told)) (count_of_files p (drop (i + 1) files)) total
    (count_of_files p (drop i files)) before left where
      add_left : (a b c d e : ℕ) → a + e ≡ d → e ≡ b + c → a + b + c ≡ d
      add_left a b c d e whole parts = omega (arith, whole, parts)

-- ---- how many there are

count_of_tree : (p first : ℕ) (files : List FileView) → length (tree_spans p first files) ≡ length files
count_of_tree p first [] = refl
count_of_tree p first (told ∷ files) = ap suc (count_of_tree p (first + pieces_in p (length_of told)) files)

count_of_entries : (p start : ℕ) (entries : List Entry)
    → length (joined_spans p start entries) ≡ length (lengths_of_entries entries)
count_of_entries p start [] = refl
count_of_entries p start (entry ∷ entries) =
    entry_cases (λ e. length (joined_spans p start (e ∷ entries)) ≡ length (lengths_of_entries (e ∷ entries)))
    (λ label m. count_of_entries p (start + m) entries)
    (λ label m. ap suc (count_of_entries p (start + m) entries)) entry

-- one for each file
pub spans_are_counted : (view : View) → IsCut view → length (file_spans view) ≡ length view.files
spans_are_counted view cut =
    let p = view.piece_length in
    elim (cases_Bool (has_v2 view.kind)) [
      | inl two ↦
          ap length (cond-true (has_v2 view.kind) (tree_spans p 0 view.files) (joined_spans p 0 view.entries) two)
          ∙ count_of_tree p 0 view.files
      | inr none ↦
          ap length (cond-false (has_v2 view.kind) (tree_spans p 0 view.files) (joined_spans p 0 view.entries) none)
          ∙ count_of_entries p 0 view.entries
          ∙ ap length (cut.same (other_side view.kind none))
          ∙ length-map view.files length_of
    ]

-- ---- they are small

-- no more pieces than bytes
few_pieces : (p : ℕ) → 0 < p → (files : List FileView) → count_of_files p files ≤ sum (map length_of files)
few_pieces p some [] = omega arith
few_pieces p some (told ∷ files) =
    let pieces = sum_by-cons (λ (one : FileView). pieces_in p one.file.length) told files in
    let bytes = sum_by-cons (λ (m : ℕ). m) (length_of told) (map length_of files) in
    both (pieces_in p (length_of told)) (length_of told) (count_of_files p files) (sum (map length_of files))
    _ _ pieces bytes (ceil_few (length_of told) p some) (few_pieces p some files) where
      both : (a b c d x y : ℕ) → x ≡ a + c → y ≡ b + d → a ≤ b → c ≤ d → x ≤ y
      both a b c d x y one other le more = omega (arith, one, other, le, more)

pub few_of_cut : (view : View) → IsCut view → count_of_files view.piece_length view.files ≤ MAX_TOTAL
few_of_cut view cut =
    let entries = entries_to_cut view in
    omega (
      arith,
      few_pieces view.piece_length (some_piece view.kind view.piece_length cut.pieces) view.files,
      ap sum (same_lengths view cut),
      files_within entries,
      cut.entries.total,
    )

pub total_of_cut : (view : View) → IsCut view → has_v2 view.kind ≡ false → entries_length view.entries ≤ MAX_TOTAL
total_of_cut view cut none =
    subst (λ (entries : List Entry). entries_length entries ≤ MAX_TOTAL)
    (cond-true (has_v1 view.kind) _ _ (other_side view.kind none)) cut.entries.total
