-- The spans of files: no piece of an empty file, and none past the last one.
use Rattle.tor_view.proofs.Names.{◌≡◌, ◌≢◌, ◌↔◌, ℕ, zero, suc, ◌+◌, ◌*◌, ◌/◌, ◌<◌, ◌≤◌, Bool, true, false, List, []}
use Rattle.tor_view.proofs.Names.{◌∷◌, get_or, Option, None, Some, arith, refl, subst, ◌∙◌, sym, inl, inr, tree_span}
use Rattle.tor_view.proofs.Names.{cases_Bool, cases_lt, cond-false, cond-true, div_ceil_times, le-ltb, lt-ltb}
use Rattle.tor_view.proofs.Names.{nat_lt, mul-le-mul_right, sum_by-cons, div_ceil, entries_length, file_found}
use Rattle.tor_view.proofs.Names.{file_spans, joined_span, joined_spans, no_span, tree_spans, AreThere, FileSpan}
use Rattle.tor_view.proofs.Names.{IsCut, Whole, pieces_in, FileView, View, has_v2, Entry, entry_cases, file, padding}
use Rattle.tor_view.proofs.Names.{ceil_few}
use Rattle.tor_view.proofs.FileStates.{whole_is}
use Rattle.tor_view.proofs.MerklePieces.{length_of}
use Rattle.tor_view.proofs.PieceSides.{some_piece}
use Rattle.tor_view.proofs.SpanSteps.{count_of_files}

-- what holds of the first and of each other
pub each_more : (P : FileSpan → Type 0) (span : FileSpan) (spans : List FileSpan) → P span
    → ((i : ℕ) → P (get_or spans i no_span)) → (i : ℕ) → P (get_or (span ∷ spans) i no_span)
each_more P span spans here others zero = here
each_more P span spans here others (suc i) = others i

-- by the side that numbers the pieces
pub by_kind : (P : FileSpan → Type 0) (view : View) (i : ℕ)
    → (has_v2 view.kind ≡ true → P (get_or (tree_spans view.piece_length 0 view.files) i no_span))
    → (has_v2 view.kind ≡ false → P (get_or (joined_spans view.piece_length 0 view.entries) i no_span))
    → P (get_or (file_spans view) i no_span)
by_kind P view i tree joined =
    let p = view.piece_length in
    let P_at = λ (spans : List FileSpan). P (get_or spans i no_span) in
    elim (cases_Bool (has_v2 view.kind)) [
      | inl two ↦ subst P_at (sym (cond-true (has_v2 view.kind) (tree_spans p 0 view.files)
          (joined_spans p 0 view.entries) two)) (tree two)
      | inr none ↦ subst P_at (sym (cond-false (has_v2 view.kind) (tree_spans p 0 view.files)
          (joined_spans p 0 view.entries) none)) (joined none)
    ]

-- ---- an empty file has no piece

abbrev pub HasNone : FileSpan → Type 0
HasNone span = span.length ≡ 0 → span.after ≤ span.first

empty_in_tree : (p first : ℕ) → 0 < p → (files : List FileView) (i : ℕ)
    → HasNone (get_or (tree_spans p first files) i no_span)
empty_in_tree p first some [] i = λ empty. omega arith
empty_in_tree p first some (told ∷ files) i =
    let after = first + pieces_in p (length_of told) in
    each_more HasNone (tree_span p first (length_of told)) (tree_spans p after files)
    (λ empty. omega (arith, ceil_few (length_of told) p some, empty))
    (λ k. empty_in_tree p after some files k) i

empty_span : (p start n : ℕ) → HasNone (joined_span p start n)
empty_span p start n = λ empty.
    let same = cond-false (nat_lt 0 n) (div_ceil (start + n) p) (start / p) (le-ltb 0 n (omega (arith, empty))) in
    omega (arith, same)

empty_in_entries : (p start : ℕ) (entries : List Entry) (i : ℕ)
    → HasNone (get_or (joined_spans p start entries) i no_span)
empty_in_entries p start [] i = λ empty. omega arith
empty_in_entries p start (entry ∷ entries) i =
    entry_cases (λ e. HasNone (get_or (joined_spans p start (e ∷ entries)) i no_span))
    (λ label m. empty_in_entries p (start + m) entries i)
    (λ label m. each_more HasNone (joined_span p start m) (joined_spans p (start + m) entries) (empty_span p start m)
    (λ k. empty_in_entries p (start + m) entries k) i) entry

pub empty_has_none : (view : View) (i : ℕ) → IsCut view → HasNone (get_or (file_spans view) i no_span)
empty_has_none view i cut =
    by_kind HasNone view i
    (λ two. empty_in_tree view.piece_length 0 (some_piece view.kind view.piece_length cut.pieces) view.files i)
    (λ none. empty_in_entries view.piece_length 0 view.entries i)

some_bytes : (there : Option ℕ) → (there ≢ None) → AreThere there 0
some_bytes None other = absurd (other refl)
some_bytes (Some n) other = (n, refl, omega arith)

is_not_none : (there : Option ℕ) (told : ℕ) → AreThere there told → there ≢ None
is_not_none None told are = λ none. cc
is_not_none (Some n) told are = λ none. cc

-- it is whole where it is there
pub empty_is : (held : List Bool) (span : FileSpan) (there : Option ℕ) → HasNone span → span.length ≡ 0
    → ((file_found held span there).state ≡ Whole) ↔ (there ≢ None)
empty_is held span there none empty = (
  λ is. is_not_none there span.length ((whole_is held span there).0 is).0,
  λ other. (whole_is held span there).1 (
    subst (AreThere there) (sym empty) (some_bytes there other),
    λ k le lt. absurd (omega (arith, none empty, le, lt)),
  ),
)

-- ---- no piece is past the last one

-- as many runs or more
more_runs : (p a b : ℕ) → 0 < p → a ≤ b → div_ceil a p ≤ div_ceil b p
more_runs p a b some le = by (div_ceil a p) (div_ceil b p) (div_ceil_times a p some) (div_ceil_times b p some) where
  by : (q r : ℕ) → (a ≤ q * p) × (q * p < a + p) → (b ≤ r * p) × (r * p < b + p) → q ≤ r
  by q r first second = elim (cases_lt r q) [
    | inl less ↦
        let next : (r + 1) * p ≡ r * p + p = omega arith in
        let over : (r + 1) * p ≤ q * p = mul-le-mul_right p (omega (arith, less)) in
        absurd (omega (arith, next, over, first.1, second.0, le))
    | inr few ↦ few
  ]

begun_runs : (p a : ℕ) → a / p ≤ div_ceil a p
begun_runs p a = omega arith

within_tree : (p first : ℕ) (files : List FileView) (i : ℕ)
    → (get_or (tree_spans p first files) i no_span).after ≤ first + count_of_files p files
within_tree p first [] i = omega arith
within_tree p first (told ∷ files) i =
    let after = first + pieces_in p (length_of told) in
    let all = sum_by-cons (λ (one : FileView). pieces_in p one.file.length) told files in
    each_more (λ span. span.after ≤ first + count_of_files p (told ∷ files))
    (tree_span p first (length_of told)) (tree_spans p after files)
    (add first (pieces_in p (length_of told)) (count_of_files p files) (count_of_files p (told ∷ files)) all)
    (λ k. subst (λ n. (get_or (tree_spans p after files) k no_span).after ≤ n)
    (same first (pieces_in p (length_of told)) (count_of_files p files) (count_of_files p (told ∷ files)) all)
    (within_tree p after files k)) i where
      add : (a b c d : ℕ) → d ≡ b + c → a + b ≤ a + d
      add a b c d all = omega (arith, all)

      same : (a b c d : ℕ) → d ≡ b + c → a + b + c ≡ a + d
      same a b c d all = omega (arith, all)

within_span : (p start n total : ℕ) → 0 < p → start + n ≤ total → (joined_span p start n).after ≤ div_ceil total p
within_span p start n total some le = elim (cases_lt 0 n) [
  | inl filled ↦
      subst (λ after. after ≤ div_ceil total p)
      (sym (cond-true (nat_lt 0 n) (div_ceil (start + n) p) (start / p) (lt-ltb 0 n filled)))
      (more_runs p (start + n) total some le)
  | inr empty ↦
      subst (λ after. after ≤ div_ceil total p)
      (sym (cond-false (nat_lt 0 n) (div_ceil (start + n) p) (start / p) (le-ltb 0 n empty)))
      (trans (start / p) (div_ceil start p) (div_ceil total p) (begun_runs p start)
      (more_runs p start total some (omega (arith, le))))
] where
  trans : (a b c : ℕ) → a ≤ b → b ≤ c → a ≤ c
  trans a b c one two = omega (arith, one, two)

within_entries : (p start total : ℕ) → 0 < p → (entries : List Entry) → start + entries_length entries ≤ total
    → (i : ℕ) → (get_or (joined_spans p start entries) i no_span).after ≤ div_ceil total p
within_entries p start total some [] le i = omega arith
within_entries p start total some (entry ∷ entries) le i =
    entry_cases (λ e. start + entries_length (e ∷ entries) ≤ total
    → (get_or (joined_spans p start (e ∷ entries)) i no_span).after ≤ div_ceil total p)
    (λ label m less.
    let all = sum_by-cons (λ (e : Entry). e.length) (padding label m) entries in
    within_entries p (start + m) total some entries (omega (arith, all, less)) i)
    (λ label m less.
    let all = sum_by-cons (λ (e : Entry). e.length) (file label m) entries in
    each_more (λ span. span.after ≤ div_ceil total p) (joined_span p start m) (joined_spans p (start + m) entries)
    (within_span p start m total some (omega (arith, all, less)))
    (λ k. within_entries p (start + m) total some entries (omega (arith, all, less)) k) i) entry le

pub spans_are_within : (view : View) (i : ℕ) → IsCut view
    → (get_or (file_spans view) i no_span).after ≤ view.piece_count
spans_are_within view i cut =
    let p = view.piece_length in
    let some = some_piece view.kind p cut.pieces in
    by_kind (λ span. span.after ≤ view.piece_count) view i
    (λ two. subst (λ n. (get_or (tree_spans p 0 view.files) i no_span).after ≤ n)
    (sym (cut.count ∙ cond-true (has_v2 view.kind) (count_of_files p view.files) _ two))
    (subst (λ n. (get_or (tree_spans p 0 view.files) i no_span).after ≤ n)
    (let e : 0 + count_of_files p view.files ≡ count_of_files p view.files = omega arith in e)
    (within_tree p 0 view.files i)))
    (λ none. subst (λ n. (get_or (joined_spans p 0 view.entries) i no_span).after ≤ n)
    (sym (cut.count ∙ cond-false (has_v2 view.kind) (count_of_files p view.files) _ none))
    (within_entries p 0 (entries_length view.entries) some view.entries (omega arith) i))
