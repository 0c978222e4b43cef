-- Which parts units have of files: a piece has bytes of a file exactly where it is in its span.
use Rattle.tor_view.proofs.Names.{◌≡◌, ◌↔◌, ℕ, zero, suc, ◌+◌, ◌-◌, ◌*◌, ◌<◌, ◌≤◌, ◌==◌, Bool, true, false, ◌||◌}
use Rattle.tor_view.proofs.Names.{cond, List, [], ◌∷◌, ◌++◌, get_or, map, max, nat_lt, arith, refl, ap, sym}
use Rattle.tor_view.proofs.Names.{◌∙◌, inl, inr, cases_lt, cond-false, cond-true, eq-eqb, ne_eqb, div_ceil}
use Rattle.tor_view.proofs.Names.{after_part, get_or-append_right, get_or_append_left, get_or-map-range_with_len}
use Rattle.tor_view.proofs.Names.{length-map-range_with_len, empty_unit, entries_length, entry_units, tree_span}
use Rattle.tor_view.proofs.Names.{joined_entry_unit, joined_entry_units, lengths_of_entries, padding_before_next}
use Rattle.tor_view.proofs.Names.{separate_entry_units, shared, unit_within, file_unit, units_of_file, PlanUnit}
use Rattle.tor_view.proofs.Names.{entries_to_cut, IsCut, pieces_of, file_spans, has_bytes_of, joined_span}
use Rattle.tor_view.proofs.Names.{joined_spans, no_span, tree_spans, pieces_in, FileView, View, has_v1}
use Rattle.tor_view.proofs.Names.{has_v2, Kind, V1, V2, Hybrid, Entry, Label, entry_cases, file}
use Rattle.tor_view.proofs.FilesThere.{later_spans}
use Rattle.tor_view.proofs.MerklePieces.{length_of}
use Rattle.tor_view.proofs.PieceSides.{cut_each, other_side, same_lengths, some_piece}
use Rattle.tor_view.proofs.SpanBounds.{by_kind}
use Rattle.tor_view.proofs.SpanBytes.{in_span, in_span_is, none_in, not_in, shares}

this_file : (one other : ℕ) (rest : Bool) → one ≡ other → ((one == other) || rest) ≡ true
this_file one other rest same = ap (λ (first : Bool). first || rest) (eq-eqb one other same)

other_file : (one other : ℕ) (rest : Bool) → (one ≡ other → ⊥) → ((one == other) || rest) ≡ rest
other_file one other rest differ = ap (λ (first : Bool). first || rest) (ne_eqb one other differ)

-- ---- units of joined entries

-- one more part, where there are bytes of it
abbrev perhaps_part : Bool → ℕ → ℕ → ℕ → PlanUnit → PlanUnit
perhaps_part some index start n rest = cond some (after_part index start n rest) rest

part_of_this : (some : Bool) (index start n other : ℕ) (rest : PlanUnit) → index ≡ other
    → has_bytes_of other rest ≡ false → has_bytes_of other (perhaps_part some index start n rest) ≡ some
part_of_this true index start n other rest same none = this_file index other (has_bytes_of other rest) same
part_of_this false index start n other rest same none = none

part_of_other : (some : Bool) (index start n other : ℕ) (rest : PlanUnit) → (index ≡ other → ⊥)
    → has_bytes_of other (perhaps_part some index start n rest) ≡ has_bytes_of other rest
part_of_other true index start n other rest differ = other_file index other (has_bytes_of other rest) differ
part_of_other false index start n other rest differ = refl

module _ (p k : ℕ) (some : 0 < p) where
  abbrev unit : ℕ → ℕ → List Entry → PlanUnit
  unit index at entries = unit_within (k * p) ((k + 1) * p) index at entries

  none_before : (entries : List Entry) (index at other : ℕ) → other < index
      → has_bytes_of other (unit index at entries) ≡ false
  unfolding unit_within
  none_before [] index at other lt = refl
  none_before (entry ∷ entries) index at other lt =
      entry_cases (λ e. has_bytes_of other (unit index at (e ∷ entries)) ≡ false)
      (λ label m. none_before entries index (at + m) other lt)
      (λ label m.
      let n = shared (k * p) ((k + 1) * p) at m in
      part_of_other (nat_lt 0 n) index (max (k * p) at - at) n other (unit (index + 1) (at + m) entries)
      (λ same. omega (arith, same, lt))
      ∙ none_before entries (index + 1) (at + m) other (omega (arith, lt))) entry

  joined_have : (entries : List Entry) (index at j : ℕ) → has_bytes_of (index + j) (unit index at entries)
      ≡ in_span (get_or (joined_spans p at entries) j no_span) k
  unfolding unit_within
  joined_have [] index at j = sym (none_in k)
  joined_have (entry ∷ entries) index at j =
      entry_cases (λ e. has_bytes_of (index + j) (unit index at (e ∷ entries))
      ≡ in_span (get_or (joined_spans p at (e ∷ entries)) j no_span) k)
      (λ label m. joined_have entries index (at + m) j)
      (λ label m. of_file m j (λ i. joined_have entries (index + 1) (at + m) i)) entry where
        of_file : (m j : ℕ) → ((i : ℕ) → has_bytes_of (index + 1 + i) (unit (index + 1) (at + m) entries)
            ≡ in_span (get_or (joined_spans p (at + m) entries) i no_span) k)
            → has_bytes_of (index + j) (perhaps_part (nat_lt 0 (shared (k * p) ((k + 1) * p) at m)) index
            (max (k * p) at - at) (shared (k * p) ((k + 1) * p) at m) (unit (index + 1) (at + m) entries))
            ≡ in_span (get_or (joined_span p at m ∷ joined_spans p (at + m) entries) j no_span) k
        of_file m zero later =
            let n = shared (k * p) ((k + 1) * p) at m in
            part_of_this (nat_lt 0 n) index (max (k * p) at - at) n (index + 0) (unit (index + 1) (at + m) entries)
            (omega arith) (none_before entries (index + 1) (at + m) (index + 0) (omega arith))
            ∙ shares p k some at m
        of_file m (suc i) later =
            let n = shared (k * p) ((k + 1) * p) at m in
            part_of_other (nat_lt 0 n) index (max (k * p) at - at) n (index + suc i) (unit (index + 1) (at + m) entries)
            (λ same. omega (arith, same))
            ∙ ap (λ (other : ℕ). has_bytes_of other (unit (index + 1) (at + m) entries))
            (let e : index + suc i ≡ index + 1 + i = omega arith in e)
            ∙ later i

-- ---- units of files that are cut each by itself

module _ (p : ℕ) (some : 0 < p) where
  pub unit_here : (index m tail k : ℕ) (rest : List PlanUnit) → k < div_ceil m p
      → get_or (units_of_file p index m tail ++ rest) k empty_unit ≡ file_unit p index m tail k
  unit_here index m tail k rest lt =
      let count = length-map-range_with_len (file_unit p index m tail) 0 (div_ceil m p) in
      get_or_append_left (units_of_file p index m tail) rest empty_unit k (omega (arith, lt, count))
      ∙ get_or-map-range_with_len (file_unit p index m tail) 0 (div_ceil m p) k k empty_unit lt (omega arith)

  pub unit_later : (index m tail k : ℕ) (rest : List PlanUnit) → div_ceil m p ≤ k
      → get_or (units_of_file p index m tail ++ rest) k empty_unit ≡ get_or rest (k - div_ceil m p) empty_unit
  unit_later index m tail k rest le =
      get_or-append_right (units_of_file p index m tail) rest (div_ceil m p) k empty_unit
      (length-map-range_with_len (file_unit p index m tail) 0 (div_ceil m p)) le

  abbrev unit_at : ℕ → List Entry → ℕ → PlanUnit
  unit_at index entries k = get_or (separate_entry_units p index entries) k empty_unit

  none_apart : (entries : List Entry) (index other k : ℕ) → other < index
      → has_bytes_of other (unit_at index entries k) ≡ false
  unfolding separate_entry_units
  none_apart [] index other k lt = refl
  none_apart (entry ∷ entries) index other k lt =
      entry_cases (λ e. has_bytes_of other (unit_at index (e ∷ entries) k) ≡ false)
      (λ label m. none_apart entries index other k lt)
      (λ label m.
      let tail = padding_before_next entries in
      let rest = separate_entry_units p (index + 1) entries in
      elim (cases_lt k (div_ceil m p)) [
        | inl here ↦
            ap (has_bytes_of other) (unit_here index m tail k rest here)
            ∙ other_file index other false (λ same. omega (arith, same, lt))
        | inr later ↦
            ap (has_bytes_of other) (unit_later index m tail k rest later)
            ∙ none_apart entries (index + 1) other (k - div_ceil m p) (omega (arith, lt))
      ]) entry

  abbrev HasEach : ℕ → ℕ → List Entry → List FileView → Type 0
  HasEach index first entries files = (j k : ℕ) → has_bytes_of (index + j) (unit_at index entries k)
      ≡ in_span (get_or (tree_spans p first files) j no_span) (first + k)

  of_file : (index first m : ℕ) (label : Label) (entries : List Entry) (told : FileView) (files : List FileView)
      → m ≡ length_of told → HasEach (index + 1) (first + pieces_in p (length_of told)) entries files
      → HasEach index first (file label m ∷ entries) (told ∷ files)
  unfolding separate_entry_units
  of_file index first m label entries told files long rest zero k =
      let tail = padding_before_next entries in
      let later = separate_entry_units p (index + 1) entries in
      let c = pieces_in p (length_of told) in
      let span = tree_span p first (length_of told) in
      let same : div_ceil m p ≡ c = ap (λ n. div_ceil n p) long in
      elim (cases_lt k (div_ceil m p)) [
        | inl here ↦
            ap (has_bytes_of (index + 0)) (unit_here index m tail k later here)
            ∙ this_file index (index + 0) false (omega arith)
            ∙ sym ((in_span_is span (first + k)).1 (omega arith, omega (arith, here, same)))
        | inr past ↦
            ap (has_bytes_of (index + 0)) (unit_later index m tail k later past)
            ∙ none_apart entries (index + 1) (index + 0) (k - div_ceil m p) (omega arith)
            ∙ sym (not_in span (first + k) (λ low high. omega (arith, high, past, same)))
      ]
  of_file index first m label entries told files long rest (suc j) k =
      let tail = padding_before_next entries in
      let later = separate_entry_units p (index + 1) entries in
      let c = pieces_in p (length_of told) in
      let span = get_or (tree_spans p (first + c) files) j no_span in
      let same : div_ceil m p ≡ c = ap (λ n. div_ceil n p) long in
      elim (cases_lt k (div_ceil m p)) [
        | inl here ↦
            ap (has_bytes_of (index + suc j)) (unit_here index m tail k later here)
            ∙ other_file index (index + suc j) false (λ one. omega (arith, one))
            ∙ sym (not_in span (first + k) (λ low high.
            let at = later_spans p some (first + c) (first + c) (omega arith) files j (first + k) low high in
            omega (arith, at, here, same)))
        | inr past ↦
            ap (has_bytes_of (index + suc j)) (unit_later index m tail k later past)
            ∙ ap (λ (other : ℕ). has_bytes_of other (unit_at (index + 1) entries (k - div_ceil m p)))
            (let e : index + suc j ≡ index + 1 + j = omega arith in e)
            ∙ rest j (k - div_ceil m p)
            ∙ ap (in_span span) (let e : first + c + (k - div_ceil m p) ≡ first + k = omega (arith, past, same) in e)
      ]

  apart_have : (entries : List Entry) (files : List FileView) (index first : ℕ)
      → lengths_of_entries entries ≡ map length_of files → HasEach index first entries files
  unfolding separate_entry_units
  apart_have [] [] index first lengths = λ j k. sym (none_in (first + k))
  apart_have [] (told ∷ files) index first lengths = cc
  apart_have (entry ∷ entries) files index first lengths =
      entry_cases (λ e. lengths_of_entries (e ∷ entries) ≡ map length_of files
      → HasEach index first (e ∷ entries) files)
      (λ label m same. apart_have entries files index first same)
      (λ label m same. by_files label m files same (apart_have entries)) entry lengths where
        by_files : (label : Label) (m : ℕ) (some_files : List FileView)
            → m ∷ lengths_of_entries entries ≡ map length_of some_files
            → ((later : List FileView) (index first : ℕ) → lengths_of_entries entries ≡ map length_of later
            → HasEach index first entries later)
            → HasEach index first (file label m ∷ entries) some_files
        by_files label m [] same rest = cc
        by_files label m (told ∷ later) same rest =
            let long : m ≡ length_of told = cc in
            let others : lengths_of_entries entries ≡ map length_of later = cc in
            of_file index first m label entries told later long
            (rest later (index + 1) (first + pieces_in p (length_of told)) others)

-- ---- all pieces

pub cut_joined : (kind : Kind) (p : ℕ) (entries : List Entry) → has_v2 kind ≡ false
    → entry_units kind p 1 entries ≡ joined_entry_units p entries
cut_joined V1 p entries none = ap (λ n. joined_entry_units n entries) (let e : 1 * p ≡ p = omega arith in e)
cut_joined V2 p entries none = cc
cut_joined Hybrid p entries none = cc

pub joined_at : (p : ℕ) (entries : List Entry) (k : ℕ) → k < div_ceil (entries_length entries) p
    → get_or (joined_entry_units p entries) k empty_unit ≡ joined_entry_unit p entries k
unfolding joined_entry_units
joined_at p entries k lt =
    get_or-map-range_with_len (joined_entry_unit p entries) 0 (div_ceil (entries_length entries) p) k k empty_unit lt
    (omega arith)

pub in_span_have_bytes : (view : View) (file k : ℕ) → IsCut view → k < view.piece_count
    → has_bytes_of file (get_or (pieces_of view) k empty_unit) ≡ in_span (get_or (file_spans view) file no_span) k
in_span_have_bytes view file k cut lt =
    let p = view.piece_length in
    let some = some_piece view.kind p cut.pieces in
    let entries = entries_to_cut view in
    by_kind (λ span. has_bytes_of file (get_or (pieces_of view) k empty_unit) ≡ in_span span k) view file
    (λ two.
    ap (λ (units : List PlanUnit). has_bytes_of file (get_or units k empty_unit)) (cut_each view.kind p entries two)
    ∙ ap (λ (n : ℕ). has_bytes_of n (unit_at p some 0 entries k)) (let e : file ≡ 0 + file = omega arith in e)
    ∙ apart_have p some entries view.files 0 0 (same_lengths view cut) file k
    ∙ ap (in_span (get_or (tree_spans p 0 view.files) file no_span)) (let e : 0 + k ≡ k = omega arith in e))
    (λ none.
    let listed : entries ≡ view.entries = cond-true (has_v1 view.kind) _ _ (other_side view.kind none) in
    let count = cut.count ∙ cond-false (has_v2 view.kind) _ (div_ceil (entries_length view.entries) p) none in
    ap (λ (units : List PlanUnit). has_bytes_of file (get_or units k empty_unit))
    (cut_joined view.kind p entries none ∙ ap (joined_entry_units p) listed)
    ∙ ap (has_bytes_of file) (joined_at p view.entries k (omega (arith, lt, count)))
    ∙ ap (λ (n : ℕ). has_bytes_of n (joined_entry_unit p view.entries k))
    (let e : file ≡ 0 + file = omega arith in e)
    ∙ joined_have p k some view.entries 0 0 file)

pub spans_have_bytes : (view : View) (file k : ℕ) → IsCut view → k < view.piece_count
    → (has_bytes_of file (get_or (pieces_of view) k empty_unit) ≡ true)
    ↔ (((get_or (file_spans view) file no_span).first ≤ k) × (k < (get_or (file_spans view) file no_span).after))
spans_have_bytes view file k cut lt =
    let same = in_span_have_bytes view file k cut lt in
    let both = in_span_is (get_or (file_spans view) file no_span) k in
    (λ has. both.0 (sym same ∙ has), λ is. same ∙ both.1 is)
