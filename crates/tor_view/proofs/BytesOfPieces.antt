-- A piece has a byte of a file exactly if it is the piece of that byte.
use Rattle.tor_view.proofs.Names.{◌≡◌, ◌↔◌, ℕ, zero, suc, ◌+◌, ◌-◌, ◌*◌, ◌/◌, ◌<◌, ◌≤◌, true, false}
use Rattle.tor_view.proofs.Names.{List, [], ◌∷◌, get_or, map, min, nat_lt, leb, arith}
use Rattle.tor_view.proofs.Names.{refl, ap, sym, ◌∙◌, inl, inr, cases_lt, cond-false, cond-true}
use Rattle.tor_view.proofs.Names.{div_ceil, div_ceil_times, and_from, and_parts, le-leb, leb-true}
use Rattle.tor_view.proofs.Names.{lt-ltb, ltb-true, div_below}
use Rattle.tor_view.proofs.Names.{empty_unit, entries_length, tree_span}
use Rattle.tor_view.proofs.Names.{joined_entry_unit, joined_entry_units, lengths_of_entries, padding_before_next}
use Rattle.tor_view.proofs.Names.{separate_entry_units, PlanUnit}
use Rattle.tor_view.proofs.Names.{entries_to_cut, IsCut, pieces_of, file_spans, no_span}
use Rattle.tor_view.proofs.Names.{tree_spans, pieces_in, FileView, View, has_v1, has_v2, Entry, Label}
use Rattle.tor_view.proofs.Names.{entry_cases, file, piece_of_byte}
use Rattle.tor_view.specs.FileBytes.{has_byte_of}
use Rattle.tor_view.proofs.ByteOfPiece.{at_piece, is_byte_in, is_byte_in_is, joined_have, no_byte, none_in_piece}
use Rattle.tor_view.proofs.ByteOfPiece.{other_part, piece_at, this_part, within}
use Rattle.tor_view.proofs.FilesThere.{later_spans}
use Rattle.tor_view.proofs.MerklePieces.{length_of}
use Rattle.tor_view.proofs.PartsOfFiles.{cut_joined, joined_at, unit_here, unit_later}
use Rattle.tor_view.proofs.PieceSides.{cut_each, other_side, same_lengths, some_piece}
use Rattle.tor_view.proofs.RangeSteps.{pieced}
use Rattle.tor_view.proofs.SpanBounds.{by_kind}
use Rattle.tor_view.proofs.SpanBytes.{same_tests}
use Rattle.tor_view.proofs.SpanFits.{tree_spans_fit}

-- ---- units of files that are cut each by itself

module _ (p b : ℕ) (some : 0 < p) where
  abbrev unit_at : ℕ → List Entry → ℕ → PlanUnit
  unit_at index entries k = get_or (separate_entry_units p index entries) k empty_unit

  none_apart : (entries : List Entry) (index other k : ℕ) → other < index
      → has_byte_of other b (unit_at index entries k) ≡ false
  unfolding separate_entry_units
  none_apart [] index other k lt = refl
  none_apart (entry ∷ entries) index other k lt =
      entry_cases (λ e. has_byte_of other b (unit_at index (e ∷ entries) k) ≡ false)
      (λ label m. none_apart entries index other k lt)
      (λ label m.
      let tail = padding_before_next entries in
      let rest = separate_entry_units p (index + 1) entries in
      elim (cases_lt k (div_ceil m p)) [
        | inl here ↦
            ap (has_byte_of other b) (unit_here p some index m tail k rest here)
            ∙ other_part index other (within (k * p) (min (m - k * p) p) b) false (λ same. omega (arith, same, lt))
        | inr later ↦
            ap (has_byte_of other b) (unit_later p some index m tail k rest later)
            ∙ none_apart entries (index + 1) other (k - div_ceil m p) (omega (arith, lt))
      ]) entry

  abbrev HasEach : ℕ → ℕ → List Entry → List FileView → Type 0
  HasEach index first entries files = (j k : ℕ) → has_byte_of (index + j) b (unit_at index entries k)
      ≡ is_byte_in p (get_or (tree_spans p first files) j no_span) (first + k) b

  -- the bytes of unit k of a file
  of_unit : (first m k : ℕ) → within (k * p) (min (m - k * p) p) b ≡ is_byte_in p (tree_span p first m) (first + k) b
  of_unit first m k = same_tests (within (k * p) (min (m - k * p) p) b) (is_byte_in p (tree_span p first m) (first + k) b)
      (λ is.
      let both = and_parts (leb (k * p) b) (nat_lt b (k * p + min (m - k * p) p)) is in
      let low = leb-true (k * p) b both.0 in
      let high = ltb-true b (k * p + min (m - k * p) p) both.1 in
      (is_byte_in_is p (tree_span p first m) (first + k) b).1 (
        omega (arith, low, high),
        ap (λ n. first + n / p) (let e : 0 + b ≡ b = omega arith in e)
            ∙ ap (λ n. first + n) (piece_at p k b some low (omega (arith, low, high))),
      ))
      (λ is.
      let both = (is_byte_in_is p (tree_span p first m) (first + k) b).0 is in
      let here : b / p ≡ k = piece_here first k both.1 in
      let bounds = at_piece p k b some here in
      and_from (leb (k * p) b) (nat_lt b (k * p + min (m - k * p) p)) (le-leb (k * p) b bounds.0)
      (lt-ltb b (k * p + min (m - k * p) p) (omega (arith, both.0, bounds.0, bounds.1))))
    where
      piece_here : (first k : ℕ) → first + (0 + b) / p ≡ first + k → b / p ≡ k
      piece_here first k is =
          let same : (0 + b) / p ≡ b / p = ap (λ n. n / p) (let e : 0 + b ≡ b = omega arith in e) in
          omega (arith, is, same)

  -- none past the file's last piece
  past_unit : (first m k : ℕ) → div_ceil m p ≤ k → is_byte_in p (tree_span p first m) (first + k) b ≡ false
  past_unit first m k past = none_in_piece p (tree_span p first m) (first + k) b (λ lt is.
      let same : (0 + b) / p ≡ b / p = ap (λ n. n / p) (let e : 0 + b ≡ b = omega arith in e) in
      let less = div_below b p (div_ceil m p) some (omega (arith, lt, (div_ceil_times m p some).0)) in
      omega (arith, is, same, less, past))

  of_file : (index first m : ℕ) (label : Label) (entries : List Entry) (told : FileView) (files : List FileView)
      → m ≡ length_of told → HasEach (index + 1) (first + pieces_in p (length_of told)) entries files
      → HasEach index first (file label m ∷ entries) (told ∷ files)
  unfolding separate_entry_units
  of_file index first m label entries told files long rest zero k =
      let tail = padding_before_next entries in
      let later = separate_entry_units p (index + 1) entries in
      elim (cases_lt k (div_ceil m p)) [
        | inl here ↦
            ap (has_byte_of (index + 0) b) (unit_here p some index m tail k later here)
            ∙ this_part index (index + 0) (within (k * p) (min (m - k * p) p) b) (omega arith)
            ∙ of_unit first m k
            ∙ ap (λ n. is_byte_in p (tree_span p first n) (first + k) b) long
        | inr past ↦
            ap (has_byte_of (index + 0) b) (unit_later p some index m tail k later past)
            ∙ none_apart entries (index + 1) (index + 0) (k - div_ceil m p) (omega arith)
            ∙ sym (past_unit first m k past)
            ∙ ap (λ n. is_byte_in p (tree_span p first n) (first + k) b) long
      ]
  of_file index first m label entries told files long rest (suc j) k =
      let tail = padding_before_next entries in
      let later = separate_entry_units p (index + 1) entries in
      let c = pieces_in p (length_of told) in
      let span = get_or (tree_spans p (first + c) files) j no_span in
      let same : div_ceil m p ≡ c = ap (λ n. div_ceil n p) long in
      elim (cases_lt k (div_ceil m p)) [
        | inl here ↦
            ap (has_byte_of (index + suc j) b) (unit_here p some index m tail k later here)
            ∙ other_part index (index + suc j) (within (k * p) (min (m - k * p) p) b) false (λ one. omega (arith, one))
            ∙ sym (none_in_piece p span (first + k) b (λ lt is.
            let fits = tree_spans_fit p some (first + c) files j in
            let filled = fits.filled (omega (arith, lt)) in
            let less = div_below (span.lead + b) p (div_ceil (span.lead + span.length) p) some
            (omega (arith, lt, (div_ceil_times (span.lead + span.length) p some).0)) in
            let at = later_spans p some (first + c) (first + c) (omega arith) files j (first + k) (omega (arith, is))
            (omega (arith, is, less, filled)) in
            omega (arith, at, here, same)))
        | inr past ↦
            ap (has_byte_of (index + suc j) b) (unit_later p some index m tail k later past)
            ∙ ap (λ (other : ℕ). has_byte_of other b (unit_at (index + 1) entries (k - div_ceil m p)))
            (let e : index + suc j ≡ index + 1 + j = omega arith in e)
            ∙ rest j (k - div_ceil m p)
            ∙ ap (λ (n : ℕ). is_byte_in p span n b) (let e : first + c + (k - div_ceil m p) ≡ first + k = omega (arith, past, same) in e)
      ]

  apart_have : (entries : List Entry) (files : List FileView) (index first : ℕ)
      → lengths_of_entries entries ≡ map length_of files → HasEach index first entries files
  unfolding separate_entry_units
  apart_have [] [] index first lengths = λ j k. sym (no_byte p (first + k) b)
  apart_have [] (told ∷ files) index first lengths = cc
  apart_have (entry ∷ entries) files index first lengths =
      entry_cases (λ e. lengths_of_entries (e ∷ entries) ≡ map length_of files
      → HasEach index first (e ∷ entries) files)
      (λ label m same. apart_have entries files index first same)
      (λ label m same. by_files label m files same (apart_have entries)) entry lengths where
        by_files : (label : Label) (m : ℕ) (some_files : List FileView)
            → m ∷ lengths_of_entries entries ≡ map length_of some_files
            → ((later : List FileView) (index first : ℕ) → lengths_of_entries entries ≡ map length_of later
            → HasEach index first entries later)
            → HasEach index first (file label m ∷ entries) some_files
        by_files label m [] same rest = cc
        by_files label m (told ∷ later) same rest =
            let long : m ≡ length_of told = cc in
            let others : lengths_of_entries entries ≡ map length_of later = cc in
            of_file index first m label entries told later long
            (rest later (index + 1) (first + pieces_in p (length_of told)) others)

-- ---- all pieces

pieces_have : (view : View) (file b k : ℕ) → IsCut view → k < view.piece_count
    → has_byte_of file b (get_or (pieces_of view) k empty_unit)
    ≡ is_byte_in view.piece_length (get_or (file_spans view) file no_span) k b
pieces_have view file b k cut lt =
    let p = view.piece_length in
    let some = some_piece view.kind p cut.pieces in
    let entries = entries_to_cut view in
    by_kind (λ span. has_byte_of file b (get_or (pieces_of view) k empty_unit) ≡ is_byte_in p span k b) view file
    (λ two.
    ap (λ (units : List PlanUnit). has_byte_of file b (get_or units k empty_unit)) (cut_each view.kind p entries two)
    ∙ ap (λ (n : ℕ). has_byte_of n b (unit_at p b some 0 entries k)) (let e : file ≡ 0 + file = omega arith in e)
    ∙ apart_have p b some entries view.files 0 0 (same_lengths view cut) file k
    ∙ ap (λ (n : ℕ). is_byte_in p (get_or (tree_spans p 0 view.files) file no_span) n b)
    (let e : 0 + k ≡ k = omega arith in e))
    (λ none.
    let listed : entries ≡ view.entries = cond-true (has_v1 view.kind) _ _ (other_side view.kind none) in
    let count = cut.count ∙ cond-false (has_v2 view.kind) _ (div_ceil (entries_length view.entries) p) none in
    ap (λ (units : List PlanUnit). has_byte_of file b (get_or units k empty_unit))
    (cut_joined view.kind p entries none ∙ ap (joined_entry_units p) listed)
    ∙ ap (has_byte_of file b) (joined_at p view.entries k (omega (arith, lt, count)))
    ∙ ap (λ (n : ℕ). has_byte_of n b (joined_entry_unit p view.entries k)) (let e : file ≡ 0 + file = omega arith in e)
    ∙ joined_have p k b some view.entries 0 0 file)

pub pieces_have_bytes : (view : View) (file b piece : ℕ) → IsCut view → piece < view.piece_count
    → (has_byte_of file b (get_or (pieces_of view) piece empty_unit) ≡ true)
    ↔ ((b < (get_or (file_spans view) file no_span).length)
    × (piece_of_byte (pieced view.piece_length (get_or (file_spans view) file no_span)) b ≡ piece))
pieces_have_bytes view file b piece cut lt =
    let same = pieces_have view file b piece cut lt in
    let both = is_byte_in_is view.piece_length (get_or (file_spans view) file no_span) piece b in
    (λ has. both.0 (sym same ∙ has), λ is. same ∙ both.1 is)
