-- Where all pieces that have bytes of a file are whole, all its bytes are there.
use Rattle.tor_view.proofs.Names.{◌≡◌, ℕ, zero, suc, ◌+◌, ◌-◌, ◌*◌, ◌/◌, ◌<◌, ◌≤◌, Bool, true, false, min, List, []}
use Rattle.tor_view.proofs.Names.{◌∷◌, ◌++◌, length, map, take, drop, replicate, get_or, None, Some, is_some, nat_lt}
use Rattle.tor_view.proofs.Names.{arith, refl, ap, subst, sym, ◌∙◌, inl, inr, append_assoc, false≢true, and_parts}
use Rattle.tor_view.proofs.Names.{cases_lt, cond-true, leb-true, lt-ltb, div_below, div_ceil_times, tree_span}
use Rattle.tor_view.proofs.Names.{get_or-append_right, get_or-drop, get_or-replicate, get_or-take}
use Rattle.tor_view.proofs.Names.{get_or_append_left, length-append, length-drop, length-map, length-replicate}
use Rattle.tor_view.proofs.Names.{length-take, list_all_at, get_or-map-range_with_len, length-map-range_with_len}
use Rattle.tor_view.proofs.Names.{div_ceil, bytes_eq, run_at, joined_span, joined_spans, no_span, tree_spans}
use Rattle.tor_view.proofs.Names.{FileSpan, bytes_in, file_bytes, is_whole, joined_bytes, zeros, file_pieces}
use Rattle.tor_view.proofs.Names.{is_merkle_piece, merkle_hash, merkle_pieces, told_hash, pieces_in, FileView, Entry}
use Rattle.tor_view.proofs.Names.{entry_cases}
use Rattle.tor_view.proofs.FoundBytes.{Found, length-file, run-file, whole_file}
use Rattle.tor_view.proofs.MerklePieces.{length_of}
use Rattle.tor_view.proofs.SpanBounds.{each_more}

-- the whole of n bytes is there where the bytes from s on are
last_bytes : (s n m : ℕ) (content : List ℕ) → s < m → n ≡ m - s → n ≤ length (drop s content) → m ≤ length content
last_bytes s n m content begun same le = omega (arith, length-drop s content, begun, same, le)

-- of a file that lacks bytes the last one is not there
last_is_none : (n : ℕ) (content : List ℕ) → length content < n → get_or (file_bytes n content) (n - 1) None ≡ None
last_is_none n content less =
    let some = map Some (take n content) in
    let long : length some ≡ length content =
    length-map (take n content) Some ∙ length-take n content
    ∙ (let e : min n (length content) ≡ length content = omega (arith, less) in e) in
    get_or-append_right some (replicate (n - length content) None) (length content) (n - 1) None long
    (omega (arith, less))
    ∙ get_or-replicate (n - length content) (n - 1 - length content) None None (omega (arith, less))

module _ (p : ℕ) (some : 0 < p) where
  -- a run with a byte that is not there is not whole
  lacks_one : (found : Found) (k j : ℕ) → k * p ≤ j → j < k * p + p → j < length found → get_or found j None ≡ None
      → is_whole (run_at p found k) ≡ false
  lacks_one found k j low high within none =
      let s = k * p in
      let rest = drop s found in
      let i = j - s in
      let below : i < p = omega (arith, low, high) in
      let there : i < length (take p rest) =
      omega (arith, length-take p rest, length-drop s found, below, within, low) in
      list_all_at is_some (take p rest) i None there
      (ap is_some (get_or-take p rest i None below ∙ get_or-drop s found i None
      ∙ ap (λ n. get_or found n None) (let e : s + i ≡ j = omega (arith, low) in e) ∙ none))

  -- the last of the runs of n bytes
  record LastRun (n : ℕ) : Type 0 where
    at : ℕ
    count : div_ceil n p ≡ at + 1
    begun : at * p < n
    ended : n ≤ at * p + p

  last_run : (n : ℕ) → 0 < n → LastRun n
  last_run n filled = by (div_ceil n p) refl (div_ceil_times n p some) where
    by : (q : ℕ) → div_ceil n p ≡ q → (n ≤ q * p) × (q * p < n + p) → LastRun n
    by zero is bounds = let no : 0 * p ≡ 0 = omega arith in absurd (omega (arith, no, bounds.0, filled))
    by (suc k) is bounds =
        let next : suc k * p ≡ k * p + p = omega arith in
        record {
          at = k;
          count = is ∙ (let e : suc k ≡ k + 1 = omega arith in e);
          begun = omega (arith, next, bounds.1);
          ended = omega (arith, next, bounds.0);
        }

  -- ---- pieces that are numbered file by file

  last_is_whole : (m : ℕ) (content : List ℕ) (k : ℕ) → k * p < m → m ≤ k * p + p
      → is_whole (run_at p (file_bytes m content) k) ≡ true → m ≤ length content
  last_is_whole m content k begun ended whole =
      let s = k * p in
      let n = min (m - s) p in
      let rest = drop s content in
      let all : n ≤ length rest =
      leb-true n (length rest) (sym (ap is_whole (run-file s p m content) ∙ whole_file n rest) ∙ whole) in
      last_bytes s n m content begun (omega (arith, ended)) all

  -- the pieces of later files have higher numbers
  abbrev pub BeginsAt : ℕ → FileSpan → Type 0
  BeginsAt base span = (k : ℕ) → span.first ≤ k → k < span.after → base ≤ k

  pub later_spans : (base first : ℕ) → base ≤ first → (files : List FileView) (i : ℕ)
      → BeginsAt base (get_or (tree_spans p first files) i no_span)
  later_spans base first le [] i = λ k low high. absurd (omega (arith, high))
  later_spans base first le (told ∷ files) i =
      let after = first + pieces_in p (length_of told) in
      each_more (BeginsAt base) (tree_span p first (length_of told))
      (tree_spans p after files) (λ k low high. omega (arith, le, low))
      (λ j. later_spans base after (omega (arith, le)) files j) i

  -- the pieces of a file that have these numbers are whole
  abbrev AreWhole : (ℕ → Bool) → FileSpan → Type 0
  AreWhole whole span = (k : ℕ) → span.first ≤ k → k < span.after → whole k ≡ true

  first_in_tree : (told : FileView) (content : List ℕ) (rest : List Bool) (first : ℕ)
      → ((k : ℕ) → first ≤ k → k < first + pieces_in p (length_of told)
      → get_or (file_pieces p told content ++ rest) (k - first) false ≡ true)
      → length_of told ≤ length content
  first_in_tree told content rest first all = elim (cases_lt 0 (length_of told)) [
    | inl filled ↦
        let m = length_of told in
        let last = last_run m filled in
        let here = file_pieces p told content in
        let below : last.at < pieces_in p m = omega (arith, last.count) in
        let count = length-map-range_with_len (is_merkle_piece p told content) 0 (pieces_in p m) in
        let right : is_merkle_piece p told content last.at ≡ true =
        sym (ap (λ n. get_or (here ++ rest) n false)
        (let e : first + last.at - first ≡ last.at = omega arith in e)
        ∙ get_or_append_left here rest false last.at (omega (arith, below, count))
        ∙ get_or-map-range_with_len (is_merkle_piece p told content) 0 (pieces_in p m) last.at last.at false below
        (omega arith))
        ∙ all (first + last.at) (omega arith) (omega (arith, below)) in
        let run = run_at p (file_bytes m content) last.at in
        last_is_whole m content last.at last.begun last.ended
        (and_parts (is_whole run)
        (bytes_eq (merkle_hash p told (bytes_in run)) (told_hash p told last.at)) right).0
    | inr none ↦ omega (arith, none)
  ]

  pub there_in_tree : (files : List FileView) (contents : List (List ℕ)) (first i : ℕ)
      → AreWhole (λ k. get_or (merkle_pieces p files contents) (k - first) false)
      (get_or (tree_spans p first files) i no_span)
      → (get_or (tree_spans p first files) i no_span).length ≤ length (get_or contents i [])
  there_in_tree [] contents first i all = omega arith
  there_in_tree (told ∷ files) contents first zero all =
      first_in_tree told (get_or contents 0 []) (merkle_pieces p files (drop 1 contents)) first all
  there_in_tree (told ∷ files) contents first (suc i) all =
      let content = get_or contents 0 [] in
      let c = pieces_in p (length_of told) in
      let rest = merkle_pieces p files (drop 1 contents) in
      let later = later_spans (first + c) (first + c) (omega arith) files i in
      let count = length-map-range_with_len (is_merkle_piece p told content) 0 c in
      subst (λ content. (get_or (tree_spans p (first + c) files) i no_span).length ≤ length content)
      (get_or-drop 1 contents i [] ∙ ap (λ n. get_or contents n []) (let e : 1 + i ≡ suc i = omega arith in e))
      (there_in_tree files (drop 1 contents) (first + c) i
      (λ k low high.
      let at = later k low high in
      ap (λ n. get_or rest n false) (let e : k - (first + c) ≡ k - first - c = omega arith in e)
      ∙ sym (get_or-append_right (file_pieces p told content) rest c (k - first) false count (omega (arith, at)))
      ∙ all k low high))

  -- ---- pieces of joined entries

  first_in_entries : (before rest : Found) (start m : ℕ) (content : List ℕ) → length before ≡ start
      → AreWhole (λ k. is_whole (run_at p (before ++ (file_bytes m content ++ rest)) k)) (joined_span p start m)
      → m ≤ length content
  first_in_entries before rest start m content long all = elim (cases_lt 0 m) [
    | inl filled ↦
        let found = before ++ (file_bytes m content ++ rest) in
        let last = last_run (start + m) (omega (arith, filled)) in
        let after = cond-true (nat_lt 0 m) (div_ceil (start + m) p) (start / p) (lt-ltb 0 m filled) in
        let turned : (last.at + 1) * p ≡ last.at * p + p = omega arith in
        let low = div_below start p (last.at + 1) some (omega (arith, last.ended, filled, turned)) in
        let whole = all last.at (omega (arith, low)) (omega (arith, after, last.count)) in
        elim (cases_lt (length content) m) [
          | inl less ↦
              let at : start ≤ start + m - 1 = omega (arith, filled) in
              let none : get_or found (start + m - 1) None ≡ None =
              get_or-append_right before (file_bytes m content ++ rest) start (start + m - 1) None long at
              ∙ ap (λ n. get_or (file_bytes m content ++ rest) n None)
              (let e : start + m - 1 - start ≡ m - 1 = omega arith in e)
              ∙ get_or_append_left (file_bytes m content) rest None (m - 1)
              (omega (arith, length-file m content, filled))
              ∙ last_is_none m content less in
              let within : start + m - 1 < length found =
              omega (
                arith,
                length-append before (file_bytes m content ++ rest),
                length-append (file_bytes m content) rest,
                length-file m content,
                long,
                filled,
              ) in
              absurd (false≢true (sym (lacks_one found last.at (start + m - 1) (omega (arith, last.begun, filled))
              (omega (arith, last.ended, filled)) within none) ∙ whole))
          | inr enough ↦ enough
        ]
    | inr none ↦ omega (arith, none)
  ]

  -- more bytes stand before what is left
  moved : (before here rest : Found) (span : FileSpan)
      → AreWhole (λ k. is_whole (run_at p (before ++ (here ++ rest)) k)) span
      → AreWhole (λ k. is_whole (run_at p (before ++ here ++ rest) k)) span
  moved before here rest span all = λ k low high.
      ap (λ (found : Found). is_whole (run_at p found k)) (append_assoc before here rest) ∙ all k low high

  pub there_in_entries : (entries : List Entry) (contents : List (List ℕ)) (before : Found) (start i : ℕ)
      → length before ≡ start
      → AreWhole (λ k. is_whole (run_at p (before ++ joined_bytes entries contents) k))
      (get_or (joined_spans p start entries) i no_span)
      → (get_or (joined_spans p start entries) i no_span).length ≤ length (get_or contents i [])
  unfolding zeros
  there_in_entries [] contents before start i long all = omega arith
  there_in_entries (entry ∷ entries) contents before start i long all =
      entry_cases (λ e. AreWhole (λ k. is_whole (run_at p (before ++ joined_bytes (e ∷ entries) contents) k))
      (get_or (joined_spans p start (e ∷ entries)) i no_span)
      → (get_or (joined_spans p start (e ∷ entries)) i no_span).length ≤ length (get_or contents i []))
      (λ label m whole.
      let here = map Some (zeros m) in
      there_in_entries entries contents (before ++ here) (start + m) i
      (length-append before here ∙ ap (λ n. length before + n) (length-zeros m) ∙ ap (λ n. n + m) long)
      (moved before here (joined_bytes entries contents) (get_or (joined_spans p (start + m) entries) i no_span)
      whole))
      (λ label m whole. file_or_later m i (there_in_entries entries) whole) entry all where
        length-zeros : (m : ℕ) → length (map Some (zeros m)) ≡ m
        length-zeros m = length-map (replicate m 0) Some ∙ length-replicate m 0

        file_or_later : (m i : ℕ) → ((contents : List (List ℕ)) (before : Found) (start i : ℕ) → length before ≡ start
            → AreWhole (λ k. is_whole (run_at p (before ++ joined_bytes entries contents) k))
            (get_or (joined_spans p start entries) i no_span)
            → (get_or (joined_spans p start entries) i no_span).length ≤ length (get_or contents i []))
            → AreWhole (λ k. is_whole (run_at p (before ++ (file_bytes m (get_or contents 0 [])
            ++ joined_bytes entries (drop 1 contents))) k))
            (get_or (joined_span p start m ∷ joined_spans p (start + m) entries) i no_span)
            → (get_or (joined_span p start m ∷ joined_spans p (start + m) entries) i no_span).length
            ≤ length (get_or contents i [])
        file_or_later m zero later whole =
            first_in_entries before (joined_bytes entries (drop 1 contents)) start m (get_or contents 0 []) long whole
        file_or_later m (suc i) later whole =
            let here = file_bytes m (get_or contents 0 []) in
            subst (λ content. (get_or (joined_spans p (start + m) entries) i no_span).length ≤ length content)
            (get_or-drop 1 contents i [] ∙ ap (λ n. get_or contents n []) (let e : 1 + i ≡ suc i = omega arith in e))
            (later (drop 1 contents) (before ++ here) (start + m) i
            (length-append before here ∙ ap (λ n. length before + n) (length-file m (get_or contents 0 []))
            ∙ ap (λ n. n + m) long)
            (moved before here (joined_bytes entries (drop 1 contents))
            (get_or (joined_spans p (start + m) entries) i no_span) whole))
