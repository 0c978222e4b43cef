-- The spans of files tell which pieces have which bytes of them.
use Rattle.tor_view.proofs.Names.{◌≡◌, ℕ, ◌+◌, ◌*◌, ◌/◌, ◌%◌, ◌<◌, List, [], ◌∷◌, arith, refl, sym, ap, ◌∙◌}
use Rattle.tor_view.proofs.Names.{get_or, nat_lt, cond-false, cond-true, le-ltb, lt-ltb, min, div_ceil, zero-add}
use Rattle.tor_view.proofs.Names.{add-mul-div_right, add-mul-mod_self_right, div-add-mod', mod-lt, zero-div, zero-mod, ap₂}
use Rattle.tor_view.proofs.Names.{file_spans, joined_span, joined_spans, no_span, tree_span, tree_spans}
use Rattle.tor_view.proofs.Names.{IsCut, IsSpanOf, pieces_in, FileView, View, Entry, entry_cases}
use Rattle.tor_view.proofs.MerklePieces.{length_of}
use Rattle.tor_view.proofs.PieceSides.{some_piece}
use Rattle.tor_view.proofs.SpanBounds.{by_kind, each_more}

module _ (p : ℕ) (some : 0 < p) where
  no_span_fits : IsSpanOf p no_span
  no_span_fits = record {
    some = some;
    lead = some;
    filled = λ more. absurd (omega (arith, more));
    empty = λ _. refl;
  }

  no_pieces : div_ceil 0 p ≡ 0
  no_pieces = ap₂ (λ q r. q + min 1 r) (zero-div p) (zero-mod p)

  tree_fits : (first n : ℕ) → IsSpanOf p (tree_span p first n)
  tree_fits first n = record {
    some = some;
    lead = some;
    filled = λ _. ap (λ m. first + div_ceil m p) (sym (zero-add n));
    empty = λ none. ap (λ m. first + div_ceil m p) none ∙ ap (λ m. first + m) no_pieces ∙ (omega arith);
  }

  -- the pieces from the one with byte `start` on
  ceil_from : (start n : ℕ) → div_ceil (start + n) p ≡ start / p + div_ceil (start % p + n) p
  ceil_from start n =
      let m = start % p + n in
      ap (λ k. div_ceil k p) parts
      ∙ ap₂ (λ q r. q + min 1 r) (add-mul-div_right m (start / p) some) (add-mul-mod_self_right m (start / p) p)
      ∙ turned (m / p) (start / p) (min 1 (m % p))
    where
      parts : start + n ≡ start % p + n + start / p * p
      parts = let both = div-add-mod' start p in omega (arith, both)

      turned : (a b c : ℕ) → a + b + c ≡ b + (a + c)
      turned a b c = omega arith

  joined_fits : (start n : ℕ) → IsSpanOf p (joined_span p start n)
  joined_fits start n = record {
    some = some;
    lead = mod-lt start some;
    filled = λ more. cond-true (nat_lt 0 n) (div_ceil (start + n) p) (start / p) (lt-ltb 0 n more) ∙ ceil_from start n;
    empty = λ none. cond-false (nat_lt 0 n) (div_ceil (start + n) p) (start / p) (le-ltb 0 n (omega (arith, none)));
  }

  pub tree_spans_fit : (first : ℕ) (files : List FileView) (i : ℕ) → IsSpanOf p (get_or (tree_spans p first files) i no_span)
  tree_spans_fit first [] i = no_span_fits
  tree_spans_fit first (told ∷ files) i =
      let after = first + pieces_in p (length_of told) in
      each_more (IsSpanOf p) (tree_span p first (length_of told)) (tree_spans p after files)
      (tree_fits first (length_of told)) (tree_spans_fit after files) i

  in_entries : (start : ℕ) (entries : List Entry) (i : ℕ) → IsSpanOf p (get_or (joined_spans p start entries) i no_span)
  in_entries start [] i = no_span_fits
  in_entries start (entry ∷ entries) i =
      entry_cases (λ e. IsSpanOf p (get_or (joined_spans p start (e ∷ entries)) i no_span))
      (λ label m. in_entries (start + m) entries i)
      (λ label m. each_more (IsSpanOf p) (joined_span p start m) (joined_spans p (start + m) entries)
      (joined_fits start m) (in_entries (start + m) entries) i) entry

pub spans_fit : (view : View) (i : ℕ) → IsCut view → IsSpanOf view.piece_length (get_or (file_spans view) i no_span)
spans_fit view i cut =
    let p = view.piece_length in
    let some = some_piece view.kind p cut.pieces in
    by_kind (IsSpanOf p) view i (λ _. tree_spans_fit p some 0 view.files i) (λ _. in_entries p some 0 view.entries i)
