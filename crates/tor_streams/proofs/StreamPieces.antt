-- The SHA-1 of the pieces of chunks are those of what the chunks have together.
use Rattle.std.proofs.Common.{◌≡◌, ℕ, zero, suc, ◌+◌, ◌*◌, ◌<◌, ◌≤◌, Bool, true, false, cond, List, [], ◌∷◌, ◌++◌}
use Rattle.std.proofs.Common.{length, map, drop, arith, refl, ap, ◌∙◌, sym, subst, append-nil, length-append}
use Rattle.std.proofs.Common.{length-drop, mul-le-mul_right}
use Rattle.std.proofs.lemmas.Grind.{div_ceil_times}
use Rattle.std.proofs.lemmas.List.{length-take-le}
use Rattle.std.specs.Fork.{slice_chunk}
use Rattle.std.specs.Int.{div_ceil}
use Rattle.std.specs.List.{AllByRecursion, flat_map, range_with_len}
use Rattle.tor_v1.proofs.ProvedLaws.{whole_with_padding, sums_of_joined, piece_sums-nil, pieces_nil}
use Rattle.tor_tree.specs.declared.kinds.Kind.{Kind}
use Rattle.tor_tree.specs.declared.kinds.Kind.TheVariants.{V1, V2, Hybrid}
use Rattle.tor_plan.specs.Content.{AreContentsOfFiles, cut_content}
use Rattle.tor_tree.specs.Kinds.{has_v1}
use Rattle.tor_v1.specs.Entries.{padding_length}
use Rattle.tor_v1.specs.Piece.{piece_sums, pieces_of}
use Rattle.tor_streams.specs.declared.chunking.Chunking.{Chunking}
use Rattle.tor_streams.specs.steps.Cuts.{Cut, IsChunking, bare_cuts, cuts_of_content, ending_in, open_text}
use Rattle.tor_streams.specs.steps.Cuts.{pieces_of_cut, runs_of, stream_cuts}
use Rattle.tor_streams.proofs.Cutting.{some_size}
use Rattle.tor_streams.proofs.StreamContent.{chunking_of, joined_again, joined_cuts, text_of}
use Rattle.tor_streams.proofs.StreamTail.{stream_text}
use Rattle.tor_sums.proofs.FileHashes.{some_piece}
use Rattle.tor_sums.proofs.Zeros.{length_with_zeros}

module _ (p : ℕ) where
  -- it has whole pieces
  abbrev pub IsWhole : Cut → Type 0
  IsWhole cut = (k : ℕ) × (length (text_of cut) ≡ k * p)

  -- so has each but the last
  abbrev pub AreWhole : List Cut → Type 0
  AreWhole [] = Unit {0}
  AreWhole (cut ∷ []) = Unit {0}
  AreWhole (cut ∷ next ∷ cuts) = IsWhole cut × AreWhole (next ∷ cuts)

  module _ (pos : 0 < p) where
    pub sums_of_cuts : (cuts : List Cut) → AreWhole cuts
        → flat_map (λ cut. piece_sums p (text_of cut)) cuts ≡ piece_sums p (joined_cuts cuts)
    sums_of_cuts [] whole = sym (piece_sums-nil p pos)
    sums_of_cuts (cut ∷ []) whole =
        append-nil (piece_sums p (text_of cut)) ∙ ap (piece_sums p) (sym (append-nil (text_of cut)))
    sums_of_cuts (cut ∷ next ∷ cuts) whole =
        ap (λ xs. piece_sums p (text_of cut) ++ xs) (sums_of_cuts (next ∷ cuts) whole.1)
        ∙ sym (sums_of_joined p whole.0.0 (text_of cut) (joined_cuts (next ∷ cuts)) pos whole.0.1)

  -- other zeros after the last
  ending_whole : (n : ℕ) (cuts : List Cut) → AreWhole cuts → AreWhole (ending_in n cuts)
  ending_whole n [] whole = tt
  ending_whole n (cut ∷ []) whole = tt
  ending_whole n (cut ∷ next ∷ []) whole = (whole.0, tt)
  ending_whole n (cut ∷ next ∷ more ∷ cuts) whole = (whole.0, ending_whole n (next ∷ more ∷ cuts) whole.1)

  -- all of them
  but_the_last : (cuts : List Cut) → AllByRecursion IsWhole cuts → AreWhole cuts
  but_the_last [] all = tt
  but_the_last (cut ∷ []) all = tt
  but_the_last (cut ∷ next ∷ cuts) all = (all.0, but_the_last (next ∷ cuts) all.1)

  all_after : (front cuts : List Cut) → AllByRecursion IsWhole front → AllByRecursion IsWhole cuts
      → AllByRecursion IsWhole (front ++ cuts)
  all_after [] cuts first rest = rest
  all_after (cut ∷ front) cuts first rest = (first.0, all_after front cuts first.1 rest)

  module _ (size span : ℕ) (some : 0 < size) (is : size ≡ span * p) where
    -- each run but the last is a whole unit
    abbrev AreFull : List (List ℕ) → Type 0
    AreFull [] = Unit {0}
    AreFull (run ∷ []) = Unit {0}
    AreFull (run ∷ next ∷ runs) = (length run ≡ size) × AreFull (next ∷ runs)

    full_from : (content : List ℕ) (a n : ℕ) → (a + n) * size < length content + size
        → AreFull (map (slice_chunk content size) (range_with_len a n))
    full_from content a zero below = tt
    full_from content a (suc zero) below = tt
    full_from content a (suc (suc n)) below =
        let up : (a + suc (suc n)) * size ≡ (a + n) * size + size + size = omega arith in
        let low : a * size ≤ (a + n) * size = mul-le-mul_right size (let e : a ≤ a + n = omega arith in e) in
        let same : a + 1 + suc n ≡ a + suc (suc n) = omega arith in (
          length-take-le size (drop (a * size) content)
              (omega (arith, length-drop (a * size) content, up, low, below)),
          full_from content (a + 1) (suc n) (subst (λ (k : ℕ). k * size < length content + size) (sym same) below),
        )

    full_runs : (content : List ℕ) → AreFull (runs_of size content)
    unfolding pieces_of
    full_runs content =
        let n = div_ceil (length content) size in
        full_from content 0 n (subst (λ (k : ℕ). k * size < length content + size)
        (let e : n ≡ 0 + n = omega arith in e) (div_ceil_times (length content) size some).1)

    unit_is_whole : (run : List ℕ) → length run ≡ size → IsWhole (run, 0)
    unit_is_whole run long = (span, length_with_zeros run 0 ∙ omega (arith, long, is))

    bare_whole : (runs : List (List ℕ)) → AreFull runs → AreWhole (bare_cuts runs)
    bare_whole [] full = tt
    bare_whole (run ∷ []) full = tt
    bare_whole (run ∷ next ∷ runs) full = (unit_is_whole run full.0, bare_whole (next ∷ runs) full.1)

    -- so many runs with whole pieces in all: the last has whole pieces too
    closed_whole : (z k : ℕ) (runs : List (List ℕ)) → AreFull runs
        → length (flat_map (λ r. r) runs) + z ≡ k * p → AllByRecursion IsWhole (ending_in z (bare_cuts runs))
    closed_whole z k [] full all = tt
    closed_whole z k (run ∷ []) full all =
        ((k, length_with_zeros run z ∙ omega (arith, all, length-append run [])), tt)
    closed_whole z k (run ∷ next ∷ runs) full all =
        let rest = flat_map (λ r. r) (next ∷ runs) in
        let long : span * p + (length rest + z) ≡ k * p = omega (arith, all, length-append run rest, full.0, is) in
        let fewer = less_whole k span (length rest + z) long in (
          unit_is_whole run full.0,
          closed_whole z fewer.0 (next ∷ runs) full.1 fewer.1,
        )
      where
        less_whole : (k n m : ℕ) → n * p + m ≡ k * p → (j : ℕ) × (m ≡ j * p)
        less_whole k zero m all = (k, omega (arith, all))
        less_whole zero (suc n) m all = (0, omega (arith, all))
        less_whole (suc k) (suc n) m all = less_whole k n m (omega (arith, all))

    abbrev own : List ℕ → List Cut
    own content = cuts_of_content (chunking_of Hybrid false p size) content

    own_whole : (pos : 0 < p) (content : List ℕ)
        → AllByRecursion IsWhole (own content)
    own_whole pos content =
        let lacks = whole_with_padding p (length content) pos in
        closed_whole (padding_length p (length content)) lacks.0 (runs_of size content) (full_runs content)
        (ap (λ xs. length xs + padding_length p (length content)) (joined_again size some content) ∙ lacks.1)

    all_whole : (pos : 0 < p) (contents : List (List ℕ))
        → AllByRecursion IsWhole (flat_map own contents)
    all_whole pos [] = tt
    all_whole pos (content ∷ contents) =
        all_after (own content) _ (own_whole pos content) (all_whole pos contents)

    -- with a tail or without
    end_whole : (tail : Bool) (cuts : List Cut) → AreWhole cuts → AreWhole (cond tail cuts (ending_in 0 cuts))
    end_whole true cuts whole = whole
    end_whole false cuts whole = ending_whole 0 cuts whole

    pub stream_whole : (pos : 0 < p) (kind : Kind) (tail : Bool) (contents : List (List ℕ)) → has_v1 kind ≡ true
        → AreWhole (stream_cuts (chunking_of kind tail p size) contents)
    stream_whole pos V1 tail contents pieces =
        end_whole tail _ (bare_whole (runs_of size (open_text V1 contents [])) (full_runs _))
    stream_whole pos V2 tail contents pieces = cc
    stream_whole pos Hybrid tail contents pieces =
        end_whole tail _ (but_the_last _ (all_after _ (bare_cuts (runs_of size [])) (all_whole pos contents)
        (subst (λ (runs : List (List ℕ)). AllByRecursion IsWhole (bare_cuts runs)) (sym (pieces_nil size some)) tt)))

-- the pieces of all chunks, if the kind has pieces
module _ (chunking : Chunking) (is : IsChunking chunking) (files : List (List (List ℕ) × ℕ))
    (contents : List (List ℕ)) (fit : AreContentsOfFiles files contents) where
  abbrev p : ℕ
  p = chunking.piece_length

  abbrev cuts : List Cut
  cuts = stream_cuts chunking contents

  abbrev AreSums : Type 0
  AreSums = flat_map (pieces_of_cut chunking) cuts
      ≡ cond (has_v1 chunking.kind) (piece_sums p (cut_content chunking.kind chunking.tail p files contents)) []

  none_of_all : (cuts : List Cut) → flat_map {A = ℕ} (λ (cut : Cut). []) cuts ≡ []
  none_of_all [] = refl
  none_of_all (cut ∷ cuts) = none_of_all cuts

  by_kind : (b : Bool) → has_v1 chunking.kind ≡ b → AreSums
  by_kind true pieces =
      let some = some_size chunking is in
      let pos = some_piece chunking.kind p is.cut.pieces in
      ap (λ b. flat_map (λ (cut : Cut). cond b (piece_sums p (text_of cut)) []) cuts) pieces
      ∙ sums_of_cuts p pos cuts
      (stream_whole p chunking.size is.span some is.size pos chunking.kind chunking.tail contents pieces)
      ∙ ap (piece_sums p) (stream_text chunking.size p some pos chunking.kind chunking.tail files contents fit pieces)
      ∙ sym (ap (λ b. cond b (piece_sums p (cut_content chunking.kind chunking.tail p files contents)) []) pieces)
  by_kind false none =
      ap (λ b. flat_map (λ (cut : Cut). cond b (piece_sums p (text_of cut)) []) cuts) none
      ∙ none_of_all cuts
      ∙ sym (ap (λ b. cond b (piece_sums p (cut_content chunking.kind chunking.tail p files contents)) []) none)

  pub pieces_of_stream : AreSums
  pieces_of_stream = by_kind (has_v1 chunking.kind) refl
