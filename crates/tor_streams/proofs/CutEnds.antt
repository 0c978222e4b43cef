-- What is cut where a content ends, and where all end.
use Rattle.std.proofs.Common.{◌≡◌, ℕ, ◌<◌, Bool, true, false, cond, List, [], ◌∷◌, ◌++◌, length, map, take, arith}
use Rattle.std.proofs.Common.{refl, ap, ◌∙◌, sym, subst, append-nil, vec_len}
use Rattle.std.proofs.lemmas.Grind.{flat_map-append}
use Rattle.std.proofs.lemmas.List.{length-map, nil_from_length}
use Rattle.std.proofs.lemmas.List.FromFn.{length-range_with_len}
use Rattle.std.specs.List.{flat_map, range_with_len}
use Rattle.tor_lane.specs.Lane.{IsOpen}
use Rattle.tor_tree.specs.Kinds.{has_v2}
use Rattle.tor_v1.proofs.ProvedLaws.{pieces_nil}
use Rattle.tor_streams.specs.declared.chunking.Chunking.{Chunking}
use Rattle.tor_streams.specs.declared.cutter.Cutter.{Cutter}
use Rattle.tor_streams.specs.declared.pairs.Pairs.{Pairs}
use Rattle.tor_streams.specs.steps.Cuts.{HasCut, HasPut, IsCutOff, PutsHeld, bare_cuts, closed_cuts, cut_of, cuts_held}
use Rattle.tor_streams.specs.steps.Cuts.{cuts_before_end, cuts_of_content, ending_in, given_to, open_text, runs_of}
use Rattle.tor_streams.specs.steps.Cuts.{units_held, units_of, zeros_between}
use Rattle.tor_streams.proofs.CutLists.{held_closes, held_ends}
use Rattle.tor_streams.proofs.Cutting.{none_of}
use Rattle.tor_streams.proofs.StreamContent.{some_run}

-- the content of contents, and one more
joined_more : (contents : List (List ℕ)) (content : List ℕ)
    → flat_map (λ content. content) (contents ++ content ∷ []) ++ []
    ≡ flat_map (λ content. content) contents ++ content
joined_more contents content =
    append-nil _ ∙ flat_map-append (λ content. content) contents (content ∷ [])
    ∙ ap (λ xs. flat_map (λ content. content) contents ++ xs) (append-nil content)

module _ (chunking : Chunking) (some : 0 < chunking.size) where
  abbrev Has : List (List ℕ) → List ℕ → Cutter → Type 0
  Has contents current cutter = HasCut chunking contents current cutter

  abbrev Off : List (List ℕ) → List ℕ → Cutter → Type 0
  Off contents current cutter = IsCutOff chunking contents current cutter

  -- ---- where a content ends

  closed_more : (contents : List (List ℕ)) (content : List ℕ) → has_v2 chunking.kind ≡ true
      → closed_cuts chunking (contents ++ content ∷ [])
      ≡ closed_cuts chunking contents ++ cuts_of_content chunking content
  closed_more contents content trees =
      ap (λ b. cond b (flat_map (cuts_of_content chunking) (contents ++ content ∷ [])) []) trees
      ∙ flat_map-append (cuts_of_content chunking) contents (content ∷ [])
      ∙ ap (λ xs. flat_map (cuts_of_content chunking) contents ++ xs) (append-nil _)
      ∙ sym (ap (λ b. cond b (flat_map (cuts_of_content chunking) contents) []
      ++ cuts_of_content chunking content) trees)

  open_with_trees : (contents : List (List ℕ)) (current : List ℕ) → has_v2 chunking.kind ≡ true
      → open_text chunking.kind contents current ≡ current
  open_with_trees contents current trees =
      ap (λ b. cond b current (flat_map (λ content. content) contents ++ current)) trees

  open_without : (contents : List (List ℕ)) (current : List ℕ) → has_v2 chunking.kind ≡ false
      → open_text chunking.kind contents current ≡ flat_map (λ content. content) contents ++ current
  open_without contents current none =
      ap (λ b. cond b current (flat_map (λ content. content) contents ++ current)) none

  -- one that has bytes, where each is cut by itself
  pub content_ends : (contents : List (List ℕ)) (content : List ℕ) (old new : Cutter) → has_v2 chunking.kind ≡ true
      → 0 < length content → Off contents content old → new.pairs ≡ old.pairs → new.held ≡ old.held
      → new.next ≡ old.next → new.buffer ≡ old.buffer → new.filled ≡ old.filled
      → new.zeros ≡ zeros_between chunking.kind chunking.piece_length (length content)
      → Has (contents ++ content ∷ []) [] new
  content_ends contents content old new trees more off pairs held next buffer filled zeros =
      let split = some_run chunking.size some content more in
      let run = split.0 in
      let runs = split.1.0 in
      let z = zeros_between chunking.kind chunking.piece_length (length content) in
      let before = closed_cuts chunking contents in
      let own = ap (runs_of chunking.size) (open_with_trees contents content trees) ∙ split.1.1 in
      let closes = held_closes (map cut_of (given_to old.pairs)) before old.held z old.zeros run runs
      (λ none. ap (map cut_of) (off.begun none)) (off.cuts ∙ ap (λ xs. before ++ bare_cuts xs) own) in
      record {
        buffer = ap vec_len buffer ∙ off.buffer;
        filled = omega (arith, filled, off.filled);
        cut = [];
        whole = (0, none_of chunking.size);
        text = ap (λ n. take n new.buffer.items) (filled ∙ off.filled)
            ∙ sym (open_with_trees (contents ++ content ∷ []) [] trees);
        cuts = ap (λ f. map cut_of (given_to f) ++ cuts_held new.held new.zeros) pairs
            ∙ ap (λ h. map cut_of (given_to old.pairs) ++ cuts_held h new.zeros) held
            ∙ ap (λ n. map cut_of (given_to old.pairs) ++ cuts_held old.held n) zeros ∙ closes
            ∙ ap (λ xs. before ++ ending_in z (bare_cuts xs)) (sym split.1.1)
            ∙ sym (closed_more contents content trees) ∙ sym (append-nil _)
            ∙ ap (λ xs. closed_cuts chunking (contents ++ content ∷ []) ++ bare_cuts xs)
            (sym (pieces_nil chunking.size some));
        units = ap (λ f. units_of (given_to f) ++ units_held new.held) pairs
            ∙ ap (λ h. units_of (given_to old.pairs) ++ units_held h) held ∙ off.units
            ∙ ap (range_with_len 0) (sym next);
        opened = subst (λ (p : Pairs). IsOpen p.feeder) (sym pairs) off.opened;
        begun = λ none. ap given_to pairs ∙ off.begun (sym held ∙ none);
      }

  -- one that has none, or where all are cut as one
  closed_same : (contents : List (List ℕ)) (content : List ℕ) → (has_v2 chunking.kind ≡ true → length content ≡ 0)
      → closed_cuts chunking (contents ++ content ∷ []) ≡ closed_cuts chunking contents
  closed_same contents content empty = by_kind (has_v2 chunking.kind) refl
    where
      by_kind : (b : Bool) → has_v2 chunking.kind ≡ b
          → closed_cuts chunking (contents ++ content ∷ []) ≡ closed_cuts chunking contents
      by_kind true trees =
          closed_more contents content trees
          ∙ ap (λ xs. closed_cuts chunking contents ++ cuts_of_content chunking xs)
          (nil_from_length content (empty trees))
          ∙ ap (λ runs. closed_cuts chunking contents
          ++ ending_in (zeros_between chunking.kind chunking.piece_length 0) (bare_cuts runs))
          (pieces_nil chunking.size some)
          ∙ append-nil (closed_cuts chunking contents)
      by_kind false none =
          ap (λ b. cond b (flat_map (cuts_of_content chunking) (contents ++ content ∷ [])) []) none
          ∙ sym (ap (λ b. cond b (flat_map (cuts_of_content chunking) contents) []) none)

  open_same : (contents : List (List ℕ)) (content : List ℕ) → (has_v2 chunking.kind ≡ true → length content ≡ 0)
      → open_text chunking.kind contents content ≡ open_text chunking.kind (contents ++ content ∷ []) []
  open_same contents content empty = by_kind (has_v2 chunking.kind) refl
    where
      by_kind : (b : Bool) → has_v2 chunking.kind ≡ b
          → open_text chunking.kind contents content ≡ open_text chunking.kind (contents ++ content ∷ []) []
      by_kind true trees =
          open_with_trees contents content trees ∙ nil_from_length content (empty trees)
          ∙ sym (open_with_trees (contents ++ content ∷ []) [] trees)
      by_kind false none =
          open_without contents content none ∙ sym (joined_more contents content)
          ∙ sym (open_without (contents ++ content ∷ []) [] none)

  pub content_stays : (contents : List (List ℕ)) (content : List ℕ) (cutter : Cutter)
      → (has_v2 chunking.kind ≡ true → length content ≡ 0) → Has contents content cutter
      → Has (contents ++ content ∷ []) [] cutter
  content_stays contents content cutter empty has = record {
    buffer = has.buffer;
    filled = has.filled;
    cut = has.cut;
    whole = has.whole;
    text = has.text ∙ open_same contents content empty;
    cuts = has.cuts
        ∙ ap (λ xs. xs ++ bare_cuts (runs_of chunking.size has.cut)) (sym (closed_same contents content empty));
    units = has.units;
    opened = has.opened;
    begun = has.begun;
  }

  -- ---- where all end

  -- with the zeros that were to follow what is held, or with none
  end_cuts : (tail : Bool) (contents : List (List ℕ)) (old : Cutter) → Off contents [] old
      → map cut_of (given_to old.pairs) ++ cuts_held old.held (cond tail old.zeros 0)
      ≡ cond tail (cuts_before_end chunking contents) (ending_in 0 (cuts_before_end chunking contents))
  end_cuts true contents old off = off.cuts
  end_cuts false contents old off =
      held_ends (map cut_of (given_to old.pairs)) old.held 0 old.zeros (λ none. ap (map cut_of) (off.begun none))
      ∙ ap (ending_in 0) off.cuts

  pub all_end : (contents : List (List ℕ)) (old new : Cutter) → Off contents [] old
      → PutsHeld (cond chunking.tail old.zeros 0) old new → HasPut chunking contents (given_to new.pairs)
  all_end contents old new off puts = record {
    cuts = puts.cuts ∙ end_cuts chunking.tail contents old off;
    units =
        let all = puts.units ∙ off.units in
        all ∙ ap (range_with_len 0) (sym (length-range_with_len 0 old.next) ∙ sym (ap length all)
        ∙ length-map (given_to new.pairs) (λ chunk. chunk.unit));
  }
