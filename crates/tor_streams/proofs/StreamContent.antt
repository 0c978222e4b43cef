-- The joined content of the chunks of contents.
use Rattle.std.proofs.Common.{◌≡◌, ◌⊎◌, ℕ, zero, suc, ◌+◌, ◌*◌, ◌<◌, Bool, true, false, cond, ◌||◌, ltb, List, []}
use Rattle.std.proofs.Common.{◌∷◌, ◌++◌, length, map, take, drop, arith, refl, ap, ap₂, ◌∙◌, sym, append_assoc}
use Rattle.std.proofs.Common.{append-nil, inl, inr}
use Rattle.std.proofs.Math.Seq.{take-add}
use Rattle.std.proofs.lemmas.Bool.{lt-ltb}
use Rattle.std.proofs.lemmas.Grind.{div_ceil_times, flat_map-append}
use Rattle.std.proofs.lemmas.List.{drop-drop, take_all}
use Rattle.std.specs.Fork.{slice_chunk}
use Rattle.std.specs.Int.{div_ceil}
use Rattle.std.specs.List.{flat_map, list_any, range_with_len}
use Rattle.tor_v1.proofs.ProvedLaws.{no_padding, pieces_nil}
use Rattle.tor_tree.specs.declared.kinds.Kind.{Kind}
use Rattle.tor_tree.specs.declared.kinds.Kind.TheVariants.{V1, Hybrid}
use Rattle.tor_v1.specs.Entries.{padding_length}
use Rattle.tor_v1.specs.Piece.{pieces_of, zeros}
use Rattle.tor_streams.specs.declared.chunking.Chunking.{Chunking}
use Rattle.tor_streams.specs.steps.Cuts.{Cut, bare_cuts, cuts_of_content, ending_in, runs_of, stream_cuts}
use Rattle.tor_streams.proofs.CutLists.{ending_after, ending_twice}

-- a chunking by its fields
abbrev pub chunking_of : Kind → Bool → ℕ → ℕ → Chunking
chunking_of kind tail p size = record { kind = kind; piece_length = p; size = size; tail = tail }

-- the bytes of a chunk, and the zeros after them
abbrev pub text_of : Cut → List ℕ
text_of cut = cut.0 ++ zeros cut.1

abbrev pub joined_cuts : List Cut → List ℕ
joined_cuts cuts = flat_map text_of cuts

pub no_zeros : zeros 0 ≡ []
unfolding zeros
no_zeros = refl

bare_text : (run : List ℕ) → text_of (run, 0) ≡ run
bare_text run = ap (λ xs. run ++ xs) no_zeros ∙ append-nil run

-- runs, and zeros after the last
joined_runs : (z : ℕ) (run : List ℕ) (runs : List (List ℕ)) → joined_cuts (ending_in z (bare_cuts (run ∷ runs)))
    ≡ flat_map (λ r. r) (run ∷ runs) ++ zeros z
joined_runs z run [] = append-nil (run ++ zeros z) ∙ ap (λ xs. xs ++ zeros z) (sym (append-nil run))
joined_runs z run (next ∷ runs) =
    ap₂ (λ xs ys. xs ++ ys) (bare_text run) (joined_runs z next runs)
    ∙ sym (append_assoc run (flat_map (λ r. r) (next ∷ runs)) (zeros z))

module _ (size : ℕ) (some : 0 < size) where
  -- runs are put together again
  from_run : (content : List ℕ) (a n : ℕ)
      → flat_map (λ r. r) (map (slice_chunk content size) (range_with_len a n))
      ≡ take (n * size) (drop (a * size) content)
  from_run content a zero =
      ap (λ k. take k (drop (a * size) content)) (let e : 0 ≡ 0 * size = omega arith in e)
  from_run content a (suc n) =
      let rest = drop (a * size) content in
      ap (λ xs. take size rest ++ xs) (from_run content (a + 1) n
      ∙ ap (take (n * size)) (ap (λ k. drop k content) (let e : (a + 1) * size ≡ a * size + size = omega arith in e)
      ∙ sym (drop-drop size (a * size) content)))
      ∙ sym (take-add size (n * size) rest)
      ∙ ap (λ k. take k rest) (let e : size + n * size ≡ suc n * size = omega arith in e)

  pub joined_again : (content : List ℕ) → flat_map (λ r. r) (runs_of size content) ≡ content
  unfolding pieces_of
  joined_again content =
      from_run content 0 (div_ceil (length content) size)
      ∙ ap (λ k. take (div_ceil (length content) size * size) (drop k content))
      (let e : 0 * size ≡ 0 = omega arith in e)
      ∙ take_all (div_ceil (length content) size * size) content (div_ceil_times (length content) size some).0

  -- ---- one content

  -- it has no byte, or a first run and others
  abbrev HasRun : List ℕ → Type 0
  HasRun content = (run : List ℕ) × ((runs : List (List ℕ)) × (runs_of size content ≡ run ∷ runs))

  pub runs_cases : (content : List ℕ) → (content ≡ []) ⊎ ((0 < length content) × HasRun content)
  runs_cases [] = inl refl
  runs_cases (byte ∷ bytes) = inr (omega arith, by_runs (runs_of size (byte ∷ bytes)) refl)
    where
      by_runs : (runs : List (List ℕ)) → runs_of size (byte ∷ bytes) ≡ runs → HasRun (byte ∷ bytes)
      by_runs (run ∷ runs) is = (run, (runs, is))
      by_runs [] is =
          let none : [] ≡ byte ∷ bytes = sym (ap (flat_map (λ r. r)) is) ∙ joined_again (byte ∷ bytes) in absurd cc

  pub some_run : (content : List ℕ) → 0 < length content → HasRun content
  some_run content more = elim (runs_cases content) [
    | inl none ↦ absurd (omega (arith, more, ap length none))
    | inr filled ↦ filled.1
  ]

  pub content_with : (z : ℕ) (content : List ℕ) → HasRun content
      → joined_cuts (ending_in z (bare_cuts (runs_of size content))) ≡ content ++ zeros z
  content_with z content (run, (runs, is)) =
      ap (λ rs. joined_cuts (ending_in z (bare_cuts rs))) is ∙ joined_runs z run runs
      ∙ ap (λ xs. xs ++ zeros z) (ap (flat_map (λ r. r)) (sym is) ∙ joined_again content)

  -- in version 1
  pub cuts_of_v1 : (p : ℕ) (contents : List (List ℕ))
      → joined_cuts (stream_cuts (chunking_of V1 false p size) contents) ≡ flat_map (λ content. content) contents
  cuts_of_v1 p contents =
      let text = flat_map (λ content. content) contents in
      ap (λ xs. joined_cuts (ending_in 0 (bare_cuts (runs_of size xs)))) (append-nil text)
      ∙ elim (runs_cases text) [
        | inl none ↦ ap (λ xs. joined_cuts (ending_in 0 (bare_cuts (runs_of size xs)))) none
            ∙ ap (λ rs. joined_cuts (ending_in 0 (bare_cuts rs))) (pieces_nil size some) ∙ sym none
        | inr run ↦ content_with 0 text run.1 ∙ bare_text text
      ]

  -- ---- in a hybrid

  module _ (p : ℕ) (pos : 0 < p) where
    abbrev pub own_cuts : List ℕ → List Cut
    own_cuts content = cuts_of_content (chunking_of Hybrid false p size) content

    abbrev some_byte : List (List ℕ) → Bool
    some_byte contents = list_any (λ content. ltb 0 (length content)) contents

    -- contents, and the padding between those that have bytes
    abbrev pub padded_text : List (List ℕ) → List ℕ
    padded_text [] = []
    padded_text (content ∷ later) =
        content ++ (zeros (cond (some_byte later) (padding_length p (length content)) 0) ++ padded_text later)

    -- later contents have no byte, and no chunk, or some
    later_cases : (contents : List (List ℕ))
        → ((some_byte contents ≡ false) × (flat_map own_cuts contents ≡ []) × (padded_text contents ≡ []))
        ⊎ ((some_byte contents ≡ true)
        × ((cut : Cut) × ((cuts : List Cut) × (flat_map own_cuts contents ≡ cut ∷ cuts))))
    later_cases [] = inl (refl, refl, refl)
    later_cases (content ∷ later) = elim (runs_cases content) [
      | inl none ↦ elim (later_cases later) [
        | inl rest ↦ inl (
          ap₂ (λ xs b. (ltb 0 (length xs)) || b) none rest.0,
          ap₂ (λ xs ys. own_cuts xs ++ ys) none rest.1
              ∙ ap (λ rs. ending_in (padding_length p 0) (bare_cuts rs) ++ []) (pieces_nil size some),
          ap₂ (λ xs b. xs ++ (zeros (cond b (padding_length p (length xs)) 0) ++ padded_text later)) none rest.0
              ∙ ap₂ (λ xs ys. xs ++ ys) no_zeros rest.2,
        )
        | inr rest ↦ inr (
          ap₂ (λ xs b. (ltb 0 (length xs)) || b) none rest.0,
          (
            rest.1.0,
            (
              rest.1.1.0,
              ap (λ xs. own_cuts xs ++ flat_map own_cuts later) none
                  ∙ ap (λ rs. ending_in (padding_length p 0) (bare_cuts rs) ++ flat_map own_cuts later)
                  (pieces_nil size some) ∙ rest.1.1.1,
            ),
          ),
        )
      ]
      | inr filled ↦ inr (
        ap (λ b. b || some_byte later) (lt-ltb 0 (length content) filled.0),
        some_cut (padding_length p (length content)) filled.1.0 filled.1.1.0 (flat_map own_cuts later)
            (ap (λ rs. ending_in (padding_length p (length content)) (bare_cuts rs)) filled.1.1.1),
      )
    ]
      where
        some_cut : (z : ℕ) (run : List ℕ) (runs : List (List ℕ)) (others : List Cut)
            → own_cuts content ≡ ending_in z (bare_cuts (run ∷ runs))
            → (cut : Cut) × ((cuts : List Cut) × (own_cuts content ++ others ≡ cut ∷ cuts))
        some_cut z run [] others is = ((run, z), (others, ap (λ xs. xs ++ others) is))
        some_cut z run (next ∷ runs) others is =
            ((run, 0), (ending_in z (bare_cuts (next ∷ runs)) ++ others, ap (λ xs. xs ++ others) is))

    -- the chunks of contents that are cut each by itself
    pub own_text : (contents : List (List ℕ))
        → joined_cuts (ending_in 0 (flat_map own_cuts contents)) ≡ padded_text contents
    own_text [] = refl
    own_text (content ∷ later) = elim (runs_cases content) [
      | inl none ↦ ap (λ xs. joined_cuts (ending_in 0 (own_cuts xs ++ flat_map own_cuts later))) none
          ∙ ap (λ rs. joined_cuts (ending_in 0 (ending_in (padding_length p 0) (bare_cuts rs)
          ++ flat_map own_cuts later))) (pieces_nil size some) ∙ own_text later
          ∙ sym (ap (λ xs. xs ++ (zeros (cond (some_byte later) (padding_length p (length xs)) 0)
          ++ padded_text later)) none
          ∙ ap (λ n. zeros n ++ padded_text later) (same_if (some_byte later) (no_padding p))
          ∙ ap (λ xs. xs ++ padded_text later) no_zeros)
      | inr filled ↦ elim (later_cases later) [
        | inl rest ↦ ap (λ xs. joined_cuts (ending_in 0 (own_cuts content ++ xs))) rest.1
            ∙ ap (λ xs. joined_cuts (ending_in 0 xs)) (append-nil (own_cuts content))
            ∙ ap joined_cuts (ending_twice 0 (padding_length p (length content)) (bare_cuts (runs_of size content)))
            ∙ content_with 0 content filled.1
            ∙ ap (λ xs. content ++ xs) (sym (append-nil (zeros 0)))
            ∙ sym (ap₂ (λ b xs. content ++ (zeros (cond b (padding_length p (length content)) 0) ++ xs))
            rest.0 rest.2)
        | inr rest ↦
            let cuts = rest.1.1.1 in
            ap (λ xs. joined_cuts (ending_in 0 (own_cuts content ++ xs))) cuts
            ∙ ap joined_cuts (ending_after 0 (own_cuts content) rest.1.0 rest.1.1.0)
            ∙ flat_map-append text_of (own_cuts content) (ending_in 0 (rest.1.0 ∷ rest.1.1.0))
            ∙ ap₂ (λ xs ys. xs ++ ys) (content_with (padding_length p (length content)) content filled.1)
            (ap (λ xs. joined_cuts (ending_in 0 xs)) (sym cuts) ∙ own_text later)
            ∙ append_assoc content (zeros (padding_length p (length content))) (padded_text later)
            ∙ sym (ap (λ b. content ++ (zeros (cond b (padding_length p (length content)) 0) ++ padded_text later))
            rest.0)
      ]
    ]
      where
        same_if : (b : Bool) {n : ℕ} → n ≡ 0 → cond b n 0 ≡ 0
        same_if true none = none
        same_if false none = refl
