-- The joined content of the chunks of contents, with a tail and without.
use Rattle.std.proofs.Common.{◌≡◌, ℕ, ◌<◌, Bool, true, false, List, [], ◌∷◌, ◌++◌, length, refl, ap, ap₂, ◌∙◌}
use Rattle.std.proofs.Common.{sym, append_assoc, append-nil, inl, inr}
use Rattle.std.proofs.lemmas.Grind.{flat_map-append}
use Rattle.std.specs.List.{flat_map}
use Rattle.tor_plan.specs.Content.{AreContentsOfFiles, cut_content}
use Rattle.tor_tree.specs.Kinds.{has_v1}
use Rattle.tor_tree.specs.declared.kinds.Kind.{Kind}
use Rattle.tor_tree.specs.declared.kinds.Kind.TheVariants.{V1, V2, Hybrid}
use Rattle.tor_v1.proofs.ProvedLaws.{no_padding, pieces_nil}
use Rattle.tor_v1.specs.Content.{joined_content}
use Rattle.tor_v1.specs.Entries.{aligned_entries, padding_length}
use Rattle.tor_v1.specs.Piece.{zeros}
use Rattle.tor_streams.specs.steps.Cuts.{Cut, bare_cuts, cuts_of_content, ending_in, stream_cuts}
use Rattle.tor_streams.proofs.FilesContent.{padding_first, stream_text as text_without}
use Rattle.tor_streams.proofs.StreamContent.{chunking_of, content_with, joined_cuts, no_zeros, runs_cases, text_of}

abbrev File : Type 0
File = List (List ℕ) × ℕ

-- no zeros follow bare cuts anyway
bare_end : (runs : List (List ℕ)) → ending_in 0 (bare_cuts runs) ≡ bare_cuts runs
bare_end [] = refl
bare_end (run ∷ []) = refl
bare_end (run ∷ next ∷ runs) = ap (λ cuts. (run, 0) ∷ cuts) (bare_end (next ∷ runs))

module _ (size p : ℕ) (some : 0 < size) (pos : 0 < p) where
  abbrev own : List ℕ → List Cut
  own content = cuts_of_content (chunking_of Hybrid true p size) content

  abbrev lack : List ℕ → ℕ
  lack content = padding_length p (length content)

  -- contents, and what each lacks
  abbrev tail_text : List (List ℕ) → List ℕ
  tail_text [] = []
  tail_text (content ∷ later) = content ++ (zeros (lack content) ++ tail_text later)

  one_text : (content : List ℕ)
      → joined_cuts (own content) ≡ content ++ zeros (lack content)
  one_text content = elim (runs_cases size some content) [
    | inl none ↦ ap (λ xs. joined_cuts (own xs)) none
        ∙ ap (λ runs. joined_cuts (ending_in (lack []) (bare_cuts runs))) (pieces_nil size some)
        ∙ sym (ap (λ xs. xs ++ zeros (lack xs)) none ∙ ap zeros (no_padding p) ∙ no_zeros)
    | inr filled ↦ content_with size some (lack content) content filled.1
  ]

  own_tail : (contents : List (List ℕ))
      → joined_cuts (flat_map own contents) ≡ tail_text contents
  own_tail [] = refl
  own_tail (content ∷ later) =
      flat_map-append text_of (own content) (flat_map own later)
      ∙ ap₂ (λ xs ys. xs ++ ys) (one_text content) (own_tail later)
      ∙ append_assoc content (zeros (lack content)) (tail_text later)

  aligned_tail : (files : List File) (contents : List (List ℕ)) → AreContentsOfFiles files contents
      → joined_content (aligned_entries true p files) contents ≡ tail_text contents
  unfolding joined_content aligned_entries
  aligned_tail [] [] fit = refl
  aligned_tail [] (content ∷ contents) fit = cc
  aligned_tail (file ∷ files) [] fit = cc
  aligned_tail (file ∷ files) (content ∷ contents) fit =
      let first : length content ≡ file.1 = cc in
      let rest : AreContentsOfFiles files contents = cc in
      ap (λ xs. content ++ xs)
      (padding_first (padding_length p file.1) true (aligned_entries true p files) contents
      ∙ ap₂ (λ n xs. zeros (padding_length p n) ++ xs) (sym first) (aligned_tail files contents rest))

  -- what the chunks have together, where the kind has SHA-1 of pieces
  pub stream_text : (kind : Kind) (tail : Bool) (files : List File) (contents : List (List ℕ))
      → AreContentsOfFiles files contents → has_v1 kind ≡ true
      → joined_cuts (stream_cuts (chunking_of kind tail p size) contents) ≡ cut_content kind tail p files contents
  stream_text V1 false files contents fit pieces = text_without size p some pos V1 files contents fit pieces
  stream_text V1 true files contents fit pieces =
      ap joined_cuts (sym (bare_end _)) ∙ text_without size p some pos V1 files contents fit pieces
  stream_text V2 tail files contents fit pieces = cc
  stream_text Hybrid false files contents fit pieces = text_without size p some pos Hybrid files contents fit pieces
  stream_text Hybrid true files contents fit pieces =
      ap (λ runs. joined_cuts (flat_map own contents ++ bare_cuts runs))
      (pieces_nil size some)
      ∙ ap joined_cuts (append-nil _) ∙ own_tail contents ∙ sym (aligned_tail files contents fit)
