-- The joined content of files, and the padding between them, is that of the chunks of their contents.
use Rattle.std.proofs.Common.{◌≡◌, ℕ, zero, suc, ◌<◌, Bool, true, false, cond, ◌&&◌, ◌||◌, ltb, List, []}
use Rattle.std.proofs.Common.{◌∷◌, ◌++◌, length, map, arith, refl, ap, ap₂, ◌∙◌, sym, append-nil}
use Rattle.std.proofs.lemmas.Bool.{lt-ltb}
use Rattle.std.specs.List.{flat_map, list_any}
use Rattle.tor_v1.proofs.ProvedLaws.{pieces_nil}
use Rattle.tor_plan.specs.Content.{AreContentsOfFiles, cut_content}
use Rattle.tor_tree.specs.Kinds.{has_v1}
use Rattle.tor_tree.specs.declared.kinds.Kind.{Kind}
use Rattle.tor_tree.specs.declared.kinds.Kind.TheVariants.{V1, V2, Hybrid}
use Rattle.tor_v1.specs.Content.{joined_content}
use Rattle.tor_v1.specs.Entries.{aligned_entries, file_entry, has_bytes, pad_entry, padding_length}
use Rattle.tor_v1.specs.Piece.{zeros}
use Rattle.tor_v1.specs.declared.entry.Entry.{Entry}
use Rattle.tor_streams.specs.steps.Cuts.{bare_cuts, ending_in, stream_cuts}
use Rattle.tor_streams.proofs.StreamContent.{chunking_of, cuts_of_v1, joined_cuts, no_zeros, own_cuts, own_text, padded_text}

abbrev File : Type 0
File = List (List ℕ) × ℕ

-- files one after the other
pub joined_files : (files : List File) (contents : List (List ℕ)) → AreContentsOfFiles files contents
    → joined_content (map file_entry files) contents ≡ flat_map (λ content. content) contents
unfolding joined_content
joined_files [] [] fit = refl
joined_files [] (content ∷ contents) fit = cc
joined_files (file ∷ files) [] fit = cc
joined_files (file ∷ files) (content ∷ contents) fit =
    let rest : AreContentsOfFiles files contents = cc in ap (λ xs. content ++ xs) (joined_files files contents rest)

-- some file has a byte where its content has
same_bytes : (files : List File) (contents : List (List ℕ)) → AreContentsOfFiles files contents
    → has_bytes files ≡ list_any (λ content. ltb 0 (length content)) contents
same_bytes [] [] fit = refl
same_bytes [] (content ∷ contents) fit = cc
same_bytes (file ∷ files) [] fit = cc
same_bytes (file ∷ files) (content ∷ contents) fit =
    let first : length content ≡ file.1 = cc in
    let rest : AreContentsOfFiles files contents = cc in
    ap₂ (λ n b. ltb 0 n || b) (sym first) (same_bytes files contents rest)

-- the padding after a file, where it lacks so many bytes
pub padding_first : (n : ℕ) (b : Bool) (entries : List Entry) (contents : List (List ℕ))
    → joined_content (cond (ltb 0 n && b) (pad_entry n ∷ []) [] ++ entries) contents
    ≡ zeros (cond b n 0) ++ joined_content entries contents
unfolding joined_content
padding_first zero true entries contents = ap (λ xs. xs ++ joined_content entries contents) (sym no_zeros)
padding_first zero false entries contents = ap (λ xs. xs ++ joined_content entries contents) (sym no_zeros)
padding_first (suc n) b entries contents =
    ap (λ t. joined_content (cond (t && b) (pad_entry (suc n) ∷ []) [] ++ entries) contents)
    (lt-ltb 0 (suc n) (omega arith)) ∙ lacks_some b
  where
    lacks_some : (b : Bool) → joined_content (cond (true && b) (pad_entry (suc n) ∷ []) [] ++ entries) contents
        ≡ zeros (cond b (suc n) 0) ++ joined_content entries contents
    lacks_some true = refl
    lacks_some false = ap (λ xs. xs ++ joined_content entries contents) (sym no_zeros)

module _ (size p : ℕ) (some : 0 < size) (pos : 0 < p) where
  aligned_text : (files : List File) (contents : List (List ℕ)) → AreContentsOfFiles files contents
      → joined_content (aligned_entries false p files) contents ≡ padded_text size some p pos contents
  unfolding joined_content aligned_entries
  aligned_text [] [] fit = refl
  aligned_text [] (content ∷ contents) fit = cc
  aligned_text (file ∷ files) [] fit = cc
  aligned_text (file ∷ files) (content ∷ contents) fit =
      let first : length content ≡ file.1 = cc in
      let rest : AreContentsOfFiles files contents = cc in
      ap (λ xs. content ++ xs)
      (padding_first (padding_length p file.1) (has_bytes files) (aligned_entries false p files) contents
      ∙ ap₂ (λ n xs. zeros n ++ xs)
      (ap₂ (λ b n. cond b (padding_length p n) 0) (same_bytes files contents rest) (sym first))
      (aligned_text files contents rest))

  -- what the chunks have together, where the kind has SHA-1 of pieces
  pub stream_text : (kind : Kind) (files : List File) (contents : List (List ℕ)) → AreContentsOfFiles files contents
      → has_v1 kind ≡ true
      → joined_cuts (stream_cuts (chunking_of kind false p size) contents) ≡ cut_content kind false p files contents
  stream_text V1 files contents fit pieces = cuts_of_v1 size some p contents ∙ sym (joined_files files contents fit)
  stream_text V2 files contents fit pieces = cc
  stream_text Hybrid files contents fit pieces =
      ap (λ rs. joined_cuts (ending_in 0 (flat_map (own_cuts size some p pos) contents ++ bare_cuts rs)))
      (pieces_nil size some)
      ∙ ap (λ xs. joined_cuts (ending_in 0 xs)) (append-nil _) ∙ own_text size some p pos contents
      ∙ sym (aligned_text files contents fit)
