-- The proofs of the laws.
use Rattle.std.proofs.Common.{◌≡◌, ℕ, ◌+◌, ◌*◌, Bool, true, false, not, cond, List, [], ◌∷◌, ◌++◌, map, length, sum_by}
use Rattle.std.proofs.Common.{slice_index_or, drop, arith, refl, ap, ap₂, ◌∙◌, sym, length-append, ◌<◌, ltb, count_by}
use Rattle.std.proofs.lemmas.List.FromFn.{length-map-range_with_len}
use Rattle.std.proofs.lemmas.List.Sums.{sum_by-cons}
use Rattle.std.specs.Fork.{slice_chunk}
use Rattle.std.specs.Int.{div_ceil}
use Rattle.std.specs.List.{flat_map}
use Rattle.sha1.specs.Sha1.{sha1, digest_bytes}
use Rattle.tor_v1.specs.Content.{file_entries, AreContentsOf, joined_content}
use Rattle.tor_v1.specs.Entries.{file_entry, pad_entry, has_bytes, aligned_entries, v1_entries, with_letters}
use Rattle.tor_tree.specs.declared.attr.Attr.{Attr}
use Rattle.tor_v1.proofs.LetteredEntries.{kept}
use Rattle.tor_v1.specs.Piece.{pieces_of, piece_sums, zeros}
use Rattle.tor_v1.proofs.Aligned.{has_bytes-count}
use Rattle.tor_v1.proofs.Cut.{sums-append}
use Rattle.tor_v1.proofs.Zeros.{length-zeros}
use Rattle.tor_v1.specs.declared.entry.Entry.{Entry}
use Rattle.tor_v1.specs.declared.layout.Layout.{Layout}
use Rattle.tor_v1.specs.declared.layout.Layout.TheVariants.{Joined, Aligned, AlignedTail}
pub use Rattle.tor_v1.proofs.Cut.{one_piece, piece_sums-nil, pieces-append, pieces_nil}
pub use Rattle.tor_v1.proofs.LetteredEntries.{each_lettered, letters_of_files, letters_on}
pub use Rattle.tor_v1.proofs.LetteredEntries.{files_kept as letters_keep_files, kept as letters_keep}
pub use Rattle.tor_v1.proofs.LetteredEntries.{none_of_files as no_letters_of_files}
pub use Rattle.tor_v1.proofs.LetteredEntries.{same_content as letters_change_no_content}
pub use Rattle.tor_v1.proofs.LetteredEntries.{same_padding as padding_without_letters}
pub use Rattle.tor_v1.proofs.LetteredEntries.{same_pieces as letters_change_no_pieces}
pub use Rattle.tor_v1.proofs.LetteredEntries.{same_size as letters_change_no_size}
pub use Rattle.tor_v1.proofs.Padded.{no_padding, whole_with_padding}

-- ---- the sums of pieces

pub sums_of_joined : (piece_length count : ℕ) (whole rest : List ℕ) → 0 < piece_length
    → length whole ≡ count * piece_length
    → piece_sums piece_length (whole ++ rest) ≡ piece_sums piece_length whole ++ piece_sums piece_length rest
sums_of_joined piece_length count whole rest pos long = sums-append piece_length pos count whole rest long

length-sha1 : (m : List ℕ) → length (sha1 m) ≡ 20
unfolding sha1 digest_bytes
length-sha1 m = refl

length-sums : (pieces : List (List ℕ)) → length (flat_map sha1 pieces) ≡ 20 * length pieces
length-sums [] = omega arith
length-sums (piece ∷ pieces) =
    length-append (sha1 piece) (flat_map sha1 pieces) ∙ omega (arith, length-sha1 piece, length-sums pieces)

pub length-piece_sums : (piece_length : ℕ) (content : List ℕ)
    → length (piece_sums piece_length content) ≡ 20 * div_ceil (length content) piece_length
unfolding piece_sums pieces_of
length-piece_sums piece_length content =
    length-sums (pieces_of piece_length content)
    ∙ ap (λ n. 20 * n)
    (length-map-range_with_len (slice_chunk content piece_length) 0 (div_ceil (length content) piece_length))

-- ---- the entries of files

pub length_of_zeros : (count : ℕ) → length (zeros count) ≡ count
length_of_zeros count = length-zeros count

pub files_with_bytes : (files : List (List (List ℕ) × ℕ))
    → has_bytes files ≡ ltb 0 (count_by (λ file. ltb 0 file.1) files)
files_with_bytes files = has_bytes-count files

abbrev facts : Entry → List (List ℕ) × ℕ
facts entry = (entry.path, entry.length)

no_more_files : (b : Bool) (n : ℕ) (entries : List Entry)
    → file_entries (cond b (pad_entry n ∷ []) [] ++ entries) ≡ file_entries entries
no_more_files true n entries = refl
no_more_files false n entries = refl

joined_files : (files : List (List (List ℕ) × ℕ)) → map facts (file_entries (map file_entry files)) ≡ files
joined_files [] = refl
joined_files (file ∷ files) = ap (λ xs. file ∷ xs) (joined_files files)

aligned_files : (tail : Bool) (piece_length : ℕ) (files : List (List (List ℕ) × ℕ))
    → map facts (file_entries (aligned_entries tail piece_length files)) ≡ files
unfolding aligned_entries
aligned_files tail piece_length [] = refl
aligned_files tail piece_length (file ∷ files) =
    ap (λ xs. file ∷ map facts xs) (no_more_files _ _ (aligned_entries tail piece_length files))
    ∙ ap (λ xs. file ∷ xs) (aligned_files tail piece_length files)

pub facts-v1_entries : (layout : Layout) (piece_length : ℕ) (files : List (List (List ℕ) × ℕ))
    → map facts (file_entries (v1_entries layout piece_length files)) ≡ files
facts-v1_entries Joined piece_length files = joined_files files
facts-v1_entries Aligned piece_length files = aligned_files false piece_length files
facts-v1_entries AlignedTail piece_length files = aligned_files true piece_length files

-- ---- the content of entries

abbrev entry_length : Entry → ℕ
entry_length entry = entry.length

-- the first entry is of n bytes: its zeros, or the first content
one_more : (pad : Bool) (n : ℕ) (entry : Entry) (entries : List Entry) (contents : List (List ℕ)) → entry.length ≡ n
    → ((contents : List (List ℕ)) → AreContentsOf entries contents
    → length (joined_content entries contents) ≡ sum_by entry_length entries)
    → map length contents ≡ map entry_length (cond (not pad) (entry ∷ file_entries entries) (file_entries entries))
    → length (cond pad (zeros n ++ joined_content entries contents)
    (slice_index_or contents 0 [] ++ joined_content entries (drop 1 contents)))
    ≡ n + sum_by entry_length entries
one_more true n entry entries contents long others fit =
    length-append (zeros n) (joined_content entries contents)
    ∙ ap₂ (λ a b. a + b) (length-zeros n) (others contents fit)
one_more false n entry entries [] long others fit = cc
one_more false n entry entries (content ∷ contents) long others fit =
    let first : length content ≡ entry.length = cc in
    let rest : map length contents ≡ map entry_length (file_entries entries) = cc in
    length-append content (joined_content entries contents) ∙ ap₂ (λ a b. a + b) (first ∙ long) (others contents rest)

pub length-joined_content : (entries : List Entry) (contents : List (List ℕ)) → AreContentsOf entries contents
    → length (joined_content entries contents) ≡ sum_by entry_length entries
unfolding joined_content
length-joined_content [] contents fit = refl
length-joined_content (entry ∷ entries) contents fit =
    one_more entry.pad entry.length entry entries contents refl (length-joined_content entries) fit
    ∙ sym (sum_by-cons entry_length entry entries)

-- ---- letters

pub letters_change_no_path : (attrs : List Attr) (entries : List Entry)
    → map (λ (entry : Entry). entry.path) (with_letters attrs entries) ≡ map (λ (entry : Entry). entry.path) entries
letters_change_no_path attrs entries = kept (λ entry. entry.path) (λ attr entry. refl) attrs entries

pub letters_change_no_length : (attrs : List Attr) (entries : List Entry)
    → map (λ (entry : Entry). entry.length) (with_letters attrs entries) ≡ map (λ (entry : Entry). entry.length) entries
letters_change_no_length attrs entries = kept (λ entry. entry.length) (λ attr entry. refl) attrs entries

pub letters_change_no_pad : (attrs : List Attr) (entries : List Entry)
    → map (λ (entry : Entry). entry.pad) (with_letters attrs entries) ≡ map (λ (entry : Entry). entry.pad) entries
letters_change_no_pad attrs entries = kept (λ entry. entry.pad) (λ attr entry. refl) attrs entries
