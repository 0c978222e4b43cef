-- The pieces of a made torrent are 20 bytes for each piece of its joined files.
use Rattle.tor_spec.proofs.Names.{◌≡◌, ℕ, ◌*◌, List, [], ◌∷◌, map, length, refl, ap, ◌∙◌, sym, div_ceil, File, sizes_of}
use Rattle.tor_spec.proofs.Names.{pieces_of_files, Settings, layout_of, facts-v1_entries, length-joined_content}
use Rattle.tor_spec.proofs.Names.{length-piece_sums, AreContentsOf, file_entries, joined_content, v1_pieces, v1_entries}
use Rattle.tor_spec.proofs.Names.{Entry, Layout, attrs_of, letters_keep_files}
use Rattle.tor_spec.proofs.MadeListEntries.{made_entries}
use Rattle.tor_spec.proofs.MadeListSide.{listed_sizes}
use Rattle.tor_spec.proofs.MadeListSizes.{size_of_entries}

abbrev pub contents_of : List File → List (List ℕ)
contents_of files = map (λ file. file.content) files

lengths_of_contents : (files : List File)
    → map length (contents_of files) ≡ map (λ (size : List (List ℕ) × ℕ). size.1) (sizes_of files)
lengths_of_contents [] = refl
lengths_of_contents (file ∷ files) = ap (λ sizes. length file.content ∷ sizes) (lengths_of_contents files)

lengths_of_entries : (entries : List Entry)
    → map (λ (size : List (List ℕ) × ℕ). size.1) (map (λ (entry : Entry). (entry.path, entry.length)) entries)
    ≡ map (λ (entry : Entry). entry.length) entries
lengths_of_entries [] = refl
lengths_of_entries (entry ∷ entries) = ap (λ sizes. entry.length ∷ sizes) (lengths_of_entries entries)

pub contents_fit : (layout : Layout) (p : ℕ) (files : List File)
    → AreContentsOf (v1_entries layout p (sizes_of files)) (contents_of files)
contents_fit layout p files =
    lengths_of_contents files
    ∙ ap (map (λ (size : List (List ℕ) × ℕ). size.1)) (sym (facts-v1_entries layout p (sizes_of files)))
    ∙ lengths_of_entries (file_entries (v1_entries layout p (sizes_of files)))

-- so they do to entries with letters
pub made_contents_fit : (layout : Layout) (p : ℕ) (files : List File)
    → AreContentsOf (made_entries layout p files) (contents_of files)
made_contents_fit layout p files =
    contents_fit layout p files
    ∙ sym (letters_keep_files (λ (entry : Entry). entry.length) (λ attr entry. refl) (attrs_of files)
    (v1_entries layout p (sizes_of files)))

length_of_pieces : (p : ℕ) (entries : List Entry) (contents : List (List ℕ)) → AreContentsOf entries contents
    → length (v1_pieces p entries contents) ≡ 20 * div_ceil (size_of_entries entries) p
unfolding v1_pieces
length_of_pieces p entries contents fit =
    length-piece_sums p (joined_content entries contents)
    ∙ ap (λ n. 20 * div_ceil n p) (length-joined_content entries contents fit)

pub made_pieces : (settings : Settings) (files : List File)
    → length (pieces_of_files settings files)
    ≡ 20 * div_ceil (size_of_entries (v1_entries (layout_of settings) settings.piece_length (sizes_of files)))
    settings.piece_length
made_pieces settings files =
    let p = settings.piece_length in
    ap (λ sizes. length (v1_pieces p (v1_entries (layout_of settings) p sizes) (contents_of files)))
    (listed_sizes p files)
    ∙ length_of_pieces p (v1_entries (layout_of settings) p (sizes_of files)) (contents_of files)
    (contents_fit (layout_of settings) p files)
