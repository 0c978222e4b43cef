-- The contents of which a torrent was made verify every piece of it.
use Rattle.tor_spec.proofs.Names.{◌≡◌, ℕ, ◌<◌, Bool, true, false, not, ◌||◌, List, [], length, map, replicate, arith}
use Rattle.tor_spec.proofs.Names.{refl, ap, ap₂, ◌∙◌, sym, and_from, cond-true, length-replicate, All-replicate}
use Rattle.tor_spec.proofs.Names.{fill_by_all, range_with_len, slice_index_or, piece_length_bounds, File, AreMade}
use Rattle.tor_spec.proofs.Names.{IsViewOfMade, sizes_of, facts_of_files, pieces_of_files, root_dictionary, Settings}
use Rattle.tor_spec.proofs.Names.{layout_of, is_sha1_piece, is_verified, merkle_pieces, verified_pieces, View, view_of}
use Rattle.tor_spec.proofs.Names.{has_v1, has_v2, v1_pieces, v1_entries, Entry}
use Rattle.tor_spec.proofs.Names.{attrs_of, letters_change_no_pieces}
use Rattle.tor_spec.proofs.MadeListEntries.{made_entries}
use Rattle.tor_spec.proofs.MadeListPieces.{contents_of, made_contents_fit}
use Rattle.tor_spec.proofs.MadeListSide.{listed_sizes, viewed}
use Rattle.tor_spec.proofs.MadeTorrents.{made_torrents_are_told}
use Rattle.tor_spec.proofs.OwnRoots.{count_shown}
use Rattle.tor_spec.proofs.OwnMerkle.{own_merkle_pieces, told_file, own_sha1_piece}

where_it_is : (b c : Bool) → (b ≡ true → c ≡ true) → (not b || c) ≡ true
where_it_is true c so = so refl
where_it_is false c so = refl

only_true : (f : ℕ → Bool) (n : ℕ) → ((i : ℕ) → i < n → f i ≡ true) → map f (range_with_len 0 n) ≡ replicate n true
only_true f n each =
    sym (fill_by_all f (replicate n true) n true (length-replicate n true) (λ i lt.
    All-replicate (λ bit. bit ≡ true) n true refl i true (omega (arith, lt, length-replicate n true))
    ∙ sym (each i lt)))

module _ (settings : Settings) (files : List File) (made : AreMade settings files) (view : View)
    (told : IsViewOfMade settings files view) where
  abbrev p : ℕ
  p = settings.piece_length

  abbrev contents : List (List ℕ)
  contents = contents_of files

  abbrev entries : List Entry
  entries = made_entries (layout_of settings) p files

  -- where there is a v1 side
  own_sha1 : has_v1 view.kind ≡ true → (i : ℕ) → is_sha1_piece view contents i ≡ true
  own_sha1 one i =
      let side : has_v1 settings.kind ≡ true = ap has_v1 (sym told.kind) ∙ one in
      let listed : view.entries ≡ entries = told.entries ∙ cond-true (has_v1 settings.kind) entries [] side in
      let sums : view.pieces ≡ v1_pieces p entries contents =
      told.pieces ∙ cond-true (has_v1 settings.kind) (pieces_of_files settings files) [] side
      ∙ ap (λ sizes. v1_pieces p (v1_entries (layout_of settings) p sizes) contents) (listed_sizes p files)
      ∙ sym
      (letters_change_no_pieces p (attrs_of files) (v1_entries (layout_of settings) p (sizes_of files)) contents) in
      let bounds = (piece_length_bounds p).0 made.piece_length in
      own_sha1_piece view contents (omega (arith, told.piece_length, bounds.1))
      (rw listed (made_contents_fit (layout_of settings) p files))
      (sums ∙ ap₂ (λ n some. v1_pieces n some contents) (sym told.piece_length) (sym listed)) i

  -- where there is a v2 side
  own_merkle : has_v2 view.kind ≡ true
      → length (merkle_pieces view.piece_length view.files contents) ≡ view.piece_count
      → (i : ℕ) → i < view.piece_count
      → slice_index_or (merkle_pieces view.piece_length view.files contents) i false ≡ true
  own_merkle two count i lt =
      let side : has_v2 settings.kind ≡ true = ap has_v2 (sym told.kind) ∙ two in
      let shown : view.files ≡ map (told_file p) files =
      told.files ∙ ap (λ v2. map (viewed v2 p) files) side in
      let same : merkle_pieces view.piece_length view.files contents
      ≡ merkle_pieces p (map (told_file p) files) contents =
      ap₂ (λ n some. merkle_pieces n some contents) told.piece_length shown in
      ap (λ bits. slice_index_or bits i false) same
      ∙ own_merkle_pieces p made.piece_length files i false (omega (arith, lt, count, ap length same))

  own_pieces : (has_v2 view.kind ≡ true
      → length (merkle_pieces view.piece_length view.files contents) ≡ view.piece_count)
      → verified_pieces view contents ≡ replicate view.piece_count true
  own_pieces count =
      only_true (is_verified view contents) view.piece_count (λ i lt.
      and_from _ _
      (where_it_is (has_v1 view.kind) (is_sha1_piece view contents i) (λ one. own_sha1 one i))
      (where_it_is (has_v2 view.kind) _ (λ two. own_merkle two (count two) i lt)))

pub own_contents_verify_every_piece : (settings : Settings) (files : List File) → AreMade settings files
    → let view = view_of
    (root_dictionary settings (facts_of_files settings.piece_length files) (pieces_of_files settings files)) in
    verified_pieces view (map (λ file. file.content) files) ≡ replicate view.piece_count true
own_contents_verify_every_piece settings files made =
    let root = root_dictionary settings (facts_of_files settings.piece_length files) (pieces_of_files settings files) in
    own_pieces settings files made (view_of root) (made_torrents_are_told settings files made)
    (count_shown root (contents_of files))
