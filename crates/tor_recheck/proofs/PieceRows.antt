-- What a recheck finds is the same by runs and by units: some torrents and contents.
use Rattle.tor_recheck.proofs.Names.{◌≡◌, ℕ, Bool, true, false, List, [], ◌∷◌, map, refl, replicate, None}
use Rattle.tor_recheck.proofs.Names.{joined_entry_units, padding_before_next, separate_entry_units, unit_within}
use Rattle.tor_recheck.proofs.Names.{count_of_pieces, pieces_of, right_pieces, verified_pieces, FileView, View, Kind}
use Rattle.tor_recheck.proofs.Names.{V1, V2, Hybrid, zeros, Entry}

abbrev file : ℕ → Entry
file m = record { path = []; length = m; pad = false; exec = false; hidden = false }

abbrev pad : ℕ → Entry
pad m = record { path = []; length = m; pad = true; exec = false; hidden = false }

abbrev told : ℕ → List (List ℕ) → FileView
told m layer = record {
  file = record { path = []; length = m; root = None; has_attr = false; exec = false; hidden = false };
  layer = layer;
}

-- a torrent of pieces of four bytes
abbrev torrent : Kind → List FileView → List Entry → ℕ → View
torrent kind files entries count = record {
  kind = kind;
  name = [];
  piece_length = 4;
  is_private = false;
  files = files;
  entries = entries;
  pieces = replicate 40 7;
  info_span = (0, 0);
  piece_count = count;
}

-- of files of two and of five bytes: contents that are there, longer, short, missing, and too many
abbrev found : List (List (List ℕ))
found =
    ((1 ∷ 2 ∷ []) ∷ (3 ∷ 4 ∷ 5 ∷ 6 ∷ 7 ∷ []) ∷ []) ∷ ((1 ∷ 2 ∷ 9 ∷ []) ∷ (3 ∷ 4 ∷ 5 ∷ 6 ∷ 7 ∷ 9 ∷ []) ∷ (9 ∷ []) ∷ []) ∷
    ((1 ∷ []) ∷ (3 ∷ 4 ∷ 5 ∷ 6 ∷ 7 ∷ []) ∷ []) ∷ ((1 ∷ 2 ∷ []) ∷ (3 ∷ 4 ∷ []) ∷ []) ∷ ((1 ∷ 2 ∷ []) ∷ []) ∷
    ([] ∷ (3 ∷ 4 ∷ 5 ∷ 6 ∷ []) ∷ []) ∷ [] ∷ []

abbrev by_runs : View → List (List Bool)
by_runs view = map (verified_pieces view) found

abbrev by_units : View → List (List Bool)
by_units view = map (λ contents. right_pieces view contents 0 (pieces_of view)) found

-- ---- BEP 3, with padding first

abbrev listed : View
listed = torrent V1 (told 2 [] ∷ told 5 [] ∷ []) (pad 3 ∷ file 2 ∷ pad 6 ∷ file 5 ∷ []) 4

pub listed_count : count_of_pieces listed ≡ 4
listed_count = refl

listed_pieces : by_runs listed ≡ by_units listed
unfolding joined_entry_units unit_within right_pieces zeros
listed_pieces = refl

-- ---- BEP 52

abbrev treed : View
treed = torrent V2 (told 2 [] ∷ told 0 [] ∷ told 5 ((1 ∷ []) ∷ (2 ∷ []) ∷ []) ∷ []) [] 3

treed_count : count_of_pieces treed ≡ 3
treed_count = refl

treed_pieces : by_runs treed ≡ by_units treed
unfolding separate_entry_units padding_before_next right_pieces zeros
treed_pieces = refl

-- ---- both; the last padding may be there or not

abbrev both : List Entry → View
both last = torrent Hybrid (told 2 [] ∷ told 5 ((1 ∷ []) ∷ (2 ∷ []) ∷ []) ∷ []) (file 2 ∷ pad 2 ∷ file 5 ∷ last) 3

both_pieces : by_runs (both []) ≡ by_units (both [])
unfolding separate_entry_units padding_before_next right_pieces zeros
both_pieces = refl

padded_pieces : by_runs (both (pad 3 ∷ [])) ≡ by_units (both (pad 3 ∷ []))
unfolding separate_entry_units padding_before_next right_pieces zeros
padded_pieces = refl
