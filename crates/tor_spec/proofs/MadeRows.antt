-- The premise of the law on made torrents holds of worked settings and files.
use Rattle.tor_spec.proofs.Names.{◌≡◌, ℕ, ◌<◌, ◌≤◌, Bool, true, false, List, [], ◌∷◌, length, None, refl, codes, arith}
use Rattle.tor_spec.proofs.Names.{AllByRecursion, Contains, IsStrictlySortedBy, is_utf8, chars, All-contains}
use Rattle.tor_spec.proofs.Names.{All-from_recursion, encode, ones, File, AreMade, sizes_of, Settings, name_fault}
use Rattle.tor_spec.proofs.Names.{IsFilePath, Kind, no_letters}

-- the torrent named a, of pieces of 16,384 bytes
abbrev settings_of : Kind → Bool → Settings
settings_of kind single = record {
  kind = kind;
  single = single;
  name = codes "a";
  piece_length = 16384;
  announce = None;
  is_private = false;
  tail = true;
}

-- the one file a; a file in a folder, and a file after it
abbrev one_file : List File
one_file = record { path = codes "a" ∷ []; content = codes "abc"; attr = no_letters } ∷ []

abbrev two_files : List File
two_files =
    record { path = codes "b" ∷ codes "c" ∷ []; content = codes "abc"; attr = no_letters } ∷
    record { path = codes "d" ∷ []; content = []; attr = record { exec = true; hidden = true } } ∷ []

some_names : (names : List (List ℕ)) (name : List ℕ) → AllByRecursion (λ n. name_fault n ≡ None) (name ∷ names)
    → IsFilePath (name ∷ names)
some_names names name faultless = record { some = λ e. cc; named = All-from_recursion _ (name ∷ names) faultless }

-- no file is longer than a piece
all_short : (files : List File) → AllByRecursion (λ file. length file.content ≤ 16384) files → (file : File)
    → Contains files file → 16384 < length file.content → ⊥
all_short files short file in_files long =
    let small : length file.content ≤ 16384 =
    All-contains (λ (f : File). length f.content ≤ 16384) files file (All-from_recursion _ files short) in_files in
    omega (arith, small, long)

one_made : (kind : Kind) → AreMade (settings_of kind true) one_file
unfolding is_utf8 chars encode ones IsStrictlySortedBy
one_made kind = record {
  piece_length = refl;
  name = refl;
  list = record {
    faultless = refl;
    in_order = (tt, tt);
    named = All-from_recursion (λ (file : List (List ℕ) × ℕ). IsFilePath file.0) (sizes_of one_file)
        (some_names [] (codes "a") (refl, tt), tt);
  };
  short = All-from_recursion (λ (file : File). length file.path ≤ 64) one_file (omega arith, tt);
  single = λ e. refl;
  layers = λ one other in_one in_other long more same. absurd (all_short one_file (omega arith, tt) one in_one long);
}

two_made : (kind : Kind) → AreMade (settings_of kind false) two_files
unfolding is_utf8 chars encode ones IsStrictlySortedBy
two_made kind = record {
  piece_length = refl;
  name = refl;
  list = record {
    faultless = refl;
    in_order = ((refl, tt), (tt, tt));
    named = All-from_recursion (λ (file : List (List ℕ) × ℕ). IsFilePath file.0) (sizes_of two_files)
        (some_names (codes "c" ∷ []) (codes "b") (refl, (refl, tt)), (some_names [] (codes "d") (refl, tt), tt));
  };
  short = All-from_recursion (λ (file : File). length file.path ≤ 64) two_files (omega arith, (omega arith, tt));
  single = λ e. cc;
  layers = λ one other in_one in_other long more same.
      absurd (all_short two_files (omega arith, (omega arith, tt)) one in_one long);
}
