-- One piece: what each side of a torrent says of it is the same by runs and by units.
use Rattle.tor_view.proofs.Names.{◌≡◌, ℕ, ◌*◌, ◌<◌, Bool, true, false, not, ◌&&◌, ◌||◌, List, [], ◌∷◌, length, map}
use Rattle.tor_view.proofs.Names.{get_or, arith, cond, refl, ap, ap₂, ◌∙◌, sym, subst, false≢true}
use Rattle.tor_view.proofs.Names.{get_or-map-range_with_len, length-map-range_with_len, div_ceil, bytes_eq, run_at}
use Rattle.tor_view.proofs.Names.{unit_content, entries_length, entry_units, joined_entry_unit, joined_entry_units}
use Rattle.tor_view.proofs.Names.{lengths_of_entries, separate_entry_units, IsLaidOut, IsPlanPieceLength, PlanUnit}
use Rattle.tor_view.proofs.Names.{is_there, entries_to_cut, has_sha1, IsCut, aligned_pieces_are_joined, bytes_in}
use Rattle.tor_view.proofs.Names.{is_whole, joined_bytes, is_sha1_piece, FileView, View, has_v1, has_v2, Kind, V1}
use Rattle.tor_view.proofs.Names.{V2, Hybrid, piece_sums, file_entry, Entry}
use Rattle.tor_view.proofs.FoundBytes.{HaveBytes, bytes_there, unit_bytes, unit_is_there, whole_unit}
use Rattle.tor_view.proofs.JoinedPieces.{joined_unit_bytes, joined_unit_some}
use Rattle.tor_view.proofs.Judged.{and_same}
use Rattle.tor_view.proofs.MerklePieces.{length_of}

-- no kind has pieces of no byte
pub some_piece : (kind : Kind) (p : ℕ) → IsPlanPieceLength kind p → 0 < p
some_piece V1 p pieces = omega (arith, pieces.0)
some_piece V2 p pieces = omega (arith, pieces.1)
some_piece Hybrid p pieces = omega (arith, pieces.1)

one_piece : (p : ℕ) → 1 * p ≡ p
one_piece p = omega arith

-- files that are cut each by itself
pub cut_each : (kind : Kind) (p : ℕ) (entries : List Entry) → has_v2 kind ≡ true
    → entry_units kind p 1 entries ≡ separate_entry_units p 0 entries
cut_each V1 p entries two = absurd (false≢true two)
cut_each V2 p entries two = ap (λ n. separate_entry_units n 0 entries) (one_piece p)
cut_each Hybrid p entries two = ap (λ n. separate_entry_units n 0 entries) (one_piece p)

-- entries that are joined
pub count_of_joined : (kind : Kind) (p : ℕ) (entries : List Entry) → has_v2 kind ≡ false
    → length (entry_units kind p 1 entries) ≡ div_ceil (entries_length entries) p
unfolding joined_entry_units
count_of_joined V1 p entries one =
    length-map-range_with_len (joined_entry_unit (1 * p) entries) 0 (div_ceil (entries_length entries) (1 * p))
    ∙ ap (div_ceil (entries_length entries)) (one_piece p)
count_of_joined V2 p entries one = cc
count_of_joined Hybrid p entries one = cc

module _ (contents : List (List ℕ)) where
  -- a unit has parts with bytes, and what there is of the run of joined bytes
  abbrev pub IsRun : ℕ → List Entry → ℕ → PlanUnit → Type 0
  IsRun p entries k unit =
      HaveBytes unit.parts × (unit_bytes contents unit ≡ run_at p (joined_bytes entries contents) k)

  joined_run : (p : ℕ) (entries : List Entry) (k : ℕ) (unit : PlanUnit) → k < length (entry_units V1 p 1 entries)
      → IsRun p entries k (get_or (entry_units V1 p 1 entries) k unit)
  unfolding joined_entry_units
  joined_run p entries k unit lt =
      let count = div_ceil (entries_length entries) (1 * p) in
      let there : k < count =
      omega (arith, lt, length-map-range_with_len (joined_entry_unit (1 * p) entries) 0 count) in
      subst (IsRun p entries k)
      (sym (get_or-map-range_with_len (joined_entry_unit (1 * p) entries) 0 count k k unit there (omega arith)
      ∙ ap (λ n. joined_entry_unit n entries k) (one_piece p)))
      (joined_unit_some p entries k, joined_unit_bytes contents p entries k)

  pub unit_is_run : (kind : Kind) (p : ℕ) (entries : List Entry) → has_v1 kind ≡ true → 0 < p
      → IsLaidOut kind p entries → (k : ℕ) (unit : PlanUnit) → k < length (entry_units kind p 1 entries)
      → IsRun p entries k (get_or (entry_units kind p 1 entries) k unit)
  unfolding IsLaidOut
  unit_is_run V1 p entries one pos laid k unit lt = joined_run p entries k unit lt
  unit_is_run V2 p entries one pos laid k unit lt = absurd (false≢true one)
  unit_is_run Hybrid p entries one pos laid k unit lt =
      let same = aligned_pieces_are_joined p entries pos laid in
      subst (λ (units : List PlanUnit). IsRun p entries k (get_or units k unit)) (sym same)
      (joined_run p entries k unit (subst (λ (units : List PlanUnit). k < length units) same lt))

  -- a unit that is a run of the entries' bytes is judged as that run
  pub same_sha1 : (view : View) (k : ℕ) (unit : PlanUnit) → IsRun view.piece_length view.entries k unit
      → (is_there contents unit && has_sha1 view contents k unit) ≡ is_sha1_piece view contents k
  same_sha1 view k unit run =
      and_same _ _ _ _ (sym (whole_unit contents unit run.0) ∙ ap is_whole run.1)
      (λ all.
      let found = run_at view.piece_length (joined_bytes view.entries contents) k in
      let bytes : bytes_in found ≡ unit_content contents unit =
      ap bytes_in (sym run.1 ∙ unit_is_there contents unit all) ∙ bytes_there (unit_content contents unit) in
      ap (λ xs. bytes_eq (piece_sums view.piece_length xs) (run_at 20 view.pieces k)) (sym bytes))

-- ---- the files of both sides

pub lengths_of_told : (files : List FileView)
    → lengths_of_entries (map (λ told. file_entry (told.file.path, told.file.length)) files) ≡ map length_of files
lengths_of_told [] = refl
lengths_of_told (told ∷ files) = ap (λ lengths. length_of told ∷ lengths) (lengths_of_told files)

pub same_lengths : (view : View) → IsCut view → lengths_of_entries (entries_to_cut view) ≡ map length_of view.files
same_lengths view cut = by (has_v1 view.kind) cut.same where
  by : (one : Bool) → (one ≡ true → lengths_of_entries view.entries ≡ map length_of view.files)
      → lengths_of_entries
      (cond one view.entries (map (λ told. file_entry (told.file.path, told.file.length)) view.files))
      ≡ map length_of view.files
  by true same = same refl
  by false same = lengths_of_told view.files

-- ---- both sides

pub other_side : (kind : Kind) → has_v2 kind ≡ false → has_v1 kind ≡ true
other_side V1 none = refl
other_side V2 none = cc
other_side Hybrid none = refl

one_side : (kind : Kind) → has_v1 kind ≡ false → has_v2 kind ≡ true
one_side V1 none = cc
one_side V2 none = refl
one_side Hybrid none = refl

both_sides : (one two a s m x y : Bool) → (one ≡ false → two ≡ true) → (one ≡ true → (a && s) ≡ x)
    → (two ≡ true → (a && m) ≡ y) → ((a && (not one || s)) && (not two || m)) ≡ ((not one || x) && (not two || y))
both_sides true true true s m x y some first second = ap₂ (λ b c. b && c) (first refl) (second refl)
both_sides true true false s m x y some first second = ap₂ (λ b c. b && c) (first refl) (second refl)
both_sides true false a s m x y some first second = ap (λ b. b && true) (first refl)
both_sides false true true s m x y some first second = second refl
both_sides false true false s m x y some first second = second refl
both_sides false false a s m x y some first second = absurd (false≢true (some refl))

pub by_sides : (kind : Kind) (a s m x y : Bool) → (has_v1 kind ≡ true → (a && s) ≡ x)
    → (has_v2 kind ≡ true → (a && m) ≡ y)
    → ((a && (not (has_v1 kind) || s)) && (not (has_v2 kind) || m))
    ≡ ((not (has_v1 kind) || x) && (not (has_v2 kind) || y))
by_sides kind a s m x y = both_sides (has_v1 kind) (has_v2 kind) a s m x y (one_side kind)
