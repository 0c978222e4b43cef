-- What all bytes of entries are, and the units that are cut of them.
use Rattle.tor_plan.proofs.Names.{separate_entry_units, ◌≡◌, ◌≢◌, ℕ, ◌+◌, ◌*◌, ◌<◌, false, List, [], ◌∷◌, ◌++◌, length}
use Rattle.tor_plan.proofs.Names.{map, drop, get_or, take, arith, refl, ap, ap₂, ◌∙◌, sym, append-nil, inl, inr, subst}
use Rattle.tor_plan.proofs.Names.{lt-ltb, or_parts, nil_from_length, take_all, flat_map-map, All-nil, All-cons}
use Rattle.tor_plan.proofs.Names.{All-append, All-head, All-tail, div_ceil, All, flat_map, Kind, V1, V2, Hybrid}
use Rattle.tor_plan.proofs.Names.{joined_content, zeros, Entry, part_content, unit_content, entry_units}
use Rattle.tor_plan.proofs.Names.{lengths_of_entries, padding_before_next, has_padding, ArePadded, IsLaidOut}
use Rattle.tor_plan.proofs.Names.{pieces_of_unit, file_unit, units_of_file, IsInFile, IsFileUnit, Part, PlanUnit}
use Rattle.tor_plan.proofs.Names.{part_alone, separate_pieces, whole_from, whole_unit, below_from_ceil}
use Rattle.tor_plan.proofs.Contents.{after, after_lengths, from_index, here}
use Rattle.tor_plan.proofs.EntrySteps.{Label, file, before_empty, before_some, tail_fits, unpadded, Fills}
use Rattle.tor_plan.proofs.Empty.{zeros-nil}
use Rattle.tor_plan.proofs.FileUnits.{file_pieces}
use Rattle.tor_plan.proofs.Runs.{flat_map-same}
use Rattle.tor_plan.proofs.UnitContent.{part_first, zeros_first}
use Rattle.tor_plan.proofs.WholeUnits.{by_whole, parts_of_whole, pieces_of_whole, separate_parts}
use Rattle.tor_plan.proofs.WithinFiles.{all_range, lengths_from, whole_of_file}

-- ---- where its parts are, and its bytes

pub in_files : (lengths : List ℕ) (index : ℕ) (entries : List Entry) → drop index lengths ≡ lengths_of_entries entries
    → All (IsInFile lengths) (whole_from index entries).parts
in_files lengths = by_whole
    (λ index entries unit. drop index lengths ≡ lengths_of_entries entries → All (IsInFile lengths) unit.parts)
    (λ index e. All-nil (IsInFile lengths)) (λ index label m entries unit rest e. rest e)
    (λ index label m entries unit some rest e.
    let from = lengths_from lengths index m (lengths_of_entries entries) e in
    All-cons (IsInFile lengths) _ unit.parts
    (record { named = from.named; some = some; within = omega (arith, from.here) }) (rest from.after))
    (λ index label m entries unit few rest e. rest (lengths_from lengths index m (lengths_of_entries entries) e).after)

pub content_of_whole : (contents : List (List ℕ)) (index : ℕ) (entries : List Entry)
    → map length (drop index contents) ≡ lengths_of_entries entries
    → unit_content contents (whole_from index entries) ≡ joined_content entries (drop index contents)
unfolding joined_content
content_of_whole contents = by_whole
    (λ index entries unit. map length (drop index contents) ≡ lengths_of_entries entries
    → unit_content contents unit ≡ joined_content entries (drop index contents))
    (λ index fit. ap (λ xs. xs ++ []) zeros-nil)
    (λ index label m entries unit rest fit. zeros_first contents m unit ∙ ap (λ xs. zeros m ++ xs) (rest fit))
    (λ index label m entries unit some rest fit.
    let from = from_index contents index m (lengths_of_entries entries) fit in
    part_first contents index 0 m unit ∙ ap₂ (λ xs ys. xs ++ ys)
    (ap (λ xs. take m xs) (here contents index m (lengths_of_entries entries) from)
    ∙ take_all m from.first (omega (arith, from.long)))
    (rest (after_lengths contents index m (lengths_of_entries entries) from)
    ∙ ap (joined_content entries) (after contents index m (lengths_of_entries entries) from))
    ∙ sym (ap (λ xs. get_or xs 0 [] ++ joined_content entries (drop 1 xs)) from.split))
    (λ index label m entries unit few rest fit.
    let from = from_index contents index m (lengths_of_entries entries) fit in
    rest (after_lengths contents index m (lengths_of_entries entries) from)
    ∙ ap (joined_content entries) (after contents index m (lengths_of_entries entries) from)
    ∙ ap (λ xs. xs ++ joined_content entries from.later)
    (sym (nil_from_length from.first (omega (arith, from.long, few))))
    ∙ sym (ap (λ xs. get_or xs 0 [] ++ joined_content entries (drop 1 xs)) from.split))

-- each unit but the last of a file is whole
pub separate_whole : (lengths : List ℕ) (size : ℕ) → 0 < size → (index : ℕ) (entries : List Entry)
    → drop index lengths ≡ lengths_of_entries entries
    → All (IsFileUnit lengths size) (separate_parts size (whole_from index entries).parts)
separate_whole lengths size pos = by_whole
    (λ index entries unit. drop index lengths ≡ lengths_of_entries entries
    → All (IsFileUnit lengths size) (separate_parts size unit.parts))
    (λ index e. All-nil (IsFileUnit lengths size)) (λ index label m entries unit rest e. rest e)
    (λ index label m entries unit some rest e.
    let from = lengths_from lengths index m (lengths_of_entries entries) e in
    All-append (IsFileUnit lengths size) (units_of_file size index m unit.zeros) (separate_parts size unit.parts)
    (all_range (IsFileUnit lengths size) (file_unit size index m unit.zeros) (div_ceil m size)
    (λ k lt. whole_of_file lengths size index m unit.zeros k (lengths_of_entries entries) from
    (below_from_ceil m size k pos lt))) (rest from.after))
    (λ index label m entries unit few rest e. rest (lengths_from lengths index m (lengths_of_entries entries) e).after)

-- ---- files with their padding

-- all of a file, and after it no padding or what it lacks to a whole piece
pub record IsWholeFile (p : ℕ) (part : Part) : Type 0 where
  pub first : part.start ≡ 0
  pub some : 0 < part.length
  pub fills : Fills p part.length part.zeros

-- given what the entries from a file on keep to
module _ (p : ℕ) (H : List Entry → Type 0)
    (next : (entry : Entry) (entries : List Entry) → H (entry ∷ entries) → H entries)
    (each : (label : Label) (m : ℕ) (entries : List Entry) → H (file label m ∷ entries) → 0 < m
    → Fills p m (padding_before_next entries)) where
  abbrev AreFiles : ℕ → List Entry → PlanUnit → Type 0
  AreFiles index entries unit =
      (unit.zeros ≡ padding_before_next entries) × (H entries → All (IsWholeFile p) unit.parts)

  files_by : (index : ℕ) (entries : List Entry) → AreFiles index entries (whole_from index entries)
  unfolding padding_before_next
  files_by = by_whole AreFiles (λ index. (refl, λ held. All-nil (IsWholeFile p)))
      (λ index label m entries unit rest. (ap (λ n. m + n) rest.0, λ held. rest.1 (next _ entries held)))
      (λ index label m entries unit some rest. (
        sym (before_some label m entries some),
        λ held. All-cons (IsWholeFile p) _ unit.parts
            (record {
              first = refl;
              some = some;
              fills = subst (Fills p m) (sym rest.0) (each label m entries held some);
            }) (rest.1 (next _ entries held)),
      )) (λ index label m entries unit few rest. (
        rest.0 ∙ sym (before_empty label m entries (omega (arith, few))),
        λ held. rest.1 (next _ entries held),
      ))

pub whole_files : (kind : Kind) (p : ℕ) (entries : List Entry) → kind ≢ V1 → IsLaidOut kind p entries
    → All (IsWholeFile p) (whole_unit entries).parts
unfolding IsLaidOut ArePadded
whole_files V1 p entries not_v1 laid = absurd (not_v1 refl)
whole_files V2 p entries not_v1 laid =
    (files_by p (λ es. has_padding es ≡ false) (λ entry es none. (or_parts entry.pad (has_padding es) none).1)
    (λ label m es none there. inl (unpadded es none)) 0 entries).1 laid
whole_files Hybrid p entries not_v1 laid =
    (files_by p (ArePadded p) (λ entry es padded. padded.1)
    (λ label m es padded there. elim (padded.0 (lt-ltb 0 m there)) [
      | inl full ↦ inr full
      | inr last ↦ inl last.1
    ]) 0 entries).1 laid.1

-- ---- what is cut: all of it in version 1, else each file by itself

abbrev pub roots : Kind → PlanUnit → List PlanUnit
roots V1 whole = whole ∷ []
roots kind whole = map part_alone whole.parts

file_roots : (p span : ℕ) → 0 < p → 0 < span * p → (parts : List Part) → All (IsWholeFile p) parts
    → separate_parts (span * p) parts ≡ separate_pieces (span * p) parts
file_roots p span some pos [] files = refl
file_roots p span some pos (part ∷ parts) files =
    let is = All-head (IsWholeFile p) part parts files in
    ap₂ (λ xs ys. xs ++ ys) (sym (ap (λ s. pieces_of_unit (span * p)
    (part_alone (record { file = part.file; start = s; length = part.length; zeros = part.zeros }))) is.first
    ∙ file_pieces (span * p) pos part.file part.length part.zeros
    (tail_fits p span part.length part.zeros some is.fills) is.some))
    (file_roots p span some pos parts (All-tail (IsWholeFile p) part parts files))

pub files_are_pieces : (kind : Kind) (p span : ℕ) (entries : List Entry) → kind ≢ V1 → 0 < p → 0 < span * p
    → IsLaidOut kind p entries
    → separate_entry_units (span * p) 0 entries ≡ separate_pieces (span * p) (whole_unit entries).parts
files_are_pieces kind p span entries not_v1 some pos laid =
    sym (parts_of_whole (span * p) entries pos)
    ∙ file_roots p span some pos (whole_unit entries).parts (whole_files kind p entries not_v1 laid)

pub units_are_pieces : (kind : Kind) (p span : ℕ) (entries : List Entry) → 0 < p → 0 < span * p
    → IsLaidOut kind p entries
    → entry_units kind p span entries ≡ flat_map (pieces_of_unit (span * p)) (roots kind (whole_unit entries))
units_are_pieces V1 p span entries some pos laid =
    sym (append-nil (pieces_of_unit (span * p) (whole_unit entries)) ∙ pieces_of_whole (span * p) entries)
units_are_pieces kind p span entries some pos laid =
    files_are_pieces kind p span entries (λ e. cc) some pos laid
    ∙ sym (flat_map-map (pieces_of_unit (span * p)) part_alone (whole_unit entries).parts)

parts_alone : (P : Part → Type 0) (parts : List Part) → All P parts
    → All (λ (u : PlanUnit). All P u.parts) (map part_alone parts)
parts_alone P [] held = All-nil (λ (u : PlanUnit). All P u.parts)
parts_alone P (part ∷ parts) held =
    All-cons (λ (u : PlanUnit). All P u.parts) (part_alone part) (map part_alone parts)
    (All-cons P part [] (All-head P part parts held) (All-nil P)) (parts_alone P parts (All-tail P part parts held))

pub roots_in : (kind : Kind) (P : Part → Type 0) (whole : PlanUnit) → All P whole.parts
    → All (λ (u : PlanUnit). All P u.parts) (roots kind whole)
roots_in V1 P whole held =
    All-cons (λ (u : PlanUnit). All P u.parts) whole [] held (All-nil (λ (u : PlanUnit). All P u.parts))
roots_in kind P whole held = parts_alone P whole.parts held

-- ---- their content

content_alone : (contents : List (List ℕ)) (part : Part)
    → unit_content contents (part_alone part) ≡ part_content contents part
content_alone contents part =
    ap (λ xs. xs ++ (part_content contents part ++ [])) zeros-nil ∙ append-nil (part_content contents part)

content_of_files : (contents : List (List ℕ)) (whole : PlanUnit) → whole.zeros ≡ 0
    → flat_map (unit_content contents) (map part_alone whole.parts) ≡ unit_content contents whole
content_of_files contents whole none =
    let others = flat_map (part_content contents) whole.parts in
    flat_map-map (unit_content contents) part_alone whole.parts
    ∙ flat_map-same (λ part. unit_content contents (part_alone part)) (part_content contents) (content_alone contents)
    whole.parts ∙ sym (ap (λ n. zeros n ++ others) none ∙ ap (λ xs. xs ++ others) zeros-nil)

-- with trees no padding comes before the first file with bytes
pub no_zeros_first : (kind : Kind) (p : ℕ) (entries : List Entry) → kind ≢ V1 → IsLaidOut kind p entries
    → padding_before_next entries ≡ 0
unfolding IsLaidOut
no_zeros_first V1 p entries not_v1 laid = absurd (not_v1 refl)
no_zeros_first V2 p entries not_v1 laid = unpadded entries laid
no_zeros_first Hybrid p entries not_v1 laid = laid.0

pub content_of_roots : (kind : Kind) (contents : List (List ℕ)) (whole : PlanUnit) → (kind ≢ V1 → whole.zeros ≡ 0)
    → flat_map (unit_content contents) (roots kind whole) ≡ unit_content contents whole
content_of_roots V1 contents whole none = append-nil (unit_content contents whole)
content_of_roots kind contents whole none = content_of_files contents whole (none (λ e. cc))
