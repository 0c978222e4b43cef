-- Contents of the files of a plan, from what was read of all its units.
use Rattle.std.proofs.Common.{◌≡◌, ◌≤◌, ◌<◌, ◌*◌, ℕ, zero, suc, ◌+◌, List, [], ◌∷◌, ◌++◌, length, map, take, drop}
use Rattle.std.proofs.Common.{get_or}
use Rattle.std.proofs.Common.{sum, refl, ap, ap₂, subst, sym, ◌∙◌, arith, mul-pos}
use Rattle.std.specs.List.{AllByRecursion, flat_map, range_with_len}
use Rattle.std.proofs.Math.Seq.{drop-append_seam, take-append_seam}
use Rattle.std.proofs.lemmas.Grind.{flat_map-append}
use Rattle.std.proofs.lemmas.List.{drop-drop, drop_more, get_or-drop, length-append, length-drop, length-map}
use Rattle.std.proofs.lemmas.List.{length-take-le, map-append, take-append-drop, take_all}
use Rattle.std.proofs.lemmas.List.Elements.{recursion_from_All}
use Rattle.std.proofs.lemmas.List.Folds.{flat_map-map}
use Rattle.std.proofs.lemmas.List.Sums.{sum_by-cons}
use Rattle.std.proofs.lemmas.Simd.{map-map}
use Rattle.tor_plan.specs.PlanFacts.{IsPlan, PlanFacts}
use Rattle.tor_plan.specs.Positions.{positions, positions_of_files, positions_of_part, positions_of_unit}
use Rattle.tor_plan.specs.WithinEntries.{IsInFile}
use Rattle.tor_plan.specs.declared.units.Part.{Part}
use Rattle.tor_plan.specs.declared.units.PlanUnit.{PlanUnit}
use Rattle.tor_source.specs.Source.{SourceFacts}
use Rattle.tor_sums.specs.steps.Reads.{AreReads, HasLengths, HasParts, HaveRead, PartRead}
use Rattle.tor_sums.specs.steps.Run.{IsUnitOf, parts_of}
use Rattle.tor_sums.proofs.FileHashes.{some_piece}
use Rattle.tor_sums.proofs.PartReads.{all_append}
use Rattle.tor_sums.proofs.Parts.{parts_there, size_of}
use Rattle.tor_engine.proofs.Positions.{length_of_positions, length_positions}
use Rattle.tor_sums.proofs.Whole.{units_of_plan}
use Rattle.tor_plan.proofs.ProvedLaws.{entry_units_name_each_byte}

-- ---- bytes cut by lengths

cut : List ℕ → List ℕ → List (List ℕ)
cut [] bytes = []
cut (n ∷ lengths) bytes = take n bytes ∷ cut lengths (drop n bytes)

rest_long : (n : ℕ) (lengths bytes : List ℕ) → length bytes ≡ sum (n ∷ lengths) → length (drop n bytes) ≡ sum lengths
rest_long n lengths bytes long = omega (arith, long, sum_by-cons (λ (m : ℕ). m) n lengths, length-drop n bytes)

first_long : (n : ℕ) (lengths bytes : List ℕ) → length bytes ≡ sum (n ∷ lengths) → length (take n bytes) ≡ n
first_long n lengths bytes long = length-take-le n bytes (omega (arith, long, sum_by-cons (λ (m : ℕ). m) n lengths))

cut_lengths : (lengths bytes : List ℕ) → length bytes ≡ sum lengths → map length (cut lengths bytes) ≡ lengths
unfolding cut
cut_lengths [] bytes long = refl
cut_lengths (n ∷ lengths) bytes long =
    ap₂ (λ m ms. m ∷ ms) (first_long n lengths bytes long)
    (cut_lengths lengths (drop n bytes) (rest_long n lengths bytes long))

-- ---- bytes by their positions

abbrev byte_at : List (List ℕ) → ℕ × ℕ → ℕ
byte_at contents position = get_or (get_or contents position.0 []) position.1 0

by_offsets : (xs : List ℕ) (a n : ℕ) → a + n ≤ length xs
    → map (λ offset. get_or xs offset 0) (range_with_len a n) ≡ take n (drop a xs)
by_offsets xs a zero fits = refl
by_offsets xs a (suc n) fits =
    ap (λ ys. get_or xs a 0 ∷ ys) (by_offsets xs (a + 1) n (omega (arith, fits)))
    ∙ ap (take (suc n)) (sym (drop_more xs a 0 (omega (arith, fits))))

-- the bytes of a run of positions of a file
bytes_there : (contents : List (List ℕ)) (file start count : ℕ) → start + count ≤ length (get_or contents file [])
    → map (byte_at contents) (positions file start count) ≡ take count (drop start (get_or contents file []))
bytes_there contents file start count fits =
    map-map (byte_at contents) (λ offset. (file, offset)) (range_with_len start count)
    ∙ by_offsets (get_or contents file []) start count fits

no_bytes : (bytes : List ℕ) → length bytes ≡ 0 → [] ≡ bytes
no_bytes [] none = refl
no_bytes (byte ∷ bytes) none = absurd (omega (arith, none))

-- what was cut, joined again
cut_bytes : (contents : List (List ℕ)) (file : ℕ) (lengths bytes : List ℕ) → length bytes ≡ sum lengths
    → drop file contents ≡ cut lengths bytes → map (byte_at contents) (positions_of_files file lengths) ≡ bytes
unfolding cut positions_of_files
cut_bytes contents file [] bytes long split = no_bytes bytes long
cut_bytes contents file (n ∷ lengths) bytes long split =
    let next : file ≡ file + 0 = omega arith in
    let here : get_or contents file [] ≡ take n bytes =
    ap (λ k. get_or contents k []) next ∙ sym (get_or-drop file contents 0 []) ∙ ap (λ xs. get_or xs 0 []) split in
    let size = ap length here ∙ first_long n lengths bytes long in
    map-append (byte_at contents) (positions file 0 n) (positions_of_files (file + 1) lengths)
    ∙ ap₂ (λ xs ys. xs ++ ys)
    (bytes_there contents file 0 n (omega (arith, size)) ∙ take_all n (get_or contents file [])
    (omega (arith, size)) ∙ here)
    (cut_bytes contents (file + 1) lengths (drop n bytes) (rest_long n lengths bytes long)
    (sym (drop-drop 1 file contents) ∙ ap (drop 1) split))
    ∙ take-append-drop n bytes

-- ---- what was read, part by part

flat_parts : (units : List PlanUnit) → flat_map positions_of_unit units ≡ flat_map positions_of_part (parts_of units)
flat_parts [] = refl
flat_parts (unit ∷ units) =
    ap (λ ps. positions_of_unit unit ++ ps) (flat_parts units)
    ∙ sym (flat_map-append positions_of_part unit.parts (parts_of units))

abbrev read_positions : List PartRead → List (ℕ × ℕ)
read_positions reads = flat_map (λ read. positions_of_part read.0) reads

-- there are as many bytes as positions
as_many : (reads : List PartRead) → AllByRecursion (λ read. length read.1 ≡ read.0.length) reads
    → length (flat_map (λ read. read.1) reads) ≡ length (read_positions reads)
as_many [] whole = refl
as_many (read ∷ reads) whole =
    length-append read.1 (flat_map (λ read. read.1) reads)
    ∙ ap₂ (λ a b. a + b) (whole.0 ∙ sym (length_positions read.0.file read.0.start read.0.length))
    (as_many reads whole.1)
    ∙ sym (length-append (positions_of_part read.0) (read_positions reads))

module _ (contents : List (List ℕ)) where
  abbrev bytes_in : PartRead → List ℕ
  bytes_in read = map (byte_at contents) (positions_of_part read.0)

  joined_bytes : (reads : List PartRead) → flat_map bytes_in reads ≡ map (byte_at contents) (read_positions reads)
  joined_bytes [] = refl
  joined_bytes (read ∷ reads) =
      ap (λ xs. bytes_in read ++ xs) (joined_bytes reads)
      ∙ sym (map-append (byte_at contents) (positions_of_part read.0) (read_positions reads))

  -- lists that are the same when they are joined are the same where their lengths are
  each_alike : (reads : List PartRead) → AllByRecursion (λ read. length read.1 ≡ read.0.length) reads
      → flat_map bytes_in reads ≡ flat_map (λ read. read.1) reads
      → AllByRecursion (λ read. bytes_in read ≡ read.1) reads
  each_alike [] whole same = tt
  each_alike (read ∷ reads) whole same =
      let rest = flat_map bytes_in reads in
      let later = flat_map (λ (r : PartRead). r.1) reads in
      let long : length (bytes_in read) ≡ length read.1 = length-map (positions_of_part read.0) (byte_at contents)
      ∙ length_positions read.0.file read.0.start read.0.length ∙ sym whole.0 in (
        sym (take-append_seam (bytes_in read) rest) ∙ ap (take (length (bytes_in read))) same
            ∙ ap (λ n. take n (read.1 ++ later)) long ∙ take-append_seam read.1 later,
        each_alike reads whole.1 (sym (drop-append_seam (bytes_in read) rest)
            ∙ ap (drop (length (bytes_in read))) same ∙ ap (λ n. drop n (read.1 ++ later)) long
            ∙ drop-append_seam read.1 later),
      )

  have_read : (lengths : List ℕ) (reads : List PartRead) → map length contents ≡ lengths
      → AllByRecursion (IsInFile lengths) (map (λ read. read.0) reads)
      → AllByRecursion (λ read. bytes_in read ≡ read.1) reads → HaveRead contents reads
  have_read lengths [] fit within same = tt
  have_read lengths (read ∷ reads) fit within same =
      let part = read.0 in
      let size = size_of lengths contents part.file fit within.0.named in (
        sym (bytes_there contents part.file part.start part.length (omega (arith, size, within.0.within))) ∙ same.0,
        have_read lengths reads fit within.1 same.1,
      )

-- ---- a plan

-- the parts of units are in their files

pub parts_within : (plan : PlanFacts) (units : List PlanUnit) → AllByRecursion (IsUnitOf plan) units
    → AllByRecursion (IsInFile plan.lengths) (parts_of units)
parts_within plan [] are = tt
parts_within plan (unit ∷ units) are =
    all_append (IsInFile plan.lengths) unit.parts (parts_of units)
    (recursion_from_All _ unit.parts are.0.parts) (parts_within plan units are.1)

-- the source has all bytes of all units where its files have the plan's lengths
pub plan_there : {F : Type 0} (facts : SourceFacts F) (plan : PlanFacts) → HasLengths plan facts → IsPlan plan
    → HasParts facts (parts_of plan.units)
plan_there facts plan fit is =
    parts_there facts plan fit (parts_of plan.units)
    (parts_within plan plan.units (recursion_from_All _ plan.units (units_of_plan plan is)))

-- files of the plan's lengths have what was read of all its units
pub contents_there : {F : Type 0} (is_steady : SourceFacts F → Type 0) (plan : PlanFacts) (reads : List PartRead)
    → IsPlan plan → AreReads is_steady plan (parts_of plan.units) reads
    → (contents : List (List ℕ)) × (map length contents ≡ plan.lengths) × HaveRead contents reads
contents_there is_steady plan reads is are =
    let p = plan.piece_length in
    let pos : 0 < is.span * p = mul-pos (omega (arith, is.is_span.1)) (some_piece plan.kind p is.pieces) in
    let bytes = flat_map (λ (read : PartRead). read.1) reads in
    let all : read_positions reads ≡ positions_of_files 0 plan.lengths =
    sym (flat_map-map positions_of_part (λ (read : PartRead). read.0) reads)
    ∙ ap (flat_map positions_of_part) are.each ∙ sym (flat_parts plan.units)
    ∙ ap (λ facts. flat_map positions_of_unit facts.units) is.made
    ∙ entry_units_name_each_byte plan.kind p is.span is.entries pos
    ∙ ap (λ facts. positions_of_files 0 facts.lengths) (sym is.made) in
    let long = as_many reads are.whole ∙ ap length all ∙ length_of_positions 0 plan.lengths in
    let contents = cut plan.lengths bytes in
    let fit = cut_lengths plan.lengths bytes long in
    let same = joined_bytes contents reads ∙ ap (map (byte_at contents)) all
    ∙ cut_bytes contents 0 plan.lengths bytes long refl in
    let named = subst (λ (ps : List Part). AllByRecursion (IsInFile plan.lengths) ps) (sym are.each)
    (parts_within plan plan.units (recursion_from_All _ plan.units (units_of_plan plan is))) in
    (contents, fit, have_read contents plan.lengths reads fit named (each_alike contents reads are.whole same))
