-- Some of the units of a plan, which stand one after another, and what was read of them.
use Rattle.std.proofs.Common.{◌≡◌, ◌-◌, ℕ, List, [], ◌∷◌, ◌++◌, length, map, take, drop, replicate, refl, ap, sym}
use Rattle.std.proofs.Common.{arith, subst, ◌∙◌}
use Rattle.std.proofs.lemmas.Grind.{flat_map-append}
use Rattle.std.proofs.lemmas.List.{length-replicate, length-take, take-append-drop}
use Rattle.std.proofs.lemmas.List.Elements.{All-drop, All-take, recursion_from_All}
use Rattle.std.specs.List.{All, AllByRecursion, flat_map}
use Rattle.tor_plan.specs.PlanFacts.{IsPlan, PlanFacts}
use Rattle.tor_plan.specs.WithinEntries.{IsInFile}
use Rattle.tor_plan.specs.declared.units.Part.{Part}
use Rattle.tor_plan.specs.declared.units.PlanUnit.{PlanUnit}
use Rattle.tor_source.specs.Source.{SourceFacts, bytes_from}
use Rattle.tor_sums.specs.Contents.{contents_in}
use Rattle.tor_engine.specs.Rows.{AreInFiles, AreSameAt, IsRowOf, row_in, units_between}
use Rattle.tor_engine.specs.declared.lot.PieceRow.{PieceRow}
use Rattle.tor_sums.specs.declared.unit_sums.UnitSums.{UnitSums}
use Rattle.tor_sums.specs.steps.Hashes.{bytes_of_part}
use Rattle.tor_sums.specs.steps.Reads.{AreReads, HasPart, HasParts, HaveRead, PartRead}
use Rattle.tor_engine.specs.steps.RowSums.{IsRowOfSums}
use Rattle.tor_sums.specs.steps.Run.{HashesUnits, IsUnitOf, IsUnitToSum, node_in, parts_of}
use Rattle.tor_sums.proofs.PartReads.{have_both, reads_as, reads_both}
use Rattle.tor_sums.proofs.Parts.{part_bytes, part_long}
use Rattle.tor_sums.proofs.PlanLevels.{units_to_sum}
use Rattle.tor_engine.proofs.ReadContents.{contents_there, parts_within}
use Rattle.tor_sums.proofs.Whole.{units_of_plan}

-- ---- the units

pub between_to_sum : (plan : PlanFacts) → IsPlan plan → (from to : ℕ)
    → All (IsUnitToSum plan) (units_between from to plan.units)
between_to_sum plan is from to =
    All-take (IsUnitToSum plan) (to - from) (drop from plan.units)
    (All-drop (IsUnitToSum plan) from plan.units (units_to_sum plan is))

pub between_inside : (plan : PlanFacts) → IsPlan plan → (from to : ℕ)
    → AllByRecursion (IsInFile plan.lengths) (parts_of (units_between from to plan.units))
between_inside plan is from to =
    parts_within plan (units_between from to plan.units) (recursion_from_All _ (units_between from to plan.units)
    (All-take (IsUnitOf plan) (to - from) (drop from plan.units)
    (All-drop (IsUnitOf plan) from plan.units (units_of_plan plan is))))

-- so are those of all units of a plan
pub units_in_files : (plan : PlanFacts) → IsPlan plan → AreInFiles plan.lengths plan.units
units_in_files plan is = λ k d lt. (units_of_plan plan is k d lt).parts

pub between_in_files : (plan : PlanFacts) → IsPlan plan → (from to : ℕ)
    → AreInFiles plan.lengths (units_between from to plan.units)
between_in_files plan is from to =
    All-take (λ (unit : PlanUnit). All (IsInFile plan.lengths) unit.parts) (to - from) (drop from plan.units)
    (All-drop (λ (unit : PlanUnit). All (IsInFile plan.lengths) unit.parts) from plan.units (units_in_files plan is))

-- a source has all their bytes where it has those that files of the plan's lengths have there
module _ {F : Type 0} (facts : SourceFacts F) (plan : PlanFacts) (contents : List (List ℕ))
    (fit : map length contents ≡ plan.lengths) where
  abbrev there : List (List ℕ)
  there = contents_in facts (length plan.lengths)

  abbrev Same : Part → Type 0
  Same part = bytes_of_part contents part ≡ bytes_of_part there part

  same_part : (part : Part) → IsInFile plan.lengths part → Same part → HasPart facts part
  same_part part is same =
      let long = part_long plan.lengths contents fit part is in
      let all = ap length (part_bytes facts plan part is) in
      let taken = length-take part.length (bytes_from facts part.file part.start) in
      let alike = ap length same in
      omega (arith, long, all, taken, alike)

  same_parts : (parts : List Part) → AllByRecursion (IsInFile plan.lengths) parts → AllByRecursion Same parts
      → HasParts facts parts
  same_parts [] are same = tt
  same_parts (part ∷ parts) are same = (same_part part are.0 same.0, same_parts parts are.1 same.1)

  pub between_there : IsPlan plan → (from to : ℕ) → AreSameAt contents there (units_between from to plan.units)
      → HasParts facts (parts_of (units_between from to plan.units))
  between_there is from to same =
      same_parts (parts_of (units_between from to plan.units)) (between_inside plan is from to) same

-- contents that have the same bytes have what was read of the others
have_as : (contents other : List (List ℕ)) (reads : List PartRead)
    → AllByRecursion (λ part. bytes_of_part contents part ≡ bytes_of_part other part) (map (λ read. read.0) reads)
    → HaveRead other reads → HaveRead contents reads
have_as contents other [] same have = tt
have_as contents other (read ∷ reads) same have = (same.0 ∙ have.0, have_as contents other reads same.1 have.1)

pub have_same : (contents other : List (List ℕ)) (parts : List Part) (reads : List PartRead)
    → map (λ read. read.0) reads ≡ parts
    → AllByRecursion (λ part. bytes_of_part contents part ≡ bytes_of_part other part) parts
    → HaveRead other reads → HaveRead contents reads
have_same contents other parts reads each same have =
    have_as contents other reads
    (subst (λ (ps : List Part). AllByRecursion (λ part. bytes_of_part contents part ≡ bytes_of_part other part) ps)
    (sym each) same) have

-- ---- contents that have what was read of them

abbrev zeros_read : List Part → List PartRead
zeros_read parts = map (λ part. (part, replicate part.length 0)) parts

zeros_each : (parts : List Part) → map (λ read. read.0) (zeros_read parts) ≡ parts
zeros_each [] = refl
zeros_each (part ∷ parts) = ap (λ ps. part ∷ ps) (zeros_each parts)

zeros_whole : (parts : List Part) → AllByRecursion (λ read. length read.1 ≡ read.0.length) (zeros_read parts)
zeros_whole [] = tt
zeros_whole (part ∷ parts) = (length-replicate part.length 0, zeros_whole parts)

module _ {F : Type 0} (is_steady : SourceFacts F → Type 0) (plan : PlanFacts) (is : IsPlan plan) where
  -- no source is steady in this way
  abbrev never : SourceFacts F → Type 0
  never facts = ⊥

  any_reads : (parts : List Part) → AreReads never plan parts (zeros_read parts)
  any_reads parts = record {
    each = zeros_each parts;
    whole = zeros_whole parts;
    steady = λ facts no have. absurd no;
    there = λ facts no. absurd no;
  }

  as_any : (parts : List Part) (reads : List PartRead) → AreReads is_steady plan parts reads
      → AreReads never plan parts reads
  as_any parts reads are = record {
    each = are.each;
    whole = are.whole;
    steady = λ facts no have. absurd no;
    there = λ facts no. absurd no;
  }

  split_parts : (from to : ℕ)
      → parts_of (take from plan.units) ++ (parts_of (units_between from to plan.units)
      ++ parts_of (drop (to - from) (drop from plan.units))) ≡ parts_of plan.units
  split_parts from to =
      let later = drop from plan.units in
      ap (λ ps. parts_of (take from plan.units) ++ ps)
      (sym (flat_map-append (λ u. u.parts) (take (to - from) later) (drop (to - from) later))
      ∙ ap parts_of (take-append-drop (to - from) later))
      ∙ sym (flat_map-append (λ u. u.parts) (take from plan.units) later)
      ∙ ap parts_of (take-append-drop from plan.units)

  pub contents_between : (from to : ℕ) (reads : List PartRead)
      → AreReads is_steady plan (parts_of (units_between from to plan.units)) reads
      → (contents : List (List ℕ)) × (map length contents ≡ plan.lengths) × HaveRead contents reads
  contents_between from to reads are =
      let before = parts_of (take from plan.units) in
      let own = parts_of (units_between from to plan.units) in
      let after = parts_of (drop (to - from) (drop from plan.units)) in
      let both = reads_both never plan own after reads (zeros_read after) (as_any own reads are) (any_reads after) in
      let all = reads_both never plan before (own ++ after) (zeros_read before) (reads ++ zeros_read after)
      (any_reads before) both in
      let there = contents_there never plan (zeros_read before ++ (reads ++ zeros_read after)) is
      (reads_as never plan (before ++ (own ++ after)) (parts_of plan.units)
      (zeros_read before ++ (reads ++ zeros_read after)) (split_parts from to) all) in
      let later = (have_both there.0 (zeros_read before) (reads ++ zeros_read after) there.2).1 in
      (there.0, there.1, (have_both there.0 reads (zeros_read after) later).0)

  -- ---- their hashes

  pub row_is : (units : List PlanUnit) (sums given : List UnitSums) (row : PieceRow) → given ≡ sums
      → (hashed : HashesUnits is_steady plan units (map node_in sums) (flat_map (λ one. one.pieces.items) sums))
      → IsRowOfSums plan.kind given row
      → (contents : List (List ℕ)) → map length contents ≡ plan.lengths → HaveRead contents hashed.reads
      → IsRowOf plan contents units row.hashes.items row.pieces.items
  row_is units sums given row same hashed made contents fit have =
      let all = hashed.sums contents fit have in
      record {
        nodes = λ trees.
            made.nodes trees ∙ ap (λ ones. flat_map row_in (map node_in ones)) same
            ∙ ap (flat_map row_in) (all.nodes trees);
        bare = made.bare;
        sums = made.sums ∙ ap (flat_map (λ (one : UnitSums). one.pieces.items)) same ∙ all.pieces;
      }
