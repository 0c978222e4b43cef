-- The units of a plan in runs, each of which has the hashes of some contents: contents that all of them are of.
use Rattle.std.proofs.Common.{◌≡◌, ◌≤◌, ◌<◌, ℕ, zero, suc, ◌+◌, List, [], ◌∷◌, ◌++◌, length, map}
use Rattle.std.proofs.Common.{refl, ap, sym, subst, arith, inl, inr}
use Rattle.std.proofs.lemmas.Bool.{cases_lt}
use Rattle.std.proofs.lemmas.Grind.{flat_map-append}
use Rattle.std.proofs.lemmas.List.Elements.{recursion_from_All}
use Rattle.std.specs.List.{AllByRecursion, flat_map, range_with_len}
use Rattle.tor_plan.specs.PlanFacts.{IsPlan, PlanFacts}
use Rattle.tor_plan.specs.WithinEntries.{IsInFile}
use Rattle.tor_plan.specs.declared.units.Part.{Part}
use Rattle.tor_plan.specs.declared.units.PlanUnit.{PlanUnit}
use Rattle.tor_source.specs.Source.{SourceFacts}
use Rattle.tor_engine.specs.Rows.{AreSameAt, IsRowOf}
use Rattle.tor_sums.specs.steps.Hashes.{bytes_of_part}
use Rattle.tor_sums.specs.steps.Reads.{AreReads, HaveRead, PartRead}
use Rattle.tor_sums.specs.steps.Run.{parts_of}
use Rattle.tor_sums.proofs.PartReads.{all_split, have_both, reads_as, reads_both, reads_none}
use Rattle.tor_sums.proofs.Parts.{part_long}
use Rattle.tor_engine.proofs.ReadContents.{contents_there, parts_within}
use Rattle.tor_engine.proofs.SameRows.{same_row}
use Rattle.tor_sums.proofs.Whole.{units_of_plan}

-- ---- what would be read of contents

-- no source is steady in this way
abbrev never : SourceFacts ℕ → Type 0
never facts = ⊥

abbrev reads_of : List (List ℕ) → List Part → List PartRead
reads_of other parts = map (λ part. (part, bytes_of_part other part)) parts

reads_each : (other : List (List ℕ)) (parts : List Part) → map (λ read. read.0) (reads_of other parts) ≡ parts
reads_each other [] = refl
reads_each other (part ∷ parts) = ap (λ ps. part ∷ ps) (reads_each other parts)

module _ (lengths : List ℕ) (other : List (List ℕ)) (fit : map length other ≡ lengths) where
  reads_whole : (parts : List Part) → AllByRecursion (IsInFile lengths) parts
      → AllByRecursion (λ read. length read.1 ≡ read.0.length) (reads_of other parts)
  reads_whole [] are = tt
  reads_whole (part ∷ parts) are = (part_long lengths other fit part are.0, reads_whole parts are.1)

same_reads : (contents other : List (List ℕ)) (parts : List Part) → HaveRead contents (reads_of other parts)
    → AllByRecursion (λ part. bytes_of_part contents part ≡ bytes_of_part other part) parts
same_reads contents other [] have = tt
same_reads contents other (part ∷ parts) have = (have.0, same_reads contents other parts have.1)

-- ---- units that are dealt in runs

module _ (plan : PlanFacts) (units : ℕ → List PlanUnit) (others : ℕ → List (List ℕ)) where
  abbrev own : ℕ → List PartRead
  own k = reads_of (others k) (parts_of (units k))

  abbrev Fit : ℕ → ℕ → Type 0
  Fit a n = (k : ℕ) → a ≤ k → k < a + n → map length (others k) ≡ plan.lengths

  are_reads : (a n : ℕ) → Fit a n
      → AllByRecursion (IsInFile plan.lengths) (parts_of (flat_map units (range_with_len a n)))
      → AreReads never plan (parts_of (flat_map units (range_with_len a n))) (flat_map own (range_with_len a n))
  are_reads a zero fit within = reads_none never plan
  are_reads a (suc n) fit within =
      let later = flat_map units (range_with_len (a + 1) n) in
      let split : parts_of (units a ++ later) ≡ parts_of (units a) ++ parts_of later =
      flat_map-append (λ u. u.parts) (units a) later in
      let both = all_split (IsInFile plan.lengths) (parts_of (units a)) (parts_of later)
      (subst (λ (ps : List Part). AllByRecursion (IsInFile plan.lengths) ps) split within) in
      let first : AreReads never plan (parts_of (units a)) (own a) = record {
        each = reads_each (others a) (parts_of (units a));
        whole = reads_whole plan.lengths (others a) (fit a (omega arith) (omega arith)) (parts_of (units a)) both.0;
        steady = λ facts no have. absurd no;
        there = λ facts no. absurd no;
      } in
      reads_as never plan (parts_of (units a) ++ parts_of later) (parts_of (units a ++ later))
      (own a ++ flat_map own (range_with_len (a + 1) n)) (sym split)
      (reads_both never plan (parts_of (units a)) (parts_of later) (own a) (flat_map own (range_with_len (a + 1) n))
      first
      (are_reads (a + 1) n (λ k from to. fit k (omega (arith, from)) (omega (arith, to))) both.1))

  have_each : (contents : List (List ℕ)) (a n : ℕ) → HaveRead contents (flat_map own (range_with_len a n))
      → (k : ℕ) → a ≤ k → k < a + n → HaveRead contents (own k)
  have_each contents a zero have k from to = absurd (omega (arith, from, to))
  have_each contents a (suc n) have k from to =
      let both = have_both contents (own a) (flat_map own (range_with_len (a + 1) n)) have in
      elim (cases_lt a k) [
        | inl more ↦ have_each contents (a + 1) n both.1 k (omega (arith, more)) (omega (arith, to))
        | inr less ↦
            let is : a ≡ k = omega (arith, from, less) in
            subst (λ (i : ℕ). HaveRead contents (own i)) is both.0
      ]

-- contents that have at each run what the others have there
pub contents_of_runs : (plan : PlanFacts) → IsPlan plan → (n : ℕ) (units : ℕ → List PlanUnit)
    (others : ℕ → List (List ℕ)) → flat_map units (range_with_len 0 n) ≡ plan.units
    → ((k : ℕ) → k < n → map length (others k) ≡ plan.lengths)
    → (contents : List (List ℕ)) × (map length contents ≡ plan.lengths)
    × ((k : ℕ) → k < n → AreSameAt contents (others k) (units k))
contents_of_runs plan is n units others all fit =
    let range = range_with_len 0 n in
    let reads = flat_map (own plan units others) range in
    let inside = parts_within plan plan.units (recursion_from_All _ plan.units (units_of_plan plan is)) in
    let are = are_reads plan units others 0 n (λ k from to. fit k (omega (arith, to)))
    (subst (λ (us : List PlanUnit). AllByRecursion (IsInFile plan.lengths) (parts_of us)) (sym all) inside) in
    let there = contents_there never plan reads is
    (subst (λ (us : List PlanUnit). AreReads never plan (parts_of us) reads) all are) in (
      there.0,
      there.1,
      λ k below.
          same_reads there.0 (others k) (parts_of (units k))
          (have_each plan units others there.0 0 n there.2 k (omega arith) (omega (arith, below))),
    )

-- the parts of each run are in their files
module _ (plan : PlanFacts) (units : ℕ → List PlanUnit) where
  run_within : (a n : ℕ) → AllByRecursion (IsInFile plan.lengths) (parts_of (flat_map units (range_with_len a n)))
      → (k : ℕ) → a ≤ k → k < a + n → AllByRecursion (IsInFile plan.lengths) (parts_of (units k))
  run_within a zero are k from to = absurd (omega (arith, from, to))
  run_within a (suc n) are k from to =
      let later = flat_map units (range_with_len (a + 1) n) in
      let both = all_split (IsInFile plan.lengths) (parts_of (units a)) (parts_of later)
      (subst (λ (ps : List Part). AllByRecursion (IsInFile plan.lengths) ps)
      (flat_map-append (λ u. u.parts) (units a) later) are) in
      elim (cases_lt a k) [
        | inl more ↦ run_within (a + 1) n both.1 k (omega (arith, more)) (omega (arith, to))
        | inr less ↦
            let is : a ≡ k = omega (arith, from, less) in
            subst (λ (i : ℕ). AllByRecursion (IsInFile plan.lengths) (parts_of (units i))) is both.0
      ]

pub rows_of_runs : (plan : PlanFacts) → IsPlan plan → (n : ℕ) (units : ℕ → List PlanUnit)
    (others : ℕ → List (List ℕ)) (hashes : ℕ → List (List ℕ)) (pieces : ℕ → List ℕ)
    → flat_map units (range_with_len 0 n) ≡ plan.units
    → ((k : ℕ) → k < n → (map length (others k) ≡ plan.lengths)
    × IsRowOf plan (others k) (units k) (hashes k) (pieces k))
    → (contents : List (List ℕ)) × (map length contents ≡ plan.lengths)
    × ((k : ℕ) → k < n → AreSameAt contents (others k) (units k)
    × IsRowOf plan contents (units k) (hashes k) (pieces k))
rows_of_runs plan is n units others hashes pieces all each =
    let there = contents_of_runs plan is n units others all (λ k below. (each k below).0) in
    let inside = parts_within plan plan.units (recursion_from_All _ plan.units (units_of_plan plan is)) in
    let within = subst (λ (us : List PlanUnit). AllByRecursion (IsInFile plan.lengths) (parts_of us)) (sym all) inside
    in (
      there.0,
      there.1,
      λ k below.
          let same = there.2 k below in (
            same,
            same_row plan there.0 (others k) there.1 (each k below).0 (units k) (hashes k) (pieces k)
                (run_within plan units 0 n within k (omega arith) (omega (arith, below))) same (each k below).1,
          ),
    )
