-- What was read, part after part.
use Rattle.std.proofs.Common.{◌≡◌, ◌≤◌, ℕ, ◌+◌, List, [], ◌∷◌, ◌++◌, length, take}
use Rattle.std.proofs.Common.{refl, ap, ap₂, sym, subst, ◌∙◌, arith, unwrap_or}
use Rattle.std.specs.List.{AllByRecursion}
use Rattle.std.proofs.Math.Seq.{take-add}
use Rattle.std.proofs.lemmas.List.{length-append, length-drop, map-append}
use Rattle.tor_plan.specs.PlanFacts.{PlanFacts}
use Rattle.tor_plan.specs.declared.units.Part.{Part}
use Rattle.tor_source.specs.Source.{SourceFacts, bytes_from}
use Rattle.tor_tree.specs.declared.kinds.Kind.{Kind}
use Rattle.tor_sums.specs.Contents.{contents_in}
use Rattle.tor_sums.specs.declared.worker.WorkerSums.{WorkerSums}
use Rattle.tor_sums.specs.steps.Hashes.{bytes_of_part}
use Rattle.tor_sums.specs.steps.Reads.{AreReads, TakesPart, HasPart, HaveRead, PartRead}
use Rattle.tor_sums.specs.steps.Worker.{HasTaken}
use Rattle.tor_sums.proofs.PartBytes.{fed_more, fed_none, later_bytes}

-- ---- the bytes of one part

module _ {F : Type 0} (is_steady : SourceFacts F → Type 0) (part : Part) (old : WorkerSums) where
  pub takes_none : TakesPart is_steady part 0 old old
  takes_none = record {
    bytes = [];
    counted = refl;
    steady = λ facts steady long. refl;
    there = λ facts steady. omega arith;
    taken = λ kind p before unit given. fed_none kind p old before unit given;
  }

  -- and then the bytes that come next
  pub takes_more : (done count : ℕ) (now new : WorkerSums) (chunk : List ℕ) → TakesPart is_steady part done old now
      → length chunk ≡ count
      → ((facts : SourceFacts F) → is_steady facts → part.length ≤ length (bytes_from facts part.file part.start)
      → chunk ≡ take count (bytes_from facts part.file (part.start + done)))
      → ((facts : SourceFacts F) → is_steady facts → count ≤ length (bytes_from facts part.file (part.start + done)))
      → ((kind : Kind) (p : ℕ) (before unit : List ℕ) → HasTaken kind p before unit now
      → HasTaken kind p (before ++ chunk) (unit ++ chunk) new) → TakesPart is_steady part (done + count) old new
  takes_more done count now new chunk fed counted steady there taken = record {
    bytes = fed.bytes ++ chunk;
    counted = length-append fed.bytes chunk ∙ ap₂ (λ a b. a + b) fed.counted counted;
    steady = λ facts is long.
        let all = bytes_from facts part.file part.start in
        ap₂ (λ xs ys. xs ++ ys) (fed.steady facts is long)
        (steady facts is long ∙ ap (take count) (later_bytes facts part.file part.start done))
        ∙ sym (take-add done count all);
    there = λ facts is.
        let content = unwrap_or (facts.contents part.file) [] in
        let one = fed.there facts is in
        let other = there facts is in
        let left = length-drop part.start content in
        let later = length-drop (part.start + done) content in
        omega (arith, one, other, left, later);
    taken = λ kind p before unit given.
        fed_more kind p new before unit fed.bytes chunk (fed.bytes ++ chunk) refl
        (taken kind p (before ++ fed.bytes) (unit ++ fed.bytes) (fed.taken kind p before unit given));
  }

-- ---- parts

pub all_append : {X : Type 0} (P : X → Type 0) (xs ys : List X) → AllByRecursion P xs → AllByRecursion P ys
    → AllByRecursion P (xs ++ ys)
all_append P [] ys one other = other
all_append P (x ∷ xs) ys one other = (one.0, all_append P xs ys one.1 other)

pub all_split : {X : Type 0} (P : X → Type 0) (xs ys : List X) → AllByRecursion P (xs ++ ys)
    → AllByRecursion P xs × AllByRecursion P ys
all_split P [] ys all = (tt, all)
all_split P (x ∷ xs) ys all = let rest = all_split P xs ys all.1 in ((all.0, rest.0), rest.1)

-- contents that have what was read in two turns have what was read in each
pub have_both : (contents : List (List ℕ)) (one other : List PartRead) → HaveRead contents (one ++ other)
    → HaveRead contents one × HaveRead contents other
have_both contents one other have = all_split (λ read. bytes_of_part contents read.0 ≡ read.1) one other have

module _ {F : Type 0} (is_steady : SourceFacts F → Type 0) (plan : PlanFacts) where
  pub reads_none : AreReads is_steady plan [] []
  reads_none = record {
    each = refl;
    whole = tt;
    steady = λ facts is have. tt;
    there = λ facts is. tt;
  }

  pub reads_one : (part : Part) (bytes : List ℕ) → length bytes ≡ part.length
      → ((facts : SourceFacts F) → is_steady facts → HasPart facts part
      → bytes_of_part (contents_in facts (length plan.lengths)) part ≡ bytes)
      → ((facts : SourceFacts F) → is_steady facts → HasPart facts part)
      → AreReads is_steady plan (part ∷ []) ((part, bytes) ∷ [])
  reads_one part bytes whole steady there = record {
    each = refl;
    whole = (whole, tt);
    steady = λ facts is have. (steady facts is have.0, tt);
    there = λ facts is. (there facts is, tt);
  }

  pub reads_as : (parts other : List Part) (reads : List PartRead) → parts ≡ other → AreReads is_steady plan parts reads
      → AreReads is_steady plan other reads
  reads_as parts other reads same are = subst (λ (ps : List Part). AreReads is_steady plan ps reads) same are

  pub reads_both : (parts later : List Part) (reads more : List PartRead) → AreReads is_steady plan parts reads
      → AreReads is_steady plan later more → AreReads is_steady plan (parts ++ later) (reads ++ more)
  reads_both parts later reads more one other = record {
    each = map-append (λ read. read.0) reads more ∙ ap₂ (λ xs ys. xs ++ ys) one.each other.each;
    whole = all_append (λ read. length read.1 ≡ read.0.length) reads more one.whole other.whole;
    steady = λ facts is have.
        let both = all_split (HasPart facts) parts later have in
        all_append (λ read. bytes_of_part (contents_in facts (length plan.lengths)) read.0 ≡ read.1) reads more
        (one.steady facts is both.0) (other.steady facts is both.1);
    there = λ facts is.
        all_append (HasPart facts) parts later (one.there facts is) (other.there facts is);
  }
