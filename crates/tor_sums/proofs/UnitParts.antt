-- The parts of a unit, read one after the other.
use Rattle.std.proofs.Common.{◌≡◌, ◌<◌, ◌≤◌, ◌+◌, ℕ, List, [], ◌∷◌, ◌++◌, Option, length, take, get_or, sum_by}
use Rattle.std.proofs.Common.{append-nil, append_assoc, refl, ap, ap₂, subst, sym, ◌∙◌, arith}
use Rattle.std.proofs.lemmas.List.{length-append, take_more}
use Rattle.std.proofs.lemmas.List.Sums.{sum_by-append, sum_by-cons}
use Rattle.tor_merkle.specs.Feeding.{Feeding}
use Rattle.tor_plan.specs.Content.{part_content}
use Rattle.tor_plan.specs.PlanFacts.{PlanFacts}
use Rattle.tor_plan.specs.declared.units.Part.{Part}
use Rattle.tor_plan.specs.declared.units.PlanUnit.{PlanUnit}
use Rattle.tor_source.specs.Source.{SourceFacts}
use Rattle.tor_v1.specs.Piece.{zeros}
use Rattle.tor_sums.specs.declared.worker.WorkerSums.{WorkerSums}
use Rattle.tor_sums.specs.steps.Hashes.{bytes_of_part}
use Rattle.tor_sums.specs.Hasher.{IsTreeOf}
use Rattle.tor_sums.specs.steps.Reads.{AddsPart, ReadsParts}
use Rattle.tor_sums.specs.steps.Run.{ReadsUnit}
use Rattle.tor_sums.specs.steps.Worker.{HasTaken, IsFresh}
use Rattle.tor_v1.proofs.ProvedLaws.{length_of_zeros}
use Rattle.tor_sums.proofs.PartBytes.{fed_as}
use Rattle.tor_sums.proofs.PartReads.{have_both, reads_as, reads_both, reads_none, reads_one}
use Rattle.tor_sums.proofs.Runs.{one_more}

abbrev taken_in : List Part → ℕ
taken_in parts = sum_by (λ part. part.length + part.zeros) parts

-- how many bytes of files were taken, and one part more
pub begun_more : (parts : List Part) (i : ℕ) (d : Part) (old mid new : ℕ) → i < length parts
    → old ≤ taken_in (take i parts) → mid ≡ old → new ≡ mid + (get_or parts i d).length
    → new ≤ taken_in (take (i + 1) parts)
begun_more parts i d old mid new there before same more =
    let size = λ (part : Part). part.length + part.zeros in
    let part = get_or parts i d in
    omega (
      arith,
      before,
      same,
      more,
      ap taken_in (take_more parts i d there),
      sum_by-append size (take i parts) (part ∷ []),
      sum_by-cons size part [],
    )

module _ {F : Type 0} (is_steady : SourceFacts F → Type 0) (plan : PlanFacts) where
  pub parts_none : (before : List ℕ) (left : ℕ) (sums : WorkerSums)
      → HasTaken plan.kind plan.piece_length [] before sums
      → ReadsParts is_steady plan (before ++ zeros left) [] left sums
  parts_none before left sums given = record {
    reads = [];
    are = reads_none is_steady plan;
    bytes = [];
    joined = [];
    long = refl;
    same = λ contents have. (refl, refl);
    front = before;
    all = sym (append-nil (before ++ zeros left));
    taken = given;
  }

  -- the zeros that come next, and one part more
  pub parts_more : (parts : List Part) (i : ℕ) (d : Part) (before : List ℕ) (left : ℕ) (sums mid new : WorkerSums)
      → i < length parts
      → ReadsParts is_steady plan before (take i parts) left sums
      → ((bytes joined : List ℕ) → HasTaken plan.kind plan.piece_length bytes joined sums
      → HasTaken plan.kind plan.piece_length bytes (joined ++ zeros left) mid)
      → AddsPart is_steady plan (get_or parts i d) mid new
      → ReadsParts is_steady plan before (take (i + 1) parts) (get_or parts i d).zeros new
  parts_more parts i d before left sums mid new there old zeroed added =
      let part = get_or parts i d in
      let size = λ (part : Part). part.length + part.zeros in
      let last = (part, added.bytes) ∷ [] in
      let more = added.bytes ++ zeros part.zeros in
      record {
        reads = old.reads ++ last;
        are = reads_as is_steady plan (take i parts ++ part ∷ []) (take (i + 1) parts) (old.reads ++ last)
            (sym (take_more parts i d there))
            (reads_both is_steady plan (take i parts) (part ∷ []) old.reads last old.are
            (reads_one is_steady plan part added.bytes added.counted added.steady added.there));
        bytes = old.bytes ++ added.bytes;
        joined = old.joined ++ more;
        long =
            let long = length-append old.joined more in
            let longer = length-append added.bytes (zeros part.zeros) in
            let nils = length_of_zeros part.zeros in
            let taken = ap taken_in (take_more parts i d there) in
            let both = sum_by-append size (take i parts) (part ∷ []) in
            let one = sum_by-cons size part [] in
            omega (arith, old.long, added.counted, long, longer, nils, taken, both, one);
        same = λ contents have.
            let both = have_both contents old.reads last have in
            let front = old.same contents both.0 in
            let own : bytes_of_part contents part ≡ added.bytes = both.1.0 in (
              sym (one_more (bytes_of_part contents) [] parts i d there)
                  ∙ ap₂ (λ xs ys. xs ++ ys) front.0 own,
              sym (one_more (part_content contents) [] parts i d there)
                  ∙ ap₂ (λ xs ys. xs ++ (ys ++ zeros part.zeros)) front.1 own,
            );
        front = (before ++ old.joined) ++ added.bytes;
        all = append_assoc (before ++ old.joined) added.bytes (zeros part.zeros)
            ∙ append_assoc before old.joined more;
        taken = added.taken old.bytes (before ++ old.joined)
            (fed_as _ _ mid _ _ _ _ refl old.all (zeroed old.bytes old.front old.taken));
      }

  -- and the whole unit
  pub unit_read : (unit : PlanUnit) (before : List ℕ) (left : ℕ) (sums : WorkerSums)
      → ReadsParts is_steady plan (before ++ zeros unit.zeros) unit.parts left sums
      → (new : WorkerSums) (tree : Option Feeding)
      → ((bytes joined : List ℕ) → HasTaken plan.kind plan.piece_length bytes joined sums
      → IsTreeOf plan.kind plan.piece_length bytes tree)
      → ((bytes joined : List ℕ) → HasTaken plan.kind plan.piece_length bytes joined sums
      → IsFresh plan (joined ++ zeros left) new)
      → ReadsUnit is_steady plan unit before new tree
  unit_read unit before left sums read new tree is_tree next =
      let long = length-append (zeros unit.zeros) read.joined in
      let nils = length_of_zeros unit.zeros in
      record {
        reads = read.reads;
        are = read.are;
        trees = λ contents have.
            subst (λ (bytes : List ℕ). IsTreeOf plan.kind plan.piece_length bytes tree)
            (sym (read.same contents have).0) (is_tree read.bytes _ read.taken);
        joined = zeros unit.zeros ++ read.joined;
        long = omega (arith, long, nils, read.long);
        same = λ contents have. ap (λ xs. zeros unit.zeros ++ xs) (read.same contents have).1;
        fresh = subst (λ (joined : List ℕ). IsFresh plan joined new)
            (read.all ∙ append_assoc before (zeros unit.zeros) read.joined) (next read.bytes read.front read.taken);
      }
