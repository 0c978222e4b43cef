-- The bytes of a part, read one after the other.
use Rattle.std.proofs.Common.{◌≡◌, ◌<◌, ◌≤◌, ℕ, ◌+◌, ◌-◌, List, [], ◌++◌, length, drop, None, Some, unwrap_or}
use Rattle.std.proofs.Common.{append_assoc, append-nil, refl, ap, sym, subst, ◌∙◌, arith}
use Rattle.std.proofs.lemmas.List.{drop-drop, length-drop}
use Rattle.std.specs.List.{range_with_len}
use Rattle.tor_source.specs.Source.{SourceFacts, bytes_from}
use Rattle.tor_tree.specs.declared.kinds.Kind.{Kind}
use Rattle.tor_sums.specs.Fault.{byte_fault, first_of}
use Rattle.tor_sums.specs.declared.errors.EngineError.{EngineError}
use Rattle.tor_sums.specs.declared.worker.WorkerSums.{WorkerSums}
use Rattle.tor_sums.specs.steps.ReadBytes.{IsFaultFree}
use Rattle.tor_sums.specs.steps.Worker.{HasTaken}
use Rattle.tor_sums.proofs.FirstOf.{first_found, first_none}

pub fed_as : (kind : Kind) (p : ℕ) (sums : WorkerSums) (bytes bytes' unit unit' : List ℕ) → bytes ≡ bytes'
    → unit ≡ unit' → HasTaken kind p bytes unit sums → HasTaken kind p bytes' unit' sums
fed_as kind p sums bytes bytes' unit unit' same same' given =
    subst (λ (u : List ℕ). HasTaken kind p bytes' u sums) same'
    (subst (λ (b : List ℕ). HasTaken kind p b unit sums) same given)

pub fed_none : (kind : Kind) (p : ℕ) (sums : WorkerSums) (before unit : List ℕ) → HasTaken kind p before unit sums
    → HasTaken kind p (before ++ []) (unit ++ []) sums
fed_none kind p sums before unit given =
    fed_as kind p sums before (before ++ []) unit (unit ++ []) (sym (append-nil before)) (sym (append-nil unit)) given

-- after a front, the bytes that come next
pub fed_more : (kind : Kind) (p : ℕ) (sums : WorkerSums) (before unit front next all : List ℕ) → front ++ next ≡ all
    → HasTaken kind p ((before ++ front) ++ next) ((unit ++ front) ++ next) sums
    → HasTaken kind p (before ++ all) (unit ++ all) sums
fed_more kind p sums before unit front next all is given =
    fed_as kind p sums ((before ++ front) ++ next) (before ++ all) ((unit ++ front) ++ next) (unit ++ all)
    (append_assoc before front next ∙ ap (λ bytes. before ++ bytes) is)
    (append_assoc unit front next ∙ ap (λ bytes. unit ++ bytes) is) given

module _ {F : Type 0} (facts : SourceFacts F) (file start : ℕ) where
  -- the bytes from a later offset on
  pub later_bytes : (done : ℕ) → bytes_from facts file (start + done) ≡ drop done (bytes_from facts file start)
  later_bytes done = sym (drop-drop done start (unwrap_or (facts.contents file) []))

  -- there are bytes left
  pub some_left : (done size : ℕ) → done < size → size ≤ length (bytes_from facts file start)
      → 0 < length (bytes_from facts file (start + done))
  some_left done size less there =
      let left = ap length (later_bytes done) ∙ length-drop done (bytes_from facts file start) in
      omega (arith, left)

  -- the first of them that fails
  pub read_fault : (done size : ℕ) (error : EngineError F) → done < size
      → first_of (byte_fault facts file) (range_with_len start done) ≡ None
      → byte_fault facts file (start + done) ≡ Some error
      → first_of (byte_fault facts file) (range_with_len start size) ≡ Some error
  read_fault done size error less none is =
      first_found (byte_fault facts file) start done size (start + done) error less refl none is

  -- none of those that were read fails
  pub no_fault : (done count : ℕ) → IsFaultFree facts file (start + done) count
      → first_of (byte_fault facts file) (range_with_len start done) ≡ None
      → first_of (byte_fault facts file) (range_with_len start (done + count)) ≡ None
  no_fault done count free none =
      first_none (byte_fault facts file) start done (done + count) (omega arith) none
      (λ j low high.
      let at : start + done + (j - (start + done)) ≡ j = omega arith in
      rw (ap (facts.byte_fault file) (sym at) ∙ free (j - (start + done)) (omega arith)) refl)
