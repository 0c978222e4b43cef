use Rattle.tor_bencode.proofs.Names.{◌≡◌, ℕ, List, Ok, Err, subst, arith, Data, Fault, Stops, whole}
use Rattle.tor_bencode.proofs.Names.{ref_view}
use Rattle.tor_bencode.proofs.ProvedLaws.{never_both}
use Rattle.tor_bencode.proofs.ReadBack.{whole-spelling}
use Rattle.tor_bencode.proofs.Whole.{WholeIs, whole_sound, refused_within}
use Rattle.tor_bencode.proofs.read.decode_ref.Goals as goal

tree_read : (bytes : List ℕ) (d : Data) → whole bytes ≡ Ok d → WholeIs bytes (Ok d)
tree_read bytes d e = subst (WholeIs bytes) e (whole_sound bytes)

fault_read : (bytes : List ℕ) (f : Fault × List ℕ) → whole bytes ≡ Err f → WholeIs bytes (Err f)
fault_read bytes f e = subst (WholeIs bytes) e (whole_sound bytes)

pub returns-in-Ok-clause-item : goal.returns-in-Ok-clause-item
returns-in-Ok-clause-item c = tree_read c.args.bytes.now (ref_view c.in-Ok.item) c.in-Ok.ensures.read

pub overflow_sub-result : goal.overflow_sub-result
overflow_sub-result c =
    let stopped = subst (λ stop. Stops stop (whole c.args.bytes.now)) c.in-Err-At.field-0-is c.in-Err-At.ensures.read in
    omega (
      arith,
      refused_within c.args.bytes.now c.in-Err-At.fault c.in-Err-At.rest.now
          (fault_read c.args.bytes.now (c.in-Err-At.fault, c.in-Err-At.rest.now) stopped),
    )

pub returns-in-Err-At-clause-only : goal.returns-in-Err-At-clause-only
returns-in-Err-At-clause-only c =
    let stopped = subst (λ stop. Stops stop (whole c.args.bytes.now)) c.in-Err-At.field-0-is c.in-Err-At.ensures.read in
    λ d lawful is. absurd (never_both d (c.in-Err-At.fault, c.in-Err-At.rest.now) (whole c.args.bytes.now)
    (whole-spelling d c.args.bytes.now lawful is) stopped)

pub returns-in-Err-At-clause-fault : goal.returns-in-Err-At-clause-fault
returns-in-Err-At-clause-fault c =
    let stopped = subst (λ stop. Stops stop (whole c.args.bytes.now)) c.in-Err-At.field-0-is c.in-Err-At.ensures.read in
    let cause = fault_read c.args.bytes.now (c.in-Err-At.fault, c.in-Err-At.rest.now) stopped in (
      c.in-Err-At.rest.now,
      omega (arith, refused_within c.args.bytes.now c.in-Err-At.fault c.in-Err-At.rest.now cause),
      cause,
    )
