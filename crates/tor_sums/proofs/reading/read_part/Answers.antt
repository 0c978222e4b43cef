-- the bytes that come next
use Rattle.std.proofs.Common.{◌≡◌, ◌+◌, ℕ, None, inl, inr, subst, sym, ◌∙◌, arith}
use Rattle.std.specs.List.{range_with_len}
use Rattle.tor_sums.specs.Fault.{byte_fault, first_of, wanted_byte_fault}
use Rattle.tor_sums.specs.steps.Reads.{TakesPart}
use Rattle.tor_sums.proofs.FirstOf.{first_of_none}
use Rattle.tor_sums.proofs.PartBytes.{no_fault, read_fault, some_left}
use Rattle.tor_sums.proofs.PartReads.{takes_more, takes_none}
use Rattle.tor_sums.proofs.Parts.{part_bytes}
use Rattle.tor_sums.proofs.WantedBytes.{first_wanted, wanted_more}
use Rattle.tor_sums.proofs.reading.read_part.Goals as goal

pub reads-init : goal.reads-init
reads-init g c = record {
  within = omega arith;
  begun = omega arith;
  taken = takes_none (g.S.FileBytes.is_steady c.args.source.now) c.args.part.now c.args.sums.now;
  fault = λ facts steady long. first_of_none (byte_fault facts c.args.part.now.file);
  wanted = λ facts steady within. first_of_none (wanted_byte_fault facts c.args.part.now.file);
}

pub reads-preserved : goal.reads-preserved
reads-preserved g c =
    let part = c.args.part.now in
    let done = c.reads.done in
    let old = c.reads.invariant in
    let read = c.in-Ok.ensures.read in
    record {
      within = omega (arith, c.in-Ok.ensures.some.1);
      begun = omega (arith, c.in-Ok.ensures.begun, old.begun);
      taken = takes_more (g.S.FileBytes.is_steady c.args.source.now) part c.args.sums.now done c.in-Ok.count
          c.reads.sums c.read.new.self read.bytes old.taken read.counted
          (λ facts steady long. read.steady facts steady
          (some_left facts part.file part.start done part.length c.reads-test.true long))
          read.there read.taken;
      fault = λ facts steady long.
          no_fault facts part.file part.start done c.in-Ok.count
          (c.in-Ok.ensures.fault facts steady
          (some_left facts part.file part.start done part.length c.reads-test.true long))
          (old.fault facts steady long);
      wanted = λ facts steady within.
          wanted_more facts part.file part.start done c.in-Ok.count
          (c.in-Ok.ensures.wanted facts steady
          (within (part.start + done) (omega arith) (omega (arith, c.reads-test.true))))
          (old.wanted facts steady within);
    }

pub returns-in-Err-clause-fault : goal.returns-in-Err-clause-fault
returns-in-Err-clause-fault g c = λ facts steady long.
    let part = c.args.part.now in
    elim (c.in-Err.ensures.fault facts steady
    (some_left facts part.file part.start c.reads.done part.length c.reads-test.true long)) [
      | inl memory ↦ inl memory
      | inr fault ↦ inr (read_fault facts part.file part.start c.reads.done part.length c.in-Err.error
          c.reads-test.true (c.reads.invariant.fault facts steady long) fault)
    ]

pub returns-in-Err-clause-wanted : goal.returns-in-Err-clause-wanted
returns-in-Err-clause-wanted g c = λ facts steady within.
    let part = c.args.part.now in
    let done = c.reads.done in
    elim (c.in-Err.ensures.wanted facts steady
    (within (part.start + done) (omega arith) (omega (arith, c.reads-test.true)))) [
      | inl memory ↦ inl memory
      | inr fault ↦ inr (first_wanted facts part.file part.start done part.length c.in-Err.error c.reads-test.true
          (c.reads.invariant.wanted facts steady within) fault)
    ]

pub returns-clause-wanted : goal.returns-clause-wanted
returns-clause-wanted g c = λ facts steady within.
    let part = c.args.part.now in
    let all : c.reads.done ≡ part.length = omega (arith, c.reads.invariant.within, c.reads-test.false) in
    subst (λ (n : ℕ). first_of (wanted_byte_fault facts part.file) (range_with_len part.start n) ≡ None) all
    (c.reads.invariant.wanted facts steady within)

pub returns-clause-added : goal.returns-clause-added
returns-clause-added g c = λ plan is.
    let part = c.args.part.now in
    let is_steady = g.S.FileBytes.is_steady c.args.source.now in
    let all : c.reads.done ≡ part.length = omega (arith, c.reads.invariant.within, c.reads-test.false) in
    let read = subst (λ (n : ℕ). TakesPart is_steady part n c.args.sums.now c.reads.sums) all
    c.reads.invariant.taken in
    record {
      bytes = read.bytes;
      counted = read.counted;
      steady = λ facts steady have. sym (read.steady facts steady have ∙ part_bytes facts plan part is);
      there = read.there;
      begun = omega (arith, all, c.reads.invariant.begun);
      taken = read.taken plan.kind plan.piece_length;
    }
