-- one read after the other
use Rattle.std.proofs.lemmas.Grind.{common_steps}
use Rattle.std.proofs.Common.{◌+◌, Some, ap, arith, option_map, refl, sym, ◌∙◌}
use Rattle.tor_sums.specs.Fault.{byte_fault}
use Rattle.tor_sums.specs.declared.errors.EngineError.TheVariants.{Read}
use Rattle.tor_sums.proofs.FirstOf.{first_of_none}
use Rattle.tor_sums.proofs.PartBytes.{no_fault, read_fault, some_left}
use Rattle.tor_engine.specs.Readable.{read_faults}
use Rattle.tor_engine.proofs.pieces.probing.probe_part.Goals as goal

pub reads-init : goal.reads-init
reads-init g c = record {
  within = omega arith;
  room = refl;
  fault = λ facts steady long. first_of_none (byte_fault facts c.args.part.now.file);
}

pub reads-preserved : goal.reads-preserved
reads-preserved g c =
    let part = c.args.part.now in
    let done = c.reads.done in
    record {
      within = omega (arith, c.in-Ok.ensures.some.1);
      room = c.in-Ok.ensures.len ∙ c.reads.invariant.room;
      fault = λ facts steady long.
          no_fault facts part.file part.start done c.in-Ok.count
          (c.in-Ok.ensures.steady facts steady
          (some_left facts part.file part.start done part.length c.reads-test.true long))
          (c.reads.invariant.fault facts steady long);
    }

pub returns-in-Err-Some-clause-failed : goal.returns-in-Err-Some-clause-failed
returns-in-Err-Some-clause-failed g c = λ facts steady long.
    let part = c.args.part.now in
    let done = c.reads.done in
    let start = part.start + done in
    let failed = c.in-Err-Some.ensures.steady facts steady
    (some_left facts part.file part.start done part.length c.reads-test.true long) in
    sym (ap read_faults (read_fault facts part.file part.start done part.length
    (Read part.file (Some start) c.in-Err-Some.fault) c.reads-test.true (c.reads.invariant.fault facts steady long)
    (ap (option_map (λ fault. Read part.file (Some start) fault)) (failed.1 ∙ c.in-Err-Some.field-0-is))))

pub returns-in-Err-None-clause-refused : goal.returns-in-Err-None-clause-refused
returns-in-Err-None-clause-refused g c = grind (arith, common_steps)
