use Rattle.tor_check.proofs.Names.{view}
use Rattle.tor_check.proofs.Refused.{memory_alone, refused_for}
use Rattle.tor_check.proofs.verdict.validate.Goals as goal

pub returns-clause-refused : goal.returns-clause-refused
returns-clause-refused c =
    let lawful = c.in-Ok.ensures.item in
    refused_for c.args.bytes.now (view c.in-Ok.root) c.in-Err-judge.refusal lawful.0 lawful.1
    c.in-Err-judge.ensures.refused

pub returns-clause-only : goal.returns-clause-only
returns-clause-only c = λ valid.
    let lawful = c.in-Ok.ensures.item in
    memory_alone c.args.bytes.now (view c.in-Ok.root) c.in-Err-judge.refusal lawful.0 lawful.1
    c.in-Err-judge.ensures.refused valid
