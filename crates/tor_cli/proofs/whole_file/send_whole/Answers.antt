-- A front of the bytes went out.
use Rattle.std.proofs.Common.{subst, List, Option, ℕ}
use Rattle.std.proofs.lemmas.Result.{err_from_is_err_and}
use Rattle.tor_cli.specs.make.Request.{Sends, SendsFront}
use Rattle.tor_cli.proofs.whole_file.send_whole.Goals as goal

pub returns-in_err-send_into-clause-part : goal.returns-in_err-send_into-clause-part
returns-in_err-send_into-clause-part g c some =
    let front = subst (λ (file : Option (List ℕ)). SendsFront file (g.W.Write.contents c.args.out.now)
    (g.W.Write.contents c.send_into.new.out) c.in_err-send_into.field-0.0.written c.args.bytes.now)
    c.in_ok-file.ensures (c.in_err-send_into.ensures.part some) in
    let p =
    err_from_is_err_and c.from_residual-in_err-send_into.result c.from_residual-in_err-send_into.ensures.1 in
    rw (p.1, p.2) front

pub returns-clause-whole : goal.returns-clause-whole
returns-clause-whole g c = subst (λ (file : Option (List ℕ)). Sends file (g.W.Write.contents c.args.out.now)
    (g.W.Write.contents c.send_into.new.out) c.args.bytes.now) c.in_ok-file.ensures c.in_ok-send_into.ensures.whole
