use Rattle.tor_cli.proofs.fault.Fault.usage.Goals as goal

pub returns : goal.returns
returns c = (c.unwrap_or-cause.result.now, c.in_ok-format.ensures.ok)
