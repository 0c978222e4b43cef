-- The lines went out that the bytes of the file have.
use Rattle.std.proofs.Common.{◌≤◌, arith, length}
use Rattle.tor_source.specs.declared.input.TheConstants.{MAX_INPUT_LENGTH}
use Rattle.tor_cli.proofs.Judging.{told_whole}
use Rattle.tor_cli.proofs.check.telling.tell_torrent.Goals as goal

pub returns-clause-printed : goal.returns-clause-printed
returns-clause-printed g c reader =
    let within : length c.deref.result.now ≤ MAX_INPUT_LENGTH =
    omega (arith, c.deref.ensures.len, c.in_ok-bytes.ensures) in
    told_whole _ _ _ _ _ within c.tell_bytes.result c.tell_bytes.ensures.printed
