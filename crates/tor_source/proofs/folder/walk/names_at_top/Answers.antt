use Rattle.std.proofs.Common.{[]}
use Rattle.tor_source.proofs.Entries.{entered_first}
use Rattle.tor_source.proofs.folder.walk.names_at_top.Goals as goal

pub returns : goal.returns
returns c = c.in_ok-add_names.ensures.ahead [] (rw c.new-waiting.ensures.items entered_first)
